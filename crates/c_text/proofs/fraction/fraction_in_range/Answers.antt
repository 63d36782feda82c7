use Rattle.std.proofs.Common.{rules, FitsSigned, ◌≡◌, ◌∙◌, sym, ap, ap₂, pos, to_z, of_z, to_z-of_z}
use Rattle.std.specs.Int.{w128}
use Rattle.std.proofs.lemmas.Int.{to_z_pos}
use Rattle.algebra.specs.Sign.{signed}
use Rattle.algebra.specs.Steps.{quotient}
use Rattle.std.proofs.lemmas.Bool.{true≢false}
use Rattle.c_text.proofs.LowestLaws.{none_new, kept, other_parts, no_pos}
use Rattle.c_text.proofs.fraction.fraction_in_range.Goals as goal

pub returns-in_default : goal.returns-in_default
returns-in_default c =
    let f : FitsSigned w128 c.with_sign-num.result = search rules in
    let n : to_z w128 (of_z w128 c.with_sign-num.result) ≡ signed c.args.negative c.args.top = to_z-of_z f ∙ c.with_sign-num.ensures in
    none_new c.args.negative c.args.top c.args.bottom (c.in_default.ensures ∙ ap₂ quotient n (to_z_pos w128 c.args.bottom c.requires.bottom_fits))

pub returns-then-has_parts : goal.returns-then-has_parts
returns-then-has_parts c =
    let h = c.has_parts.ensures.0 c.if-has_parts.true in
    let f : FitsSigned w128 c.with_sign-num.result = search rules in
    let n : to_z w128 (of_z w128 c.with_sign-num.result) ≡ signed c.args.negative c.args.top = to_z-of_z f ∙ c.with_sign-num.ensures in
    kept c.args.negative c.args.top c.args.bottom c.in-Some.value (h.0 ∙ n) (no_pos _ _ (h.1 ∙ to_z_pos w128 c.args.bottom c.requires.bottom_fits)) c.requires.proper

pub returns-else-has_parts : goal.returns-else-has_parts
returns-else-has_parts c =
    let f : FitsSigned w128 c.with_sign-num.result = search rules in
    let n : to_z w128 (of_z w128 c.with_sign-num.result) ≡ signed c.args.negative c.args.top = to_z-of_z f ∙ c.with_sign-num.ensures in
    let d = to_z_pos w128 c.args.bottom c.requires.bottom_fits in
    other_parts c.args.negative c.args.top c.args.bottom c.in-Some.value (c.in-Some.ensures ∙ ap₂ quotient n d)
    (λ h. true≢false (sym (c.has_parts.ensures.1 (h.0 ∙ sym n, ap pos h.1 ∙ sym d)) ∙ c.if-has_parts.false))
