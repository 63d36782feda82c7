use Rattle.std.proofs.Common.{◌≡◌, ◌++◌, ◌∷◌, ◌<◌, ◌^◌, unsigned_abs, to_z, of_z, subst, sym, ◌∙◌, ap, ap₂, is_ok, if◌then◌else◌}
use Rattle.std.specs.Int.{w128}
use Rattle.std.specs.Fmt.{signed_decimal}
use Rattle.std.proofs.lemmas.Int.{to_z_pos}
use Rattle.algebra.specs.LowestTerms.{bottom}
use Rattle.ratio.specs.Value.{fraction_of}
use Rattle.ratio.proofs.ProductLaws.{plain_integer}
use Rattle.ratio.proofs.Reading.{top_reads, bottom_reads}
use Rattle.ratio.proofs.TextLaws.{text_of_whole, text_of_quotient}
use Rattle.ratio.proofs.reduced.Ratio.write.Goals as goal

pub returns-then-den-eq1 : goal.returns-then-den-eq1
returns-then-den-eq1 c =
    let small : unsigned_abs c.num-num.result < 2 ^ 127 = subst (λ z. unsigned_abs z < 2 ^ 127) (sym (c.num-num.ensures ∙ top_reads c.args.self)) c.args.self.fits in
    let whole : bottom (fraction_of c.args.self) ≡ 1 = sym (ap (of_z w128) c.den-den.ensures) ∙ c.if-den-eq1.true in
    c.extend_from_slice.ensures.items
    ∙ ap (λ t. if is_ok c.extend_from_slice.result then c.args.out.now.items ++ t else c.args.out.now.items)
    (c.as_bytes.ensures.value ∙ c.format.ensures.text ∙ ap signed_decimal (plain_integer c.num-num.result small ∙ c.num-num.ensures) ∙ text_of_whole (fraction_of c.args.self) whole)

pub returns-else-den-eq1 : goal.returns-else-den-eq1
returns-else-den-eq1 c =
    let small : unsigned_abs c.num-num.result < 2 ^ 127 = subst (λ z. unsigned_abs z < 2 ^ 127) (sym (c.num-num.ensures ∙ top_reads c.args.self)) c.args.self.fits in
    let narrow : bottom (fraction_of c.args.self) < 2 ^ 127 = subst (λ n. n < 2 ^ 127) (sym (bottom_reads c.args.self)) c.args.self.small in
    let above = c.as_bytes-else-den-eq1.ensures.value ∙ c.format-else-den-eq1.ensures.text ∙ ap signed_decimal (plain_integer c.num-num.result small ∙ c.num-num.ensures) in
    let below = c.as_bytes-else-den-eq1-2.ensures.value ∙ c.format-else-den-eq1-2.ensures.text
    ∙ ap (λ z. signed_decimal (to_z w128 (of_z w128 z))) c.den-den.ensures ∙ ap signed_decimal (to_z_pos w128 (bottom (fraction_of c.args.self)) narrow) in
    c.append_quotient.ensures
    ∙ ap (λ t. if is_ok c.append_quotient.result then c.args.out.now.items ++ t else c.args.out.now.items)
    (ap₂ (λ a b. a ++ (47 ∷ b)) above below
    ∙ text_of_quotient (fraction_of c.args.self) (λ h. c.if-den-eq1.false (ap (of_z w128) c.den-den.ensures ∙ h)))
