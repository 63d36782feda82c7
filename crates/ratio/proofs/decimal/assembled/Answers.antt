use Rattle.std.proofs.Common.{◌≡◌, ◌<◌, ◌^◌, true, false, sym, ◌∙◌, ap, subst}
use Rattle.std.specs.Str.Parse.{AllDigits, digits_value, digits_value_after}
use Rattle.algebra.specs.Steps.{fitting}
use Rattle.ratio.specs.NumberText.{decimal_value}
use Rattle.ratio.specs.Value.{valued}
use Rattle.ratio.proofs.DecimalLaws.{wide_value, narrow_value, significant_digits, significand_is, front_wide, behind_wide, moved_down, moved_up}
use Rattle.ratio.proofs.decimal.assembled.Goals as goal

pub returns-in_err-appended : goal.returns-in_err-appended
returns-in_err-appended c =
    let digits = significant_digits c.args.whole.now c.args.fraction.now c.significant.result.0.now c.significant.result.1.now c.significant.ensures c.requires.whole c.requires.fraction in
    ap valued c.from_residual.ensures
    ∙ wide_value (record { whole = c.args.whole.now; fraction = c.args.fraction.now; lowered = c.args.exponent.negative; exponent = c.args.exponent.size })
    (front_wide c.args.whole.now c.args.fraction.now c.significant.result.0.now c.significant.result.1.now c.significant.ensures digits.0 c.in_err-appended.ensures)

pub returns-in_err-m : goal.returns-in_err-m
returns-in_err-m c =
    let digits = significant_digits c.args.whole.now c.args.fraction.now c.significant.result.0.now c.significant.result.1.now c.significant.ensures c.requires.whole c.requires.fraction in
    ap valued c.from_residual-in_err-m.ensures
    ∙ wide_value (record { whole = c.args.whole.now; fraction = c.args.fraction.now; lowered = c.args.exponent.negative; exponent = c.args.exponent.size })
    (behind_wide c.args.whole.now c.args.fraction.now c.significant.result.0.now c.significant.result.1.now c.significant.ensures digits.1
    (subst (λ n. ¬ (AllDigits 10 c.significant.result.1.now × (digits_value_after 10 n c.significant.result.1.now < 2 ^ 127))) c.in_ok-appended.ensures.1 c.in_err-m.ensures))

pub returns-then-exponent : goal.returns-then-exponent
returns-then-exponent c =
    let value : c.in_ok-m.m ≡ digits_value_after 10 (digits_value 10 c.significant.result.0.now) c.significant.result.1.now = c.in_ok-m.ensures.1 ∙ ap (λ n. digits_value_after 10 n c.significant.result.1.now) c.in_ok-appended.ensures.1 in
    let is = significand_is c.args.whole.now c.args.fraction.now c.significant.result.0.now c.significant.result.1.now c.significant.ensures in
    c.scaled.ensures
    ∙ ap fitting (moved_down c.args.whole.now c.args.fraction.now c.significant.result.0.now c.significant.result.1.now c.significant.ensures c.in_ok-m.m c.args.exponent.size value)
    ∙ narrow_value (record { whole = c.args.whole.now; fraction = c.args.fraction.now; lowered = true; exponent = c.args.exponent.size }) (subst (λ n. n < 2 ^ 127) (sym (c.in_ok-m.ensures.1) ∙ value ∙ is) c.in_ok-m.ensures.0.1)
    ∙ ap (λ b. decimal_value (record { whole = c.args.whole.now; fraction = c.args.fraction.now; lowered = b; exponent = c.args.exponent.size })) (sym c.if-exponent.true)

pub returns-else-exponent : goal.returns-else-exponent
returns-else-exponent c =
    let value : c.in_ok-m.m ≡ digits_value_after 10 (digits_value 10 c.significant.result.0.now) c.significant.result.1.now = c.in_ok-m.ensures.1 ∙ ap (λ n. digits_value_after 10 n c.significant.result.1.now) c.in_ok-appended.ensures.1 in
    let is = significand_is c.args.whole.now c.args.fraction.now c.significant.result.0.now c.significant.result.1.now c.significant.ensures in
    c.scaled-else-exponent.ensures
    ∙ ap fitting (moved_up c.args.whole.now c.args.fraction.now c.significant.result.0.now c.significant.result.1.now c.significant.ensures c.in_ok-m.m c.args.exponent.size value)
    ∙ narrow_value (record { whole = c.args.whole.now; fraction = c.args.fraction.now; lowered = false; exponent = c.args.exponent.size }) (subst (λ n. n < 2 ^ 127) (sym (c.in_ok-m.ensures.1) ∙ value ∙ is) c.in_ok-m.ensures.0.1)
    ∙ ap (λ b. decimal_value (record { whole = c.args.whole.now; fraction = c.args.fraction.now; lowered = b; exponent = c.args.exponent.size })) (sym c.if-exponent.false)
