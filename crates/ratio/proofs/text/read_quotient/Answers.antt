use Rattle.std.proofs.Common.{◌<◌, ◌^◌, pos, sym, ◌∙◌, ap, ap₂, subst}
use Rattle.std.specs.Int.{w128}
use Rattle.std.specs.Str.Parse.{digits_value}
use Rattle.std.proofs.lemmas.Int.{to_z_pos}
use Rattle.algebra.specs.Steps.{quotient}
use Rattle.ratio.specs.Value.{valued}
use Rattle.ratio.proofs.MagnitudeLaws.{quotient_wide_above, quotient_wide_below, quotient_narrow}
use Rattle.ratio.proofs.text.read_quotient.Goals as goal

pub returns-in_err-top-clause-value : goal.returns-in_err-top-clause-value
returns-in_err-top-clause-value c = λ na nb. ap valued c.from_residual.ensures ∙ quotient_wide_above c.args.above.now c.args.below.now (λ l. c.in_err-top.ensures (na.1, l))

pub returns-in_err-bottom-clause-value : goal.returns-in_err-bottom-clause-value
returns-in_err-bottom-clause-value c = λ na nb. ap valued c.from_residual-in_err-bottom.ensures ∙ quotient_wide_below c.args.above.now c.args.below.now (λ l. c.in_err-bottom.ensures (nb.1, l))

pub returns-clause-value : goal.returns-clause-value
returns-clause-value c = λ na nb.
    let top : digits_value 10 c.args.above.now < 2 ^ 127 = c.in_ok-top.ensures.0.1 in
    let bottom : digits_value 10 c.args.below.now < 2 ^ 127 = c.in_ok-bottom.ensures.0.1 in
    c.new.ensures
    ∙ ap₂ quotient
    (to_z_pos w128 c.in_ok-top.top (subst (λ n. n < 2 ^ 127) (sym c.in_ok-top.ensures.1) top) ∙ ap pos c.in_ok-top.ensures.1)
    (to_z_pos w128 c.in_ok-bottom.bottom (subst (λ n. n < 2 ^ 127) (sym c.in_ok-bottom.ensures.1) bottom) ∙ ap pos c.in_ok-bottom.ensures.1)
    ∙ quotient_narrow c.args.above.now c.args.below.now top bottom
