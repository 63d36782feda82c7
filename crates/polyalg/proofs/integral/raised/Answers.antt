use Rattle.std.proofs.Common.{◌≡◌, suc, ◌+◌, ◌-◌, None, arith, sym, ap, ◌∙◌, add-one}
use Rattle.algebra.specs.Steps.{product}
use Rattle.ratio.specs.Value.{fraction_of, valued}
use Rattle.polyalg.specs.Small.{over}
use Rattle.polyalg.specs.ReferenceIntegral.{raised}
use Rattle.polyalg.proofs.IntegralLaws.{raised_fails, raised_step}
use Rattle.polyalg.proofs.integral.raised.Goals as goal

pub returns-in_err-product : goal.returns-in_err-product
returns-in_err-product c =
    let i = c.loop-i.i in
    let all : (c.args.n - suc i) + suc i ≡ c.args.n = omega (arith, c.loop-i-test.true) in
    let part : over (suc i) (c.args.below + suc i) ≡ fraction_of c.quotient.result = sym (c.quotient.ensures ∙ ap (λ k. over k (c.args.below + k)) (add-one i)) in
    ap valued c.from_residual.ensures
    ∙ sym (ap (λ k. raised c.args.below k (fraction_of c.args.start)) (sym all)
    ∙ raised_fails c.args.below (suc i) (c.args.n - suc i) (fraction_of c.args.start)
    (raised_step c.args.below i (fraction_of c.args.start) (fraction_of c.loop-i.product) None c.loop-i.invariant
    (ap (product (fraction_of c.loop-i.product)) part ∙ sym c.in_err-product.ensures)))
