use Rattle.std.proofs.Common.{◌*◌, arith, ap, ◌∙◌, sym, add-one}
use Rattle.calculus.proofs.Barycentric.{coordinate_sum}
use Rattle.lagrange.proofs.FactorLaws.{sum_begin, sum_step, corner_is}
use Rattle.ratio.specs.Value.{fraction_of}
use Rattle.polyalg.specs.Terms.{value_of}
use Rattle.polyalg.proofs.SizeLaws.{size_at, size_coordinate}
use Rattle.lagrange.proofs.Sizes.{sum_stays, multiple_stays, never, sum_size, start_size, minus_one_over, negated_size}
use Rattle.lagrange.proofs.functions.corner.Goals as goal

pub loop-k-init : goal.loop-k-init
loop-k-init c = (sum_begin _ _ c.in_ok-sum.ensures.value c.zero.ensures, omega (arith, c.in_ok-sum.ensures.degree), c.in_ok-sum.ensures.variables c.args.d, c.in_ok-sum.ensures.lawful)

pub loop-k-preserved : goal.loop-k-preserved
loop-k-preserved c = (
  sum_step c.loop-k.k _ _ _ c.loop-k.invariant.0 c.in_ok-variable.ensures.value c.in_ok-sum-2.ensures.value ∙ ap coordinate_sum (sym (add-one c.loop-k.k)),
  omega (arith, c.in_ok-sum-2.ensures.degree, c.in_ok-variable.ensures.degree, c.loop-k.invariant.1),
  c.in_ok-sum-2.ensures.variables c.args.d c.loop-k.invariant.2 (c.in_ok-variable.ensures.variables c.args.d (omega (arith, c.loop-k-test.true))),
  c.in_ok-sum-2.ensures.lawful,
)

pub returns-clause-value : goal.returns-clause-value
returns-clause-value c =
    corner_is c.args.d c.loop-k.k _ _ _ _ _ _ _ c.loop-k.invariant.0 (omega (arith, c.loop-k-test.false)) c.neg.ensures c.one.ensures c.in_ok-negated.ensures.value
    c.one-2.ensures c.in_ok-one.ensures.value c.in_ok-corner.ensures.value

pub returns-clause-variables : goal.returns-clause-variables
returns-clause-variables c =
    c.in_ok-corner.ensures.variables c.args.d (c.in_ok-one.ensures.variables c.args.d) (c.in_ok-negated.ensures.variables c.args.d c.loop-k.invariant.2)

pub returns-in_err-sum-2-clause-fits : goal.returns-in_err-sum-2-clause-fits
returns-in_err-sum-2-clause-fits c =
    never _ c.from_residual-in_err-sum-2.result _ c.in_err-sum-2.field-0.0 c.from_residual-in_err-sum-2.ensures.0 c.from_residual-in_err-sum-2.ensures.1
    (sum_stays 1 c.loop-k.k 1 c.loop-k.sum c.in_ok-variable.variable c.loop-k.invariant.3 c.in_ok-variable.ensures.lawful
    (omega arith) (omega (arith, c.loop-k-test.true, c.requires))
    (size_at 1 c.loop-k.k _ _ c.loop-k.invariant.0 (sum_size c.loop-k.k)) (size_at 1 1 _ _ c.in_ok-variable.ensures.value (size_coordinate c.loop-k.k)))
    c.in_err-sum-2.ensures.range

pub returns-in_err-negated-clause-fits : goal.returns-in_err-negated-clause-fits
returns-in_err-negated-clause-fits c =
    never _ c.from_residual-in_err-negated.result _ c.in_err-negated.field-0.0 c.from_residual-in_err-negated.ensures.0 c.from_residual-in_err-negated.ensures.1
    (multiple_stays 1 1 c.loop-k.k 1 (fraction_of c.neg.result) c.loop-k.sum c.loop-k.invariant.3
    (omega arith) (omega (arith, c.loop-k.auto.k-end, c.requires))
    (size_at 1 c.loop-k.k _ _ c.loop-k.invariant.0 (sum_size c.loop-k.k)) (minus_one_over (fraction_of c.neg.result) (fraction_of c.one.result) c.neg.ensures c.one.ensures))
    c.in_err-negated.ensures.range

pub returns-in_err-corner-clause-fits : goal.returns-in_err-corner-clause-fits
returns-in_err-corner-clause-fits c =
    never _ c.from_residual-in_err-corner.result _ c.in_err-corner.field-0.0 c.from_residual-in_err-corner.ensures.0 c.from_residual-in_err-corner.ensures.1
    (sum_stays 1 1 (1 * c.loop-k.k) c.in_ok-one.one c.in_ok-negated.negated c.in_ok-one.ensures.lawful c.in_ok-negated.ensures.lawful
    (omega arith) (omega (arith, c.loop-k.auto.k-end, c.requires))
    (start_size _ _ c.in_ok-one.ensures.value c.one-2.ensures)
    (negated_size c.loop-k.k _ _ (value_of c.loop-k.sum) _ c.loop-k.invariant.0 c.neg.ensures c.one.ensures c.in_ok-negated.ensures.value))
    c.in_err-corner.ensures.range
