use Rattle.std.proofs.Common.{suc, ◌+◌, ◌*◌, ◌≤◌, arith, ap, ◌∙◌, sym, add-one}
use Rattle.calculus.specs.Polynomial.{times, whole}
use Rattle.calculus.specs.LocalFunction.{falling}
use Rattle.polyalg.specs.Terms.{value_of}
use Rattle.lagrange.proofs.FactorLaws.{factor_begin, factor_step, factor_done, scaled_is, negated_is}
use native.Mathlib.Nat as N
use Rattle.ratio.specs.Value.{fraction_of}
use Rattle.calculus.specs.LocalFunction.{factorial}
use Rattle.polyalg.specs.Bounds.{HasSize}
use Rattle.polyalg.proofs.SizeLaws.{size_at, size_plus}
use Rattle.lagrange.proofs.Sizes.{sum_stays, product_stays, multiple_stays, never, scaled_size, falling_size, rising, rising_few, factorial_few, whole_over, reciprocal_over, shift_size}
use Rattle.lagrange.proofs.functions.factor.Goals as goal

pub loop-m-init : goal.loop-m-init
loop-m-init c = (factor_begin (times (whole c.args.q) (value_of c.args.coordinate.now)) _ _ c.in_ok-product.ensures.value c.one.ensures, omega (arith, c.in_ok-product.ensures.degree), λ d h. c.in_ok-product.ensures.variables d, c.in_ok-product.ensures.lawful)

pub loop-m-preserved : goal.loop-m-preserved
loop-m-preserved c = (
  factor_step (times (whole c.args.q) (value_of c.args.coordinate.now)) _ _ _ _ _ _ c.loop-m.m c.loop-m.invariant.0
      (scaled_is c.args.q _ _ _ c.in_ok-scaled.ensures.value c.whole.ensures) (negated_is c.loop-m.m _ _ c.neg-root.ensures c.whole-in-loop-m.ensures)
      c.in_ok-shift.ensures.value c.in_ok-next.ensures.value c.in_ok-product-2.ensures.value
      ∙ ap (falling (times (whole c.args.q) (value_of c.args.coordinate.now))) (sym (add-one c.loop-m.m)),
  omega (arith, c.in_ok-product-2.ensures.degree, c.in_ok-next.ensures.degree, c.in_ok-shift.ensures.degree, c.in_ok-scaled.ensures.degree, c.requires.degree, c.loop-m.invariant.1),
  λ d h. c.in_ok-product-2.ensures.variables d (c.loop-m.invariant.2 d h) (c.in_ok-next.ensures.variables d (c.in_ok-scaled.ensures.variables d h) (c.in_ok-shift.ensures.variables d)),
  c.in_ok-product-2.ensures.lawful,
)

pub returns-clause-value : goal.returns-clause-value
returns-clause-value c =
    factor_done c.args.q _ _ c.args.a _ _ _ _ c.in_ok-function.ensures.value c.quotient.ensures c.factorial.ensures.value c.loop-m.invariant.0 (omega (arith, c.loop-m-test.false))

pub returns-clause-variables : goal.returns-clause-variables
returns-clause-variables c d h = c.in_ok-function.ensures.variables d (c.loop-m.invariant.2 d h)

pub returns-in_err-scaled-clause-fits : goal.returns-in_err-scaled-clause-fits
returns-in_err-scaled-clause-fits c =
    never _ c.from_residual.result _ c.in_err-scaled.field-0.0 c.from_residual.ensures.0 c.from_residual.ensures.1
    (multiple_stays 1 1 4 c.args.q (fraction_of c.whole.result) c.args.coordinate.now c.requires.lawful
    (omega arith) (omega (arith, c.requires.few.0)) c.requires.size (whole_over c.args.q _ c.whole.ensures))
    c.in_err-scaled.ensures.range

pub returns-in_err-next-clause-fits : goal.returns-in_err-next-clause-fits
returns-in_err-next-clause-fits c =
    never _ c.from_residual-in_err-next.result _ c.in_err-next.field-0.0 c.from_residual-in_err-next.ensures.0 c.from_residual-in_err-next.ensures.1
    (sum_stays 1 (c.args.q * 4) c.loop-m.m c.in_ok-scaled.scaled c.in_ok-shift.shift c.in_ok-scaled.ensures.lawful c.in_ok-shift.ensures.lawful
    (omega arith) (omega (arith, c.requires.few.0, c.requires.few.1, c.loop-m-test.true))
    (size_at 1 (c.args.q * 4) _ _ (scaled_is c.args.q _ _ _ c.in_ok-scaled.ensures.value c.whole.ensures) (scaled_size c.args.q _ c.requires.size))
    (shift_size c.loop-m.m _ _ (negated_is c.loop-m.m _ _ c.neg-root.ensures c.whole-in-loop-m.ensures) c.in_ok-shift.ensures.value))
    c.in_err-next.ensures.range

pub returns-in_err-product-2-clause-fits : goal.returns-in_err-product-2-clause-fits
returns-in_err-product-2-clause-fits c =
    let scaled : HasSize 1 (c.args.q * 4) (times (whole c.args.q) (value_of c.args.coordinate.now)) = scaled_size c.args.q _ c.requires.size in
    never _ c.from_residual-in_err-product-2.result _ c.in_err-product-2.field-0.0 c.from_residual-in_err-product-2.ensures.0 c.from_residual-in_err-product-2.ensures.1
    (product_stays 1 1 (rising (c.args.q * 4) c.loop-m.m) (c.args.q * 4 + c.loop-m.m) c.loop-m.product c.in_ok-next.next c.loop-m.invariant.3 c.in_ok-next.ensures.lawful
    (omega arith)
    (N.lt_of_le_of_lt (rising_few c.args.q (suc c.loop-m.m) c.requires.few.0 (omega (arith, c.requires.few.1, c.loop-m-test.true))) (omega arith))
    (size_at 1 _ _ _ c.loop-m.invariant.0 (falling_size (c.args.q * 4) c.loop-m.m _ scaled))
    (size_at 1 _ _ _ c.in_ok-next.ensures.value
    (size_plus 1 (c.args.q * 4) c.loop-m.m _ _
    (size_at 1 (c.args.q * 4) _ _ (scaled_is c.args.q _ _ _ c.in_ok-scaled.ensures.value c.whole.ensures) scaled)
    (shift_size c.loop-m.m _ _ (negated_is c.loop-m.m _ _ c.neg-root.ensures c.whole-in-loop-m.ensures) c.in_ok-shift.ensures.value))))
    c.in_err-product-2.ensures.range

pub returns-in_err-function-clause-fits : goal.returns-in_err-function-clause-fits
returns-in_err-function-clause-fits c =
    let few : rising (c.args.q * 4) c.loop-m.m ≤ 2184 = rising_few c.args.q c.loop-m.m c.requires.few.0 (omega (arith, c.requires.few.1, c.loop-m.auto.m-end)) in
    never _ c.from_residual-in_err-function.result _ c.in_err-function.field-0.0 c.from_residual-in_err-function.ensures.0 c.from_residual-in_err-function.ensures.1
    (multiple_stays 1 (factorial c.args.a) (rising (c.args.q * 4) c.loop-m.m) 1 (fraction_of c.quotient.result) c.loop-m.product c.loop-m.invariant.3
    (omega (arith, factorial_few c.args.a c.requires.few.1)) (omega (arith, few))
    (size_at 1 _ _ _ c.loop-m.invariant.0 (falling_size (c.args.q * 4) c.loop-m.m _ (scaled_size c.args.q _ c.requires.size)))
    (reciprocal_over c.args.a _ _ c.quotient.ensures c.factorial.ensures.value))
    c.in_err-function.ensures.range
