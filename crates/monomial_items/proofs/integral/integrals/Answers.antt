use Rattle.std.proofs.Common.{◌+◌, ◌*◌, ◌++◌, [], ◌∷◌, map, arith, ap, ◌∙◌, sym}
use Rattle.std.proofs.lemmas.List.{take_all}
use Rattle.algebra.specs.Fraction.{mul}
use Rattle.algebra.specs.Over.{Over}
use Rattle.ratio.specs.Value.{fraction_of}
use Rattle.calculus.specs.LocalFunction.{factorial}
use Rattle.polyalg.specs.Prelude.{value_of}
use Rattle.refint.proofs.Lists.{map_map}
use Rattle.lagrange.proofs.Sizes.{never}
use Rattle.basis_products.specs.Functions.{IsBounded}
use Rattle.basis_products.proofs.Lists.{more_mapped, pushed, all_at, all_pushed}
use Rattle.monomial_items.specs.Integrals.{integral_on}
use Rattle.monomial_items.proofs.StepLaws.{integral_value, integral_fits, integral_over, item_value, item_fits, item_over}
use Rattle.monomial_items.proofs.integral.integrals.Goals as goal

pub returns-in_err-integral-clause-range : goal.returns-in_err-integral-clause-range
returns-in_err-integral-clause-range c n l b h s f =
    never _ c.from_residual.result _ c.in_err-integral.field-0.0 c.from_residual.ensures.0 c.from_residual.ensures.1
    (integral_fits c.args.d n l b (fraction_of c.args.c) c.ref_integral.result c.p-item.result h
    (all_at (IsBounded c.args.d n l b) c.args.polynomials.now c.loop-p.p-index c.p-item.result (omega arith) c.p-item.is s) f c.ref_integral.ensures.steps)
    c.in_err-integral.ensures.range

pub returns-in_err-item-clause-range : goal.returns-in_err-item-clause-range
returns-in_err-item-clause-range c n l b h s f =
    never _ c.from_residual-in_err-item.result _ c.in_err-item.field-0.0 c.from_residual-in_err-item.ensures.0 c.from_residual-in_err-item.ensures.1
    (item_fits c.args.d n l b (fraction_of c.args.c) (fraction_of c.in_ok-integral.integral) c.mul.result f
    (integral_over c.args.d n l b (fraction_of c.args.c) c.ref_integral.result c.in_ok-integral.integral c.p-item.result h
    (all_at (IsBounded c.args.d n l b) c.args.polynomials.now c.loop-p.p-index c.p-item.result (omega arith) c.p-item.is s) f c.ref_integral.ensures.steps c.in_ok-integral.ensures.value)
    c.mul.ensures)
    c.in_err-item.ensures.range

pub loop-p-preserved : goal.loop-p-preserved
loop-p-preserved c = record {
  value = more_mapped (λ p. mul (fraction_of c.args.c) (integral_on c.args.d (value_of p))) c.args.polynomials.now c.loop-p.p-index c.p-item.result [] (map fraction_of c.loop-p.all.items) _
      (omega arith) c.p-item.is c.loop-p.invariant.value
      (pushed fraction_of _ _ _ c.in_ok-push.ensures.items
      ∙ ap (λ x. map fraction_of c.loop-p.all.items ++ x ∷ [])
      (item_value c.mul.result c.in_ok-item.item c.args.c c.in_ok-integral.integral c.in_ok-item.ensures.value c.mul.ensures
      ∙ ap (mul (fraction_of c.args.c)) (integral_value c.ref_integral.result c.in_ok-integral.integral c.args.d c.p-item.result c.in_ok-integral.ensures.value c.ref_integral.ensures.value)));
  bounds = λ n l b j i h o s f.
      all_pushed (λ x. Over (j * (l * factorial (n + c.args.d))) (i * (b * factorial (n + c.args.d))) (fraction_of x)) _ _ c.in_ok-item.item c.in_ok-push.ensures.items
      (c.loop-p.invariant.bounds n l b j i h o s f)
      (item_over c.args.d n l b j i (fraction_of c.args.c) (fraction_of c.in_ok-integral.integral) (fraction_of c.in_ok-item.item)
      (item_value c.mul.result c.in_ok-item.item c.args.c c.in_ok-integral.integral c.in_ok-item.ensures.value c.mul.ensures) o
      (integral_over c.args.d n l b (fraction_of c.args.c) c.ref_integral.result c.in_ok-integral.integral c.p-item.result h
      (all_at (IsBounded c.args.d n l b) c.args.polynomials.now c.loop-p.p-index c.p-item.result (omega arith) c.p-item.is s) f c.ref_integral.ensures.steps c.in_ok-integral.ensures.value));
}

pub returns-clause-value : goal.returns-clause-value
returns-clause-value c =
    c.loop-p.invariant.value
    ∙ ap (map (λ p. mul (fraction_of c.args.c) (integral_on c.args.d (value_of p)))) (take_all c.loop-p.p-index c.args.polynomials.now (omega arith))
    ∙ sym (map_map (λ p. mul (fraction_of c.args.c) (integral_on c.args.d p)) value_of c.args.polynomials.now)
