use Rattle.std.proofs.Common.{[], refl, map}
use Rattle.calculus.specs.Polynomial.{derivative}
use Rattle.polyalg.specs.Prelude.{value_of}
use Rattle.lagrange.proofs.Sizes.{never}
use Rattle.basis_products.proofs.Lists.{more_numbers}
use Rattle.basis_products.proofs.factor.along_each.Goals as goal

pub loop-direction-preserved : goal.loop-direction-preserved
loop-direction-preserved c = record {
  value = more_numbers (λ i. map (derivative i) (map value_of c.args.functions.now)) c.loop-direction.direction [] _ _ c.loop-direction.invariant.value c.in_ok-push_derivatives.ensures.value;
  bounds = λ n k b h f. c.in_ok-push_derivatives.ensures.bounds c.args.d n k b h f (c.loop-direction.invariant.bounds n k b h f);
}

pub returns-in_err-push_derivatives-clause-fits : goal.returns-in_err-push_derivatives-clause-fits
returns-in_err-push_derivatives-clause-fits c n l b h g f =
    never _ c.from_residual.result _ c.in_err-push_derivatives.field-0.0 c.from_residual.ensures.0 c.from_residual.ensures.1 refl
    (c.in_err-push_derivatives.ensures.fits c.args.d n l b h g f)
