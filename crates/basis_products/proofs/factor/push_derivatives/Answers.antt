use Rattle.std.proofs.Common.{◌++◌, [], ◌∷◌, map, arith, ap, ◌∙◌, sym}
use Rattle.std.proofs.lemmas.List.{take_all}
use Rattle.calculus.specs.Polynomial.{derivative}
use Rattle.polyalg.specs.Prelude.{value_of}
use Rattle.refint.proofs.Lists.{map_map}
use Rattle.lagrange.proofs.Sizes.{never}
use Rattle.basis_products.specs.Functions.{IsBounded}
use Rattle.basis_products.proofs.Lists.{more_mapped, pushed, all_at}
use Rattle.basis_products.proofs.FunctionLaws.{all_derived, derived_fits}
use Rattle.basis_products.proofs.factor.push_derivatives.Goals as goal

pub loop-function-preserved : goal.loop-function-preserved
loop-function-preserved c = record {
  value = more_mapped (λ ts. derivative c.args.direction (value_of ts)) c.args.functions.now c.loop-function.function-index c.function-item.result
      (map value_of c.args.all.now.items) (map value_of c.loop-function.all.items) _ (omega arith) c.function-item.is c.loop-function.invariant.value
      (pushed value_of _ _ _ c.in_ok-push.ensures.items ∙ ap (λ p. map value_of c.loop-function.all.items ++ p ∷ []) c.in_ok-derive.ensures.value);
  bounds = λ d n k b h f g.
      all_derived d n k b c.args.direction c.args.functions.now c.loop-function.function-index c.function-item.result _ _ _ c.requires h (omega arith) c.function-item.is
      c.in_ok-derive.ensures.lawful c.in_ok-derive.ensures.value c.in_ok-push.ensures.items f (c.loop-function.invariant.bounds d n k b h f g);
}

pub returns-in_err-derive-clause-fits : goal.returns-in_err-derive-clause-fits
returns-in_err-derive-clause-fits c d n l b h g f =
    never _ c.from_residual.result _ c.in_err-derive.field-0.0 c.from_residual.ensures.0 c.from_residual.ensures.1
    (derived_fits d n l b c.args.direction c.function-item.result h g (all_at (IsBounded d n l b) c.args.functions.now c.loop-function.function-index c.function-item.result (omega arith) c.function-item.is f))
    c.in_err-derive.ensures.range

pub returns-clause-value : goal.returns-clause-value
returns-clause-value c =
    c.loop-function.invariant.value
    ∙ ap (λ r. map value_of c.args.all.now.items ++ r)
    (ap (map (λ ts. derivative c.args.direction (value_of ts))) (take_all c.loop-function.function-index c.args.functions.now (omega arith))
    ∙ sym (map_map (derivative c.args.direction) value_of c.args.functions.now))
