use Rattle.std.proofs.Common.{◌≤◌, ◌++◌, [], ◌∷◌, map, arith, ap, ◌∙◌, sym}
use Rattle.std.proofs.lemmas.List.{take_all}
use Rattle.calculus.specs.Polynomial.{times}
use Rattle.polyalg.specs.Prelude.{value_of, degree_of}
use Rattle.refint.proofs.Lists.{map_map}
use Rattle.lagrange.proofs.Sizes.{never}
use Rattle.basis_products.specs.Functions.{IsBounded}
use Rattle.basis_products.proofs.Lists.{more_mapped, pushed, all_at}
use Rattle.basis_products.proofs.ProductLaws.{all_multiplied, product_fits_within}
use Rattle.basis_products.proofs.products.push_multiples.Goals as goal

pub mul-requires : goal.mul-requires
mul-requires c =
    let low = all_at (λ ts. degree_of ts ≤ 65532) c.args.right.now c.loop-q.q-index c.q-item.result (omega arith) c.q-item.is c.requires.right in
    omega (arith, low, c.requires.left)

pub loop-q-preserved : goal.loop-q-preserved
loop-q-preserved c = record {
  value = more_mapped (λ q. times (value_of c.args.left.now) (value_of q)) c.args.right.now c.loop-q.q-index c.q-item.result
      (map value_of c.args.items.now.items) (map value_of c.loop-q.items.items) _ (omega arith) c.q-item.is c.loop-q.invariant.value
      (pushed value_of _ _ _ c.in_ok-push.ensures.items ∙ ap (λ p. map value_of c.loop-q.items.items ++ p ∷ []) c.in_ok-mul.ensures.value);
  bounds = λ d n l b m k e h g f s t.
      all_multiplied d n l b m k e c.args.left.now c.args.right.now c.loop-q.q-index c.q-item.result _ _ _ h g (omega arith) c.q-item.is
      c.in_ok-mul.ensures.lawful c.in_ok-mul.ensures.value c.in_ok-mul.ensures.degree (c.in_ok-mul.ensures.variables d) c.in_ok-push.ensures.items f s (c.loop-q.invariant.bounds d n l b m k e h g f s t);
}

pub returns-in_err-mul-clause-range : goal.returns-in_err-mul-clause-range
returns-in_err-mul-clause-range c d n l b m k e p h g f s =
    never _ c.from_residual.result _ c.in_err-mul.field-0.0 c.from_residual.ensures.0 c.from_residual.ensures.1
    (product_fits_within d n l b m k e c.args.left.now c.q-item.result p h g f (all_at (IsBounded d m k e) c.args.right.now c.loop-q.q-index c.q-item.result (omega arith) c.q-item.is s))
    c.in_err-mul.ensures.range

pub returns-clause-value : goal.returns-clause-value
returns-clause-value c =
    c.loop-q.invariant.value
    ∙ ap (λ r. map value_of c.args.items.now.items ++ r)
    (ap (map (λ q. times (value_of c.args.left.now) (value_of q))) (take_all c.loop-q.q-index c.args.right.now (omega arith))
    ∙ sym (map_map (times (value_of c.args.left.now)) value_of c.args.right.now))
