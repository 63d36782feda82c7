use Rattle.std.proofs.Common.{◌≤◌, ◌++◌, map, arith, ap, ◌∙◌, sym, refl}
use Rattle.std.specs.List.{flat_map}
use Rattle.std.proofs.lemmas.List.{take_all}
use Rattle.calculus.specs.Polynomial.{times}
use Rattle.polyalg.specs.Prelude.{value_of, degree_of}
use Rattle.refint.proofs.Lists.{flat_of_map}
use Rattle.lagrange.proofs.Sizes.{never}
use Rattle.basis_products.specs.Functions.{IsBounded}
use Rattle.basis_products.proofs.Lists.{more_items, all_at}
use Rattle.basis_products.proofs.products.push_products.Goals as goal

pub push_multiples-requires-clause-left : goal.push_multiples-requires-clause-left
push_multiples-requires-clause-left c = all_at (λ ts. degree_of ts ≤ 3) c.args.left.now c.loop-p.p-index c.p-item.result (omega arith) c.p-item.is c.requires.left

pub loop-p-preserved : goal.loop-p-preserved
loop-p-preserved c = record {
  value = more_items (λ p. map (times (value_of p)) (map value_of c.args.right.now)) c.args.left.now c.loop-p.p-index c.p-item.result
      (map value_of c.args.items.now.items) _ _ (omega arith) c.p-item.is c.loop-p.invariant.value c.in_ok-push_multiples.ensures.value;
  bounds = λ d n l b m k e h g f s t.
      c.in_ok-push_multiples.ensures.bounds d n l b m k e h g
      (all_at (IsBounded d n l b) c.args.left.now c.loop-p.p-index c.p-item.result (omega arith) c.p-item.is f) s (c.loop-p.invariant.bounds d n l b m k e h g f s t);
}

pub returns-in_err-push_multiples-clause-range : goal.returns-in_err-push_multiples-clause-range
returns-in_err-push_multiples-clause-range c d n l b m k e p h g f s =
    never _ c.from_residual.result _ c.in_err-push_multiples.field-0.0 c.from_residual.ensures.0 c.from_residual.ensures.1 refl
    (c.in_err-push_multiples.ensures.range d n l b m k e p h g
    (all_at (IsBounded d n l b) c.args.left.now c.loop-p.p-index c.p-item.result (omega arith) c.p-item.is f) s)

pub returns-clause-value : goal.returns-clause-value
returns-clause-value c =
    c.loop-p.invariant.value
    ∙ ap (λ r. map value_of c.args.items.now.items ++ r)
    (ap (flat_map (λ p. map (times (value_of p)) (map value_of c.args.right.now))) (take_all c.loop-p.p-index c.args.left.now (omega arith))
    ∙ sym (flat_of_map (λ p. map (times p) (map value_of c.args.right.now)) value_of c.args.left.now))
