use Rattle.std.proofs.Common.{◌≡◌, ℕ, ◌+◌, ◌*◌, ◌<◌, ◌++◌, map, take}
use Rattle.std.specs.List.{flat_map}
use Rattle.calculus.specs.Polynomial.{times}
use Rattle.polyalg.specs.Prelude.{value_of}
use Rattle.basis_products.specs.Functions.{AreBounded}
use Rattle.basis_products.proofs.products.push_products.Given as goal

abbrev pub invariant-loop-p : goal.invariant-loop-p
invariant-loop-p l = record {
  value : map value_of l.items.items ≡ map value_of l.fn.items.items ++ flat_map (λ p. map (times (value_of p)) (map value_of l.right)) (take l.p-index l.left);
  bounds : (d n x b m y e : ℕ) → 0 < x → 0 < y → AreBounded d n x b l.left → AreBounded d m y e l.right → AreBounded d (n + m) (x * y) (b * e) l.fn.items.items
      → AreBounded d (n + m) (x * y) (b * e) l.items.items;
}
