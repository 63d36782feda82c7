use Rattle.std.proofs.Common.{◌≡◌, ℕ, ◌+◌, ◌*◌, ◌<◌, map, take}
use Rattle.calculus.specs.Polynomial.{times}
use Rattle.polyalg.specs.Prelude.{value_of}
use Rattle.basis_products.specs.Functions.{AreBounded}
use Rattle.basis_products.specs.Order.{joined}
use Rattle.basis_products.proofs.products.Products.with.Given as goal

abbrev pub invariant-loop-pair : goal.invariant-loop-pair
invariant-loop-pair l = record {
  value : map value_of l.items.items
      ≡ joined times l.factor.directions (map value_of l.factor.functions.items) l.self.sizes.directions (map value_of l.self.items.items) (take l.pair-index l.pair-items);
  bounds : (d n x b m y e : ℕ) → 0 < x → 0 < y → AreBounded d n x b l.factor.functions.items → AreBounded d m y e l.self.items.items → AreBounded d (n + m) (x * y) (b * e) l.items.items;
}
