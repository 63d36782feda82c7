use Rattle.std.proofs.Common.{◌≡◌, ℕ, ◌+◌, ◌*◌, ◌<◌, ◌++◌, map, take}
use Rattle.calculus.specs.Polynomial.{times}
use Rattle.polyalg.specs.Prelude.{value_of}
use Rattle.basis_products.specs.Functions.{IsBounded, AreBounded}
use Rattle.basis_products.proofs.products.push_multiples.Given as goal

abbrev pub invariant-loop-q : goal.invariant-loop-q
invariant-loop-q l = record {
  value : map value_of l.items.items ≡ map value_of l.fn.items.items ++ map (λ q. times (value_of l.left) (value_of q)) (take l.q-index l.right);
  bounds : (d n x b m y e : ℕ) → 0 < x → 0 < y → IsBounded d n x b l.left → AreBounded d m y e l.right → AreBounded d (n + m) (x * y) (b * e) l.fn.items.items
      → AreBounded d (n + m) (x * y) (b * e) l.items.items;
}
