use Rattle.std.proofs.Common.{◌≡◌, ℕ, ◌-◌, ◌*◌, ◌<◌, map}
use Rattle.std.specs.List.{flat_map}
use Rattle.calculus.specs.Polynomial.{derivative}
use Rattle.polyalg.specs.Prelude.{value_of}
use Rattle.refint.specs.Local.{numbers_below}
use Rattle.basis_products.specs.Functions.{AreBounded}
use Rattle.basis_products.proofs.factor.along_each.Given as goal

abbrev pub invariant-loop-direction : goal.invariant-loop-direction
invariant-loop-direction l = record {
  value : map value_of l.all.items ≡ flat_map (λ i. map (derivative i) (map value_of l.functions)) (numbers_below l.direction);
  bounds : (n k b : ℕ) → 0 < k → AreBounded l.d n k b l.functions → AreBounded l.d (n - 1) k (b * n) l.all.items;
}
