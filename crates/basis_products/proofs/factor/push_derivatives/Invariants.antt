use Rattle.std.proofs.Common.{◌≡◌, ℕ, ◌-◌, ◌*◌, ◌<◌, ◌++◌, map, take}
use Rattle.calculus.specs.Polynomial.{derivative}
use Rattle.polyalg.specs.Prelude.{value_of}
use Rattle.basis_products.specs.Functions.{AreBounded}
use Rattle.basis_products.proofs.factor.push_derivatives.Given as goal

abbrev pub invariant-loop-function : goal.invariant-loop-function
invariant-loop-function l = record {
  value : map value_of l.all.items ≡ map value_of l.fn.all.items ++ map (λ ts. derivative l.direction (value_of ts)) (take l.function-index l.functions);
  bounds : (d n k b : ℕ) → 0 < k → AreBounded d n k b l.functions → AreBounded d (n - 1) k (b * n) l.fn.all.items → AreBounded d (n - 1) k (b * n) l.all.items;
}
