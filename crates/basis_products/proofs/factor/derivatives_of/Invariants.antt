use Rattle.std.proofs.Common.{◌≡◌, ℕ, ◌-◌, ◌*◌, ◌^◌, ◌<◌, ◌≤◌, [], ◌∷◌, map}
use Rattle.polyalg.specs.Prelude.{value_of}
use Rattle.basis_products.specs.Functions.{all_along, AreBounded}
use Rattle.basis_products.proofs.factor.derivatives_of.Given as goal

abbrev pub invariant-loop : goal.invariant-loop
invariant-loop l = record {
  value : map value_of l.all.items ≡ all_along l.d l.counter (value_of l.fn.function);
  bounds : (n k b : ℕ) → n ≤ 3 → 0 < k → AreBounded l.d n k b (l.fn.function ∷ []) → AreBounded l.d (n - l.counter) k (b * 3 ^ l.counter) l.all.items;
}
