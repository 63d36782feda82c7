-- Sums and maxima over the items that are left, where none is left
use Rattle.std.proofs.Common.{◌≡◌, ℕ, ◌+◌, ◌≤◌, min, max, List, length, map, drop, arith}
use Rattle.std.proofs.lemmas.List.{at_drop_all}
use Rattle.ufl_values.specs.declared.value.Value.{Value}
use Rattle.ufl_values.specs.Values.{total, highest}

pub total_end : (f : Value → ℕ) (xs : List Value) (i count w : ℕ) → length xs ≤ i → count ≤ 4294967295
    → min (count + total (map f (drop i xs))) 4294967295 ≡ w → count ≡ w
total_end f xs i count w h small e =
    let none : total (map f (drop i xs)) ≡ 0 = at_drop_all (λ ys. total (map f ys)) xs i h in
    omega arith

pub highest_end : (f : Value → ℕ) (xs : List Value) (i height w : ℕ) → length xs ≤ i → height ≤ 4294967295
    → min (max height (highest (map f (drop i xs)))) 4294967295 ≡ w → height ≡ w
highest_end f xs i height w h small e =
    let none : highest (map f (drop i xs)) ≡ 0 = at_drop_all (λ ys. highest (map f ys)) xs i h in
    omega arith
