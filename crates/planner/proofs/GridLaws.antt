-- Values at each pair of a test node and a trial node, row by row
use Rattle.std.proofs.Common.{◌≡◌, ℕ, zero, suc, ◌+◌, ◌*◌, List, [], ◌∷◌, length, map, replicate, refl, sym, ap, ◌∙◌, arith}
use Rattle.std.specs.List.{flat_map}
use Rattle.std.proofs.lemmas.List.{length-map, length-append}
use Rattle.algebra.specs.Fraction.{Fraction, add}
use Rattle.refint.specs.Local.{numbers_below}
use Rattle.refint.proofs.Lists.{flat_same, map_flat, map_map}
use Rattle.basis_products.proofs.Lists.{flat_length}
use Rattle.kernel_runs.specs.Strips.{list_sum}

abbrev pub pairs : ℕ → ℕ → List (ℕ × ℕ)
pairs r c = flat_map (λ a. map (λ b. (a, b)) (numbers_below c)) (numbers_below r)

pub each_pair : {A : Type 0} (r c : ℕ) (g : ℕ → ℕ → A) → flat_map (λ a. map (g a) (numbers_below c)) (numbers_below r) ≡ map (λ (p : ℕ × ℕ). g p.0 p.1) (pairs r c)
each_pair r c g =
    sym (map_flat (λ (p : ℕ × ℕ). g p.0 p.1) (λ a. map (λ b. (a, b)) (numbers_below c)) (numbers_below r)
    ∙ flat_same _ _ (λ a. map_map (λ (p : ℕ × ℕ). g p.0 p.1) (λ b. (a, b)) (numbers_below c)) (numbers_below r))

pub numbers_count : (n : ℕ) → length (numbers_below n) ≡ n
numbers_count zero = refl
numbers_count (suc n) = length-append (numbers_below n) (n ∷ []) ∙ ap (λ k. k + 1) (numbers_count n) ∙ one n
  where
    one : (n : ℕ) → n + 1 ≡ suc n
    one n = omega arith

pub pair_count : (r c : ℕ) → length (pairs r c) ≡ r * c
pair_count r c = flat_length (λ a. map (λ b. (a, b)) (numbers_below c)) c (λ a. length-map (numbers_below c) (λ b. (a, b)) ∙ numbers_count c) r

pub list_sum_maps : {A : Type 0} (f g : A → Fraction) (xs : List A) → list_sum (map f xs) (map g xs) ≡ map (λ x. add (f x) (g x)) xs
list_sum_maps f g [] = refl
list_sum_maps f g (x ∷ xs) = ap (λ l. add (f x) (g x) ∷ l) (list_sum_maps f g xs)

pub constant_map : {A : Type 0} (z : Fraction) (xs : List A) → map (λ x. z) xs ≡ replicate (length xs) z
constant_map z [] = refl
constant_map z (x ∷ xs) = ap (λ l. z ∷ l) (constant_map z xs)
