-- Pieces of lists that are put together of lists of equal length
use Rattle.std.proofs.Common.{◌≡◌, ℕ, zero, suc, ◌+◌, ◌*◌, ◌<◌, ◌≤◌, ◌⊎◌, inl, inr, List, [], ◌∷◌, ◌++◌, length, take, drop, refl, sym, ap, ap₂, ◌∙◌, arith}
use Rattle.std.specs.List.{flat_map}
use Rattle.std.proofs.Math.Seq.{take-append_seam}
use Rattle.std.proofs.lemmas.Nat.{mul-add-lt}
use native.Mathlib.Nat as N
use Rattle.refint.specs.Local.{numbers_below}
use Rattle.refint.proofs.Lists.{append_nothing, append_assoc, flat_append}
use Rattle.refint.proofs.Combined.{append_length}
use Rattle.refint.proofs.Values.{numbers_from, below_from}
use Rattle.basis_products.specs.Order.{piece}
use Rattle.basis_products.proofs.Lists.{flat_length}

flat_last : {A : Type 0} (g : ℕ → List A) (c : ℕ) → flat_map g (numbers_below (suc c)) ≡ flat_map g (numbers_below c) ++ g c
flat_last g c = flat_append g (numbers_below c) (c ∷ []) ∙ ap (λ r. flat_map g (numbers_below c) ++ r) (append_nothing (g c))

-- equal at each number below
pub flat_below : {A : Type 0} (f g : ℕ → List A) (n : ℕ) → ((j : ℕ) → j < n → f j ≡ g j) → flat_map f (numbers_below n) ≡ flat_map g (numbers_below n)
flat_below f g zero h = refl
flat_below f g (suc n) h =
    flat_last f n ∙ ap₂ ◌++◌ (flat_below f g n (λ j l. h j (omega arith))) (h n (omega arith)) ∙ sym (flat_last g n)

-- ---- a piece of two lists
take_before : {A : Type 0} (n : ℕ) (P Q : List A) → n ≤ length P → take n (P ++ Q) ≡ take n P
take_before zero [] [] h = refl
take_before zero [] (y ∷ Q) h = refl
take_before zero (x ∷ P) Q h = refl
take_before (suc n) [] Q h = absurd (omega arith)
take_before (suc n) (x ∷ P) Q h = ap (λ r. x ∷ r) (take_before n P Q (omega arith))

whole : {A : Type 0} (xs : List A) → drop 0 xs ≡ xs
whole [] = refl
whole (x ∷ xs) = refl

in_front : {A : Type 0} (n k : ℕ) (P Q : List A) → k + n ≤ length P → take n (drop k (P ++ Q)) ≡ take n (drop k P)
in_front n zero [] Q h = ap (take n) (whole Q) ∙ take_before n [] Q (omega arith)
in_front n zero (x ∷ P) Q h = take_before n (x ∷ P) Q (omega arith)
in_front n (suc k) [] Q h = absurd (omega arith)
in_front n (suc k) (x ∷ P) Q h = in_front n k P Q (omega arith)

drop_past : {A : Type 0} (P Q : List A) (m : ℕ) → drop (length P + m) (P ++ Q) ≡ drop m Q
drop_past [] Q m = ap (λ k. drop k Q) (none m)
  where
    none : (m : ℕ) → 0 + m ≡ m
    none m = omega arith
drop_past (x ∷ P) Q m = ap (λ k. drop k (x ∷ P ++ Q)) (one (length P) m) ∙ drop_past P Q m
  where
    one : (m n : ℕ) → suc m + n ≡ suc (m + n)
    one m n = omega arith

piece_front : {A : Type 0} (n b : ℕ) (P Q : List A) → suc b * n ≤ length P → piece n b (P ++ Q) ≡ piece n b P
piece_front n b P Q h = in_front n (b * n) P Q (omega arith)

piece_back : {A : Type 0} (n q j : ℕ) (P Q : List A) → length P ≡ q * n → piece n (q + j) (P ++ Q) ≡ piece n j Q
piece_back n q j P Q h = ap (take n) (ap (λ k. drop k (P ++ Q)) (omega arith) ∙ drop_past P Q (j * n))

-- ---- of lists of equal length
pub piece_at : {A : Type 0} (n m c i j : ℕ) (g : ℕ → List A) → ((t : ℕ) → length (g t) ≡ m * n) → i < c → j < m
    → piece n (i * m + j) (flat_map g (numbers_below c)) ≡ piece n j (g i)
piece_at n m zero i j g e h l = absurd (omega arith)
piece_at n m (suc c) i j g e h l = elim (cases i c h) [
  | inl k ↦ ap (piece n (i * m + j)) (flat_last g c)
      ∙ piece_front n (i * m + j) (flat_map g (numbers_below c)) (g c) (room k)
      ∙ piece_at n m c i j g e k l
  | inr k ↦ ap₂ (λ a p. piece n (a * m + j) p) k (flat_last g c)
      ∙ piece_back n (c * m) j (flat_map g (numbers_below c)) (g c) (flat_length g (m * n) e c ∙ sym (N.mul_assoc c m n))
      ∙ ap (λ a. piece n j (g a)) (sym k)
]
  where
    cases : (i c : ℕ) → i < suc c → (i < c) ⊎ (i ≡ c)
    cases i c h = grind arith

    room : i < c → suc (i * m + j) * n ≤ length (flat_map g (numbers_below c))
    room k =
        let a = mul-add-lt i m j c k l in
        let b : suc (i * m + j) * n ≤ m * c * n = N.mul-le-mul_right n a in
        omega (arith, flat_length g (m * n) e c)

-- something of each piece is something of each list
pub blocks_each : {X A C : Type 0} (n : ℕ) (g : X → List A) (H : List A → List C) → ((x : X) → length (g x) ≡ n) → (xs : List X)
    → flat_map (λ j. H (piece n j (flat_map g xs))) (numbers_below (length xs)) ≡ flat_map (λ x. H (g x)) xs
blocks_each {X = X} {A = A} {C = C} n g H e xs = ap (flat_map (λ j. H (piece n j (flat_map g xs)))) (below_from (length xs)) ∙ go 0 [] xs (omega arith)
  where
    nothing : (n : ℕ) → n + 0 ≡ n
    nothing n = omega arith

    first : (ys R : List A) → length ys ≡ n → piece n 0 (ys ++ R) ≡ ys
    first ys R h = ap (λ k. take n (drop k (ys ++ R))) (N.zero-mul n) ∙ ap (take n) (whole (ys ++ R)) ∙ ap (λ k. take k (ys ++ R)) (sym h) ∙ take-append_seam ys R

    go : (k : ℕ) (P : List A) (xs : List X) → length P ≡ k * n
        → flat_map (λ j. H (piece n j (P ++ flat_map g xs))) (numbers_from k (length xs)) ≡ flat_map (λ x. H (g x)) xs
    go k P [] h = refl
    go k P (x ∷ xs) h =
        ap₂ (λ a b. H a ++ b)
        (ap (λ q. piece n q (P ++ (g x ++ flat_map g xs))) (sym (nothing k)) ∙ piece_back n k 0 P (g x ++ flat_map g xs) h ∙ first (g x) (flat_map g xs) (e x))
        (ap (λ q. flat_map (λ j. H (piece n j q)) (numbers_from (suc k) (length xs))) (sym (append_assoc P (g x) (flat_map g xs)))
        ∙ go (suc k) (P ++ g x) xs (append_length P (g x) ∙ ap₂ ◌+◌ h (e x) ∙ more k n))
      where
        more : (k n : ℕ) → k * n + n ≡ suc k * n
        more k n = omega arith
