-- What holds of all items of the lists that a cell gives
use Rattle.std.proofs.Common.{◌≡◌, ℕ, zero, suc, ◌<◌, sym, subst, arith, List, [], ◌∷◌, ◌++◌, map, length, inl, inr, ◌⊎◌}
use Rattle.std.specs.List.{AllByRecursion, flat_map}
use Rattle.std.proofs.lemmas.List.{map-append}
use native.Mathlib.Nat as N
use Rattle.algebra.specs.Fraction.{Fraction}
use Rattle.calculus.specs.Simplex.{Simplex}
use Rattle.calculus.specs.Jacobian.{vertex_at}
use Rattle.calculus.specs.Point.{Point}
use Rattle.refint.specs.Local.{numbers_below}

pub all_left : {X : Type 0} (P : X → Type 0) (xs ys : List X) → AllByRecursion P (xs ++ ys) → AllByRecursion P xs
all_left P [] ys a = tt
all_left P (x ∷ xs) ys a = (a.0, all_left P xs ys a.1)

pub all_right : {X : Type 0} (P : X → Type 0) (xs ys : List X) → AllByRecursion P (xs ++ ys) → AllByRecursion P ys
all_right P [] ys a = a
all_right P (x ∷ xs) ys a = all_right P xs ys a.1

pub of_number_below : {X : Type 0} (P : X → Type 0) (f : ℕ → X) (n i : ℕ) → i < n → AllByRecursion P (map f (numbers_below n)) → P (f i)
of_number_below P f zero i h a = absurd (omega arith)
of_number_below P f (suc n) i h a =
    let parts : AllByRecursion P (map f (numbers_below n) ++ f n ∷ []) = subst (AllByRecursion P) (map-append f (numbers_below n) (n ∷ [])) a in
    go (N.eq-or-lt_of_le (N.le_of_suc-le-suc h)) (λ g. of_number_below P f n i g (all_left P (map f (numbers_below n)) (f n ∷ []) parts)) (all_right P (map f (numbers_below n)) (f n ∷ []) parts).0
  where
    go : (i ≡ n) ⊎ (i < n) → (i < n → P (f i)) → P (f n) → P (f i)
    go (inl e) more last = subst (λ k. P (f k)) (sym e) last
    go (inr g) more last = more g

pub of_vertex : (P : Fraction → Type 0) (f : Point Fraction → List Fraction) (v : Simplex) (k : ℕ) → k < length v → AllByRecursion P (flat_map f v) → AllByRecursion P (f (vertex_at v k))
of_vertex P f [] k h a = absurd (omega arith)
of_vertex P f (p ∷ v) zero h a = all_left P (f p) (flat_map f v) a
of_vertex P f (p ∷ v) (suc k) h a = of_vertex P f v k (N.le_of_suc-le-suc h) (all_right P (f p) (flat_map f v) a)

pub all_of_vertices : (P : Fraction → Type 0) (d : ℕ) (v : Simplex) (f : Point Fraction → ℕ → Fraction) (k i : ℕ) → k < length v → i < d
    → AllByRecursion P (flat_map (λ p. map (f p) (numbers_below d)) v) → P (f (vertex_at v k) i)
all_of_vertices P d v f k i h g a = of_number_below P (f (vertex_at v k)) d i g (of_vertex P (λ p. map (f p) (numbers_below d)) v k h a)

pub all_append : {X : Type 0} (P : X → Type 0) (xs ys : List X) → AllByRecursion P xs → AllByRecursion P ys → AllByRecursion P (xs ++ ys)
all_append P [] ys a b = b
all_append P (x ∷ xs) ys a b = (a.0, all_append P xs ys a.1 b)

pub all_below : {X : Type 0} (P : X → Type 0) (f : ℕ → X) (n : ℕ) → ((i : ℕ) → i < n → P (f i)) → AllByRecursion P (map f (numbers_below n))
all_below P f zero h = tt
all_below P f (suc n) h =
    subst (AllByRecursion P) (sym (map-append f (numbers_below n) (n ∷ [])))
    (all_append P (map f (numbers_below n)) (f n ∷ []) (all_below P f n (λ i g. h i (N.le_trans g (N.le-suc n)))) (h n (N.le_refl (suc n)), tt))

pub all_vertices : {X : Type 0} (P : X → Type 0) (f : Point Fraction → List X) (v : Simplex) → ((k : ℕ) → k < length v → AllByRecursion P (f (vertex_at v k))) → AllByRecursion P (flat_map f v)
all_vertices P f [] h = tt
all_vertices P f (p ∷ v) h = all_append P (f p) (flat_map f v) (h 0 (N.zero-lt-suc (length v))) (all_vertices P f v (λ k g. h (suc k) (one_more k (length v) g)))
  where
    one_more : (k n : ℕ) → k < n → suc k < suc n
    one_more k n h = omega arith
