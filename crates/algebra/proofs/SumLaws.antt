-- Sums of lists in a commutative group, and in a ring
use Rattle.std.proofs.Common.{◌≡◌, ℕ, zero, suc, ◌<◌, List, [], ◌∷◌, ◌++◌, length, get_or, map, refl, sym, ◌∙◌, ap, ap₂, subst, arith}
use Rattle.std.proofs.Math.ListN.{set, length-set}
use Rattle.std.specs.List.{swap}
use Rattle.std.specs.List.Sorted.{IsPermutation}
use Rattle.std.proofs.lemmas.List.Sorted.{IsPermutation-keeps}
use native.Mathlib.Nat as N
use Rattle.algebra.specs.Group.{Group}
use Rattle.algebra.specs.GroupLaws as L
use Rattle.algebra.specs.Ring.{Ring, additive}
use Rattle.algebra.specs.RingLaws as R
use Rattle.algebra.specs.Sums.{total_in}

module _ {A : Type 0} (G : Group A) where
  open G use {zero, add, neg}

  pub total_in-append : (xs ys : List A) → total_in G (xs ++ ys) ≡ add (total_in G xs) (total_in G ys)
  total_in-append [] ys = sym (L.zero-add G (total_in G ys))
  total_in-append (x ∷ xs) ys = ap (add x) (total_in-append xs ys) ∙ sym (G.add_assoc x (total_in G xs) (total_in G ys))

  -- one element of the list comes first
  pub total_in-middle : (xs : List A) (x : A) (ys : List A) → total_in G (xs ++ x ∷ ys) ≡ add x (total_in G (xs ++ ys))
  total_in-middle [] x ys = refl
  total_in-middle (y ∷ xs) x ys = ap (add y) (total_in-middle xs x ys) ∙ L.add_left_comm G y x (total_in G (xs ++ ys))

  -- the two parts of a list change places
  pub total_in-append_comm : (xs ys : List A) → total_in G (xs ++ ys) ≡ total_in G (ys ++ xs)
  total_in-append_comm xs ys = total_in-append xs ys ∙ G.add_comm (total_in G xs) (total_in G ys) ∙ sym (total_in-append ys xs)

  pub total_in-neg : (xs : List A) → total_in G (map neg xs) ≡ neg (total_in G xs)
  total_in-neg [] = sym (L.neg-zero G)
  total_in-neg (x ∷ xs) = ap (add (neg x)) (total_in-neg xs) ∙ sym (L.neg_of_sum G x (total_in G xs))

  module _ {B : Type 0} where
    -- a sum of zeros
    pub total_in-zeros : (f : B → A) → ((b : B) → f b ≡ zero) → (xs : List B) → total_in G (map f xs) ≡ zero
    total_in-zeros f h [] = refl
    total_in-zeros f h (x ∷ xs) = ap₂ add (h x) (total_in-zeros f h xs) ∙ G.add_zero zero

    -- a sum of sums, term by term
    pub total_in-map_add : (f g : B → A) (xs : List B) → total_in G (map (λ b. add (f b) (g b)) xs) ≡ add (total_in G (map f xs)) (total_in G (map g xs))
    total_in-map_add f g [] = sym (G.add_zero zero)
    total_in-map_add f g (x ∷ xs) = ap (add (add (f x) (g x))) (total_in-map_add f g xs) ∙ L.add_medial G (f x) (g x) (total_in G (map f xs)) (total_in G (map g xs))

    -- terms that are equal
    pub total_in-map_same : (f g : B → A) → ((b : B) → f b ≡ g b) → (xs : List B) → total_in G (map f xs) ≡ total_in G (map g xs)
    total_in-map_same f g h [] = refl
    total_in-map_same f g h (x ∷ xs) = ap₂ add (h x) (total_in-map_same f g h xs)

module _ {A : Type 0} (G : Group A) {B C : Type 0} where
  -- a double sum in the other order
  pub total_in-exchange : (f : B → C → A) (xs : List B) (ys : List C)
      → total_in G (map (λ b. total_in G (map (f b) ys)) xs) ≡ total_in G (map (λ c. total_in G (map (λ b. f b c) xs)) ys)
  total_in-exchange f [] ys = sym (total_in-zeros G (λ c. G.zero) (λ c. refl) ys)
  total_in-exchange f (x ∷ xs) ys =
      ap (G.add (total_in G (map (f x) ys))) (total_in-exchange f xs ys)
      ∙ sym (total_in-map_add G (f x) (λ c. total_in G (map (λ b. f b c) xs)) ys)

module _ {K : Type 0} (A : Ring K) where
  open A use {mul}

  -- a factor of each term
  pub total_in-map_mul : (c : K) (xs : List K) → total_in (additive A) (map (mul c) xs) ≡ mul c (total_in (additive A) xs)
  total_in-map_mul c [] = sym (R.mul-zero A c)
  total_in-map_mul c (x ∷ xs) = ap (A.add (mul c x)) (total_in-map_mul c xs) ∙ sym (A.mul_add c x (total_in (additive A) xs))

-- ---- the order of the elements does not matter
module _ {A : Type 0} (G : Group A) where
  open G use {add}

  last_first : (x t v : A) → add (add v t) x ≡ add (add x t) v
  last_first x t v = G.add_comm (add v t) x ∙ ap (add x) (G.add_comm v t) ∙ sym (G.add_assoc x t v)

  -- a write exchanges one element of the sum
  total_in-set : (xs : List A) (i : ℕ) (v d : A) → i < length xs → add (total_in G (set xs i v)) (get_or xs i d) ≡ add (total_in G xs) v
  total_in-set [] i v d h = absurd (omega arith)
  total_in-set (x ∷ xs) zero v d h = last_first x (total_in G xs) v
  total_in-set (x ∷ xs) (suc i) v d h =
      G.add_assoc x (total_in G (set xs i v)) (get_or xs i d) ∙ ap (add x) (total_in-set xs i v d (N.le_of_suc-le-suc h)) ∙ sym (G.add_assoc x (total_in G xs) v)

  read_back : (xs : List A) (i j : ℕ) (d : A) → get_or (set xs i (get_or xs j d)) j d ≡ get_or xs j d
  read_back [] i j d = refl
  read_back (x ∷ xs) zero zero d = refl
  read_back (x ∷ xs) zero (suc j) d = refl
  read_back (x ∷ xs) (suc i) zero d = refl
  read_back (x ∷ xs) (suc i) (suc j) d = read_back xs i j d

  exchanged : (xs : List A) (i j : ℕ) (d : A) → i < length xs → j < length xs → total_in G (set (set xs i (get_or xs j d)) j (get_or xs i d)) ≡ total_in G xs
  exchanged xs i j d h g =
      L.add_right_cancel G _ (total_in G xs) (get_or xs j d)
      (ap (add (total_in G (set (set xs i (get_or xs j d)) j (get_or xs i d)))) (sym (read_back xs i j d))
      ∙ total_in-set (set xs i (get_or xs j d)) j (get_or xs i d) d (subst (λ n. j < n) (sym (length-set xs i (get_or xs j d))) g)
      ∙ total_in-set xs i (get_or xs j d) d h)

  pub total_in-swap : (xs : List A) (i j : ℕ) → i < length xs → j < length xs → total_in G (swap xs i j) ≡ total_in G xs
  total_in-swap [] i j h g = refl
  total_in-swap (x ∷ xs) i j h g = exchanged (x ∷ xs) i j x h g

  pub total_in-permutation : (xs ys : List A) → IsPermutation xs ys → total_in G ys ≡ total_in G xs
  total_in-permutation xs ys p =
      IsPermutation-keeps xs (λ l. total_in G l ≡ total_in G xs) refl (λ l i j h g e. total_in-swap l i j h g ∙ e) ys p
