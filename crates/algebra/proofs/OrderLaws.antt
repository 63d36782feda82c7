-- The order of fractions
use Rattle.std.proofs.Common.{◌≡◌, ℕ, zero, suc, ℤ, pos, negsuc, ◌*ℤ◌, ◌+ℤ◌, neg_ℤ, refl, sym, ◌∙◌, ap, subst, Bool, true, false, ◌⊎◌, inl, inr, [], ◌∷◌}
use native.Mathlib.Nat as N
use mathlib.Core.Quot.{Quot-set}
use mathlib.Core.HLevel.{Π_prop}
use mathlib.Core.Bool.{Bool-set}
use Rattle.algebra.specs.Solver.{at, ◌⊕◌, ◌⊗◌, ◌⊖◌, minus, num, unity}
use Rattle.algebra.specs.Sound.{ring, ring_from}
use Rattle.algebra.specs.Fraction.{Fraction, same, whole, add, mul, negative, fractions, zero_fraction, add_negative, is_zero_fraction, is_below_zero, below_nought, is_nought, nought}
use Rattle.algebra.specs.Order.{is_below, Below, AtMost}
use Rattle.algebra.proofs.Pairs.{for_pairs, test_from_two}

-- ---- signs
positive_sum : (a b : ℤ) (d e : ℕ) → below_nought a ≡ false → below_nought b ≡ false → below_nought (a *ℤ pos e +ℤ b *ℤ pos d) ≡ false
positive_sum (pos n) (pos m) d e h g = refl
positive_sum (pos n) (negsuc m) d e h g = cc
positive_sum (negsuc n) b d e h g = cc

positive_product : (a b : ℤ) → below_nought a ≡ false → below_nought b ≡ false → below_nought (a *ℤ b) ≡ false
positive_product (pos n) (pos m) h g = refl
positive_product (pos n) (negsuc m) h g = cc
positive_product (negsuc n) b h g = cc

-- the sum of two that are not below 0 is not
pub sum_not_below : (a b : Fraction) → is_below_zero a ≡ false → is_below_zero b ≡ false → is_below_zero (add a b) ≡ false
unfolding is_below_zero add
sum_not_below = test_from_two (λ a b. is_below_zero a) (λ a b. is_below_zero b) (λ a b. is_below_zero (add a b)) false false false (λ p q. positive_sum p.num q.num p.den q.den)

-- their product is not
pub product_not_below : (a b : Fraction) → is_below_zero a ≡ false → is_below_zero b ≡ false → is_below_zero (mul a b) ≡ false
unfolding is_below_zero mul
product_not_below = test_from_two (λ a b. is_below_zero a) (λ a b. is_below_zero b) (λ a b. is_below_zero (mul a b)) false false false (λ p q. positive_product p.num q.num)

turned : (z : ℤ) → below_nought z ≡ true → below_nought (neg_ℤ z) ≡ false
turned (pos n) h = cc
turned (negsuc n) h = refl

-- the negative of what is below 0 is not
pub negative_not_below : (a : Fraction) → is_below_zero a ≡ true → is_below_zero (negative a) ≡ false
unfolding is_below_zero negative
negative_not_below = for_pairs (λ a. is_below_zero a ≡ true → is_below_zero (negative a) ≡ false) (λ a. Π_prop (λ _. Bool-set (is_below_zero (negative a)) false)) (λ p. turned p.num)

-- a fraction that tests as 0 is 0
pub zero_from_test : (a : Fraction) → is_zero_fraction a ≡ true → a ≡ zero_fraction
unfolding is_zero_fraction zero_fraction
zero_from_test = for_pairs (λ a. is_zero_fraction a ≡ true → a ≡ zero_fraction) (λ a. Π_prop (λ _. Quot-set a zero_fraction)) (λ p h. same p (whole (pos 0)) (ap (λ z. z *ℤ pos 1) (nought p.num h) ∙ ap pos (sym (N.zero-mul p.den))))

no_sides : (z : ℤ) → below_nought z ≡ false → below_nought (neg_ℤ z) ≡ false → is_nought z ≡ true
no_sides (pos zero) h g = refl
no_sides (pos (suc n)) h g = cc
no_sides (negsuc n) h g = cc

zero_tests : (a : Fraction) → is_below_zero a ≡ false → is_below_zero (negative a) ≡ false → is_zero_fraction a ≡ true
unfolding is_below_zero negative is_zero_fraction
zero_tests =
    for_pairs (λ a. is_below_zero a ≡ false → is_below_zero (negative a) ≡ false → is_zero_fraction a ≡ true) (λ a. Π_prop (λ _. Π_prop (λ _. Bool-set (is_zero_fraction a) true))) (λ p. no_sides p.num)

-- what is neither below 0 nor above is 0
pub zero_from_signs : (a : Fraction) → is_below_zero a ≡ false → is_below_zero (negative a) ≡ false → a ≡ zero_fraction
zero_from_signs a h g = zero_from_test a (zero_tests a h g)

-- ---- the order
-- along an equation of the tested difference
pub along : (x y : Fraction) (t : Bool) → x ≡ y → is_below_zero x ≡ t → is_below_zero y ≡ t
along x y t e h = subst (λ z. is_below_zero z ≡ t) e h

pub zero_not_below : is_below_zero zero_fraction ≡ false
unfolding is_below_zero zero_fraction
zero_not_below = refl

-- what is at least 0 is not below it, both ways
pub not_below_zero : (a : Fraction) → AtMost zero_fraction a → is_below_zero a ≡ false
not_below_zero a h = along _ _ false (ring fractions (a ∷ []) (at 0 ⊖ num (pos 0)) (at 0) refl) h

pub at_least_zero : (a : Fraction) → is_below_zero a ≡ false → AtMost zero_fraction a
at_least_zero a h = along _ _ false (ring fractions (a ∷ []) (at 0) (at 0 ⊖ num (pos 0)) refl) h

pub at_most_refl : (a : Fraction) → AtMost a a
at_most_refl a = along zero_fraction (add a (negative a)) false (sym (add_negative a)) zero_not_below

pub at_most_trans : (a b c : Fraction) → AtMost a b → AtMost b c → AtMost a c
at_most_trans a b c h g =
    along _ _ false (ring fractions (a ∷ b ∷ c ∷ []) ((at 1 ⊖ at 0) ⊕ (at 2 ⊖ at 1)) (at 2 ⊖ at 0) refl) (sum_not_below (add b (negative a)) (add c (negative b)) h g)

pub at_most_antisymmetric : (a b : Fraction) → AtMost a b → AtMost b a → a ≡ b
at_most_antisymmetric a b h g =
    let difference : add b (negative a) ≡ zero_fraction = zero_from_signs (add b (negative a)) h (along _ _ false (ring fractions (a ∷ b ∷ []) (at 0 ⊖ at 1) (minus (at 1 ⊖ at 0)) refl) g) in
    ring_from fractions (a ∷ b ∷ []) (at 0) (at 1) (minus unity) (at 1 ⊖ at 0) (num (pos 0)) difference refl

pub below_at_most : (a b : Fraction) → Below a b → AtMost a b
below_at_most a b h = along _ _ false (ring fractions (a ∷ b ∷ []) (minus (at 0 ⊖ at 1)) (at 1 ⊖ at 0) refl) (negative_not_below (add a (negative b)) h)

pub at_most_total : (a b : Fraction) → AtMost a b ⊎ AtMost b a
at_most_total a b = go (is_below b a) refl
  where
    go : (t : Bool) → is_below b a ≡ t → AtMost a b ⊎ AtMost b a
    go true h = inr (below_at_most b a h)
    go false h = inl h

pub below_trans : (a b c : Fraction) → Below a b → AtMost b c → Below a c
below_trans a b c h g = go (is_below a c) refl
  where
    go : (t : Bool) → is_below a c ≡ t → t ≡ true
    go true e = refl
    go false e = cc (at_most_trans b c a g e)

pub below_trans_left : (a b c : Fraction) → AtMost a b → Below b c → Below a c
below_trans_left a b c h g = go (is_below a c) refl
  where
    go : (t : Bool) → is_below a c ≡ t → t ≡ true
    go true e = refl
    go false e = cc (at_most_trans c a b e h)

pub add_at_most : (a b c d : Fraction) → AtMost a b → AtMost c d → AtMost (add a c) (add b d)
add_at_most a b c d h g =
    along _ _ false (ring fractions (a ∷ b ∷ c ∷ d ∷ []) ((at 1 ⊖ at 0) ⊕ (at 3 ⊖ at 2)) ((at 1 ⊕ at 3) ⊖ (at 0 ⊕ at 2)) refl) (sum_not_below (add b (negative a)) (add d (negative c)) h g)

pub negative_at_most : (a b : Fraction) → AtMost a b → AtMost (negative b) (negative a)
negative_at_most a b h = along _ _ false (ring fractions (a ∷ b ∷ []) (at 1 ⊖ at 0) (minus (at 0) ⊖ minus (at 1)) refl) h

-- a ≤ b and c ≤ d, where b and c are not below 0
pub mul_at_most : (a b c d : Fraction) → AtMost zero_fraction b → AtMost zero_fraction c → AtMost a b → AtMost c d → AtMost (mul a c) (mul b d)
mul_at_most a b c d sb sc h g =
    along _ _ false (ring fractions (a ∷ b ∷ c ∷ d ∷ []) (at 1 ⊗ (at 3 ⊖ at 2) ⊕ (at 1 ⊖ at 0) ⊗ at 2) (at 1 ⊗ at 3 ⊖ at 0 ⊗ at 2) refl)
    (sum_not_below (mul b (add d (negative c))) (mul (add b (negative a)) c)
    (product_not_below b (add d (negative c)) (not_below_zero b sb) g)
    (product_not_below (add b (negative a)) c h (not_below_zero c sc)))
