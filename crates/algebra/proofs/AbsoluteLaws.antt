-- Absolute values
use Rattle.std.proofs.Common.{◌≡◌, ℕ, ℤ, pos, negsuc, ◌<◌, neg_ℤ, unsigned_abs, refl, sym, ◌∙◌, ap, ap₂, subst, Bool, true, false, [], ◌∷◌}
use Rattle.std.proofs.lemmas.Int.{unsigned_abs-mul}
use mathlib.Core.Quot.{mk}
use mathlib.Core.Bool.{Bool-set}
use Rattle.algebra.specs.Solver.{at, ◌⊕◌, minus}
use Rattle.algebra.specs.Sound.{ring}
use Rattle.algebra.specs.Fraction.{Pair, Fraction, at_pairs, at_two_pairs, pair_product, pair_negative, add, mul, negative, fractions, is_below_zero, below_nought, absolute, when}
use Rattle.algebra.specs.Order.{AtMost}
use Rattle.algebra.proofs.Signs.{unsigned_abs-neg}
use Rattle.algebra.proofs.Pairs.{for_pairs}
use Rattle.algebra.proofs.OrderLaws.{sum_not_below, negative_not_below, at_most_refl, add_at_most}

-- the pair without its sign
abbrev pub size_pair : Pair → Pair
size_pair p = record { num = pos (unsigned_abs p.num); den = p.den; positive = p.positive }

size_is : (z : ℤ) (d : ℕ) (h : 0 < d)
    → when (below_nought z) (mk (record { num = neg_ℤ z; den = d; positive = h })) (mk (record { num = z; den = d; positive = h })) ≡ mk (record { num = pos (unsigned_abs z); den = d; positive = h })
size_is (pos n) d h = refl
size_is (negsuc n) d h = refl

pub absolute_at : (p : Pair) → absolute (mk p) ≡ mk (size_pair p)
unfolding is_below_zero negative
absolute_at p = size_is p.num p.den p.positive

-- what is not below 0 is its own absolute value
pub absolute_above : (a : Fraction) → is_below_zero a ≡ false → absolute a ≡ a
absolute_above a h = ap (λ t. when t (negative a) a) h

pub absolute_below : (a : Fraction) → is_below_zero a ≡ true → absolute a ≡ negative a
absolute_below a h = ap (λ t. when t (negative a) a) h

at_size : (p : Pair) → is_below_zero (mk (size_pair p)) ≡ false
unfolding is_below_zero
at_size p = refl

pub absolute_not_below : (a : Fraction) → is_below_zero (absolute a) ≡ false
absolute_not_below = for_pairs (λ a. is_below_zero (absolute a) ≡ false) (λ a. Bool-set (is_below_zero (absolute a)) false) (λ p. ap is_below_zero (absolute_at p) ∙ at_size p)

sized_product : (p q : Pair) → ◌≡◌ {A = Fraction} (mk (size_pair (pair_product p q))) (mk (pair_product (size_pair p) (size_pair q)))
sized_product p q = ap (λ n. mk (record { num = pos n; den = (pair_product p q).den; positive = (pair_product p q).positive })) (unsigned_abs-mul p.num q.num)

product_at : (p q : Pair) → mul (mk p) (mk q) ≡ mk (pair_product p q)
unfolding mul
product_at p q = refl

pub absolute-mul : (a b : Fraction) → absolute (mul a b) ≡ mul (absolute a) (absolute b)
absolute-mul =
    at_two_pairs (λ a b. absolute (mul a b)) (λ a b. mul (absolute a) (absolute b))
    (λ p q. ap absolute (product_at p q) ∙ absolute_at (pair_product p q) ∙ sized_product p q
    ∙ sym (ap₂ mul (absolute_at p) (absolute_at q) ∙ product_at (size_pair p) (size_pair q)))

negative_at : (p : Pair) → negative (mk p) ≡ mk (pair_negative p)
unfolding negative
negative_at p = refl

pub absolute-negative : (a : Fraction) → absolute (negative a) ≡ absolute a
absolute-negative =
    at_pairs (λ a. absolute (negative a)) absolute
    (λ p. ap absolute (negative_at p) ∙ absolute_at (pair_negative p)
    ∙ ap (λ n. mk (record { num = pos n; den = p.den; positive = p.positive })) (unsigned_abs-neg p.num) ∙ sym (absolute_at p))

pub absolute-absolute : (a : Fraction) → absolute (absolute a) ≡ absolute a
absolute-absolute a = absolute_above (absolute a) (absolute_not_below a)

pub at_most_absolute : (a : Fraction) → AtMost a (absolute a)
at_most_absolute a = go (is_below_zero a) refl
  where
    go : (t : Bool) → is_below_zero a ≡ t → AtMost a (absolute a)
    go true h = subst (AtMost a) (sym (absolute_below a h)) (sum_not_below (negative a) (negative a) (negative_not_below a h) (negative_not_below a h))
    go false h = subst (AtMost a) (sym (absolute_above a h)) (at_most_refl a)

-- what bounds a number and its negative bounds its absolute value
pub absolute_at_most : (a b : Fraction) → AtMost a b → AtMost (negative a) b → AtMost (absolute a) b
absolute_at_most a b h g = go (is_below_zero a) refl
  where
    go : (t : Bool) → is_below_zero a ≡ t → AtMost (absolute a) b
    go true e = subst (λ x. AtMost x b) (sym (absolute_below a e)) g
    go false e = subst (λ x. AtMost x b) (sym (absolute_above a e)) h

-- the triangle inequality
pub absolute-add : (a b : Fraction) → AtMost (absolute (add a b)) (add (absolute a) (absolute b))
absolute-add a b =
    absolute_at_most (add a b) (add (absolute a) (absolute b))
    (add_at_most a (absolute a) b (absolute b) (at_most_absolute a) (at_most_absolute b))
    (subst (λ x. AtMost x (add (absolute a) (absolute b))) (ring fractions (a ∷ b ∷ []) (minus (at 0) ⊕ minus (at 1)) (minus (at 0 ⊕ at 1)) refl)
    (add_at_most (negative a) (absolute a) (negative b) (absolute b) (opposite a) (opposite b)))
  where
    opposite : (a : Fraction) → AtMost (negative a) (absolute a)
    opposite a = subst (AtMost (negative a)) (absolute-negative a) (at_most_absolute (negative a))
