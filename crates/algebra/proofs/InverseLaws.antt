-- Reciprocals and tests for 0
use Rattle.std.proofs.Common.{◌≡◌, ℕ, ℤ, pos, negsuc, zero, suc, ◌<◌, ◌*◌, ◌*ℤ◌, unsigned_abs, arith, refl, sym, ◌∙◌, ap, ap₂, Bool, true, false, ◌||◌, [], ◌∷◌}
use Rattle.std.proofs.lemmas.Int.{unsigned_abs-mul}
use native.Mathlib.Nat as N
use mathlib.Core.Bool.{Bool-set}
use Rattle.algebra.specs.Solver.{at, ◌⊗◌, unity}
use Rattle.algebra.specs.Sound.{ring_from}
use Rattle.algebra.specs.Fraction.{Fraction, mul, fractions, zero_fraction, one_fraction, is_zero_fraction, is_nought, is_below_zero, absolute, inverse, mul_inverse, mul_comm, mul_one}
use Rattle.algebra.proofs.Pairs.{for_two_pairs}
use Rattle.algebra.specs.RingLaws as L
use Rattle.algebra.proofs.OrderLaws.{zero_from_test, zero_not_below}
use Rattle.algebra.proofs.AbsoluteLaws.{absolute_above, absolute-mul}

is_zero_size : ℕ → Bool
is_zero_size zero = true
is_zero_size (suc n) = false

by_size : (z : ℤ) → is_nought z ≡ is_zero_size (unsigned_abs z)
unfolding is_zero_size
by_size (pos zero) = refl
by_size (pos (suc n)) = refl
by_size (negsuc n) = refl

some_size : (k : ℕ) → 0 < k → is_zero_size k ≡ false
unfolding is_zero_size
some_size zero h = absurd (omega arith)
some_size (suc k) h = refl

size_product : (m n : ℕ) → is_zero_size (m * n) ≡ (is_zero_size m || is_zero_size n)
unfolding is_zero_size
size_product zero n = ap is_zero_size (N.zero-mul n)
size_product (suc m) zero = ap is_zero_size (N.mul-zero (suc m))
size_product (suc m) (suc n) = some_size (suc m * suc n) (N.mul-pos (N.zero-lt-suc m) (N.zero-lt-suc n))

nought_product : (a b : ℤ) → is_nought (a *ℤ b) ≡ (is_nought a || is_nought b)
nought_product a b =
    by_size (a *ℤ b) ∙ ap is_zero_size (unsigned_abs-mul a b) ∙ size_product (unsigned_abs a) (unsigned_abs b)
    ∙ sym (ap₂ ◌||◌ (by_size a) (by_size b))

-- a product is 0 exactly where a factor is
pub is_zero-mul : (a b : Fraction) → is_zero_fraction (mul a b) ≡ (is_zero_fraction a || is_zero_fraction b)
unfolding is_zero_fraction mul
is_zero-mul =
    for_two_pairs (λ a b. is_zero_fraction (mul a b) ≡ (is_zero_fraction a || is_zero_fraction b)) (λ a b. Bool-set (is_zero_fraction (mul a b)) (is_zero_fraction a || is_zero_fraction b))
    (λ p q. nought_product p.num q.num)

pub zero_is_zero : is_zero_fraction zero_fraction ≡ true
unfolding is_zero_fraction zero_fraction
zero_is_zero = refl

pub one_is_not_zero : is_zero_fraction one_fraction ≡ false
unfolding is_zero_fraction one_fraction
one_is_not_zero = refl

pub inverse_of_zero : inverse zero_fraction ≡ zero_fraction
unfolding inverse zero_fraction
inverse_of_zero = refl

-- what times a is 1 is the reciprocal of a
pub inverse_unique : (a b : Fraction) → mul a b ≡ one_fraction → b ≡ inverse a
inverse_unique a b e = go (is_zero_fraction a) refl
  where
    go : (t : Bool) → is_zero_fraction a ≡ t → b ≡ inverse a
    go true h = absurd (cc (sym (ap is_zero_fraction e) ∙ is_zero-mul a b ∙ ap (λ s. s || is_zero_fraction b) h, one_is_not_zero))
    go false h =
        ring_from fractions (a ∷ b ∷ inverse a ∷ []) (at 1) (at 2 ⊗ (at 0 ⊗ at 1)) (at 1) unity (at 0 ⊗ at 2) (sym (mul_inverse a h)) refl
        ∙ ring_from fractions (a ∷ b ∷ inverse a ∷ []) (at 2 ⊗ (at 0 ⊗ at 1)) (at 2) (at 2) (at 0 ⊗ at 1) unity e refl

pub inverse-mul : (a b : Fraction) → inverse (mul a b) ≡ mul (inverse a) (inverse b)
inverse-mul a b = go (is_zero_fraction a) (is_zero_fraction b) refl refl
  where
    left : (a b : Fraction) → is_zero_fraction a ≡ true → inverse (mul a b) ≡ mul (inverse a) (inverse b)
    left a b h =
        let e = zero_from_test a h in
        ap (λ x. inverse (mul x b)) e ∙ ap inverse (L.zero-mul fractions b) ∙ inverse_of_zero
        ∙ sym (ap (λ x. mul x (inverse b)) (ap inverse e ∙ inverse_of_zero) ∙ L.zero-mul fractions (inverse b))

    go : (s t : Bool) → is_zero_fraction a ≡ s → is_zero_fraction b ≡ t → inverse (mul a b) ≡ mul (inverse a) (inverse b)
    go true t h g = left a b h
    go false true h g = ap inverse (mul_comm a b) ∙ left b a g ∙ mul_comm (inverse b) (inverse a)
    go false false h g =
        sym (inverse_unique (mul a b) (mul (inverse a) (inverse b))
        (L.mul_medial fractions a b (inverse a) (inverse b) ∙ ap₂ mul (mul_inverse a h) (mul_inverse b g) ∙ mul_one one_fraction))

absolute_zero : absolute zero_fraction ≡ zero_fraction
absolute_zero = absolute_above zero_fraction zero_not_below

one_not_below : is_below_zero one_fraction ≡ false
unfolding is_below_zero one_fraction
one_not_below = refl

pub absolute-inverse : (a : Fraction) → absolute (inverse a) ≡ inverse (absolute a)
absolute-inverse a = go (is_zero_fraction a) refl
  where
    go : (t : Bool) → is_zero_fraction a ≡ t → absolute (inverse a) ≡ inverse (absolute a)
    go true h =
        let e = zero_from_test a h in
        ap (λ x. absolute (inverse x)) e ∙ ap absolute inverse_of_zero ∙ absolute_zero
        ∙ sym (ap (λ x. inverse (absolute x)) e ∙ ap inverse absolute_zero ∙ inverse_of_zero)
    go false h =
        inverse_unique (absolute a) (absolute (inverse a))
        (sym (absolute-mul a (inverse a)) ∙ ap absolute (mul_inverse a h) ∙ absolute_above one_fraction one_not_below)
