-- The test for 0 doesn't see the sign
use Rattle.std.proofs.Common.{◌≡◌, zero, suc, ℤ, pos, negsuc, neg_ℤ, refl}
use mathlib.Core.Bool.{Bool-set}
use Rattle.algebra.specs.Fraction.{Fraction, negative, is_zero_fraction, is_nought}
use Rattle.algebra.proofs.Pairs.{for_pairs}

negative_nought : (z : ℤ) → is_nought (neg_ℤ z) ≡ is_nought z
negative_nought (pos zero) = refl
negative_nought (pos (suc n)) = refl
negative_nought (negsuc n) = refl

pub negative_zero : (a : Fraction) → is_zero_fraction (negative a) ≡ is_zero_fraction a
unfolding is_zero_fraction negative
negative_zero = for_pairs (λ a. is_zero_fraction (negative a) ≡ is_zero_fraction a) (λ a. Bool-set (is_zero_fraction (negative a)) (is_zero_fraction a)) (λ p. negative_nought p.num)
