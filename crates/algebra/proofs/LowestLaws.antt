-- A fraction and its parts in lowest terms
use Rattle.std.proofs.Common.{◌≡◌, ℕ, zero, suc, ℤ, pos, negsuc, ◌*◌, ◌/◌, ◌<◌, ◌*ℤ◌, neg_ℤ, unsigned_abs, refl, sym, ◌∙◌, ap, ap₂, arith}
use Rattle.std.proofs.Math.Bridge.{le_prop}
use native.Mathlib.Nat as N
use lib.IntN.{ℤ_set, neg_ℤ-neg_ℤ}
use mathlib.Core.Quot.{mk, Quot-set}
use Rattle.algebra.specs.Fraction.{Pair, Fraction, same, negative, below_nought}
use Rattle.algebra.specs.Gcd.{gcd}
use Rattle.algebra.specs.GcdLaws.{coprime_parts, gcd_from_coprime, gcd_positive_right, part_left, part_right, positive_part}
use Rattle.algebra.specs.LowestTerms.{top, bottom, top_of, bottom_of}
use Rattle.algebra.specs.Sign.{signed}
use Rattle.algebra.proofs.Pairs.{for_pairs}
use Rattle.algebra.proofs.Signs.{size_of_signed, signed_size, signed-mul, unsigned_abs-neg}

bottom_of_positive : (n d : ℕ) → 0 < d → 0 < d / gcd n d
bottom_of_positive n d h = positive_part (gcd n d) (d / gcd n d) d h (part_right n d)

pub bottom_positive : (x : Fraction) → 0 < bottom x
unfolding bottom
bottom_positive = for_pairs (λ x. 0 < bottom x) (λ x. le_prop) (λ p. bottom_of_positive (unsigned_abs p.num) p.den p.positive)

coprime_at : (z : ℤ) (d : ℕ) → 0 < d → gcd (unsigned_abs (top_of z d)) (bottom_of z d) ≡ 1
coprime_at z d h =
    ap (λ n. gcd n (bottom_of z d)) (size_of_signed (below_nought z) (unsigned_abs z / gcd (unsigned_abs z) d))
    ∙ gcd_from_coprime (unsigned_abs z / gcd (unsigned_abs z) d) (d / gcd (unsigned_abs z) d)
    (coprime_parts (unsigned_abs z) d (unsigned_abs z / gcd (unsigned_abs z) d) (d / gcd (unsigned_abs z) d)
    (gcd_positive_right (unsigned_abs z) d h) (part_left (unsigned_abs z) d) (part_right (unsigned_abs z) d))

-- the parts have no common divisor
pub parts_coprime : (x : Fraction) → gcd (unsigned_abs (top x)) (bottom x) ≡ 1
unfolding top bottom
parts_coprime = for_pairs (λ x. gcd (unsigned_abs (top x)) (bottom x) ≡ 1) (λ x. N.ℕ_set _ _) (λ p. coprime_at p.num p.den p.positive)

across : (n d g x y : ℕ) → n ≡ g * x → d ≡ g * y → n * y ≡ x * d
across n d g x y p q = ap (λ j. j * y) p ∙ turn g x y ∙ ap (λ j. x * j) (sym q)
  where
    turn : (g x y : ℕ) → g * x * y ≡ x * (g * y)
    turn g x y = omega arith

quotient_at : (z : ℤ) (d : ℕ) → z *ℤ pos (bottom_of z d) ≡ top_of z d *ℤ pos d
quotient_at z d =
    ap (λ y. y *ℤ pos (bottom_of z d)) (sym (signed_size z))
    ∙ signed-mul (below_nought z) (unsigned_abs z) (bottom_of z d)
    ∙ ap (signed (below_nought z)) (across (unsigned_abs z) d (gcd (unsigned_abs z) d) (unsigned_abs z / gcd (unsigned_abs z) d) (d / gcd (unsigned_abs z) d) (part_left (unsigned_abs z) d) (part_right (unsigned_abs z) d))
    ∙ sym (signed-mul (below_nought z) (unsigned_abs z / gcd (unsigned_abs z) d) d)

-- the parts as a pair
abbrev pub lowest_pair : Fraction → Pair
lowest_pair x = record { num = top x; den = bottom x; positive = bottom_positive x }

-- a fraction is its top over its bottom
pub from_parts : (x : Fraction) → x ≡ mk (lowest_pair x)
unfolding top bottom
from_parts = for_pairs (λ x. x ≡ mk (lowest_pair x)) (λ x. Quot-set x (mk (lowest_pair x))) (λ p. same p (lowest_pair (mk p)) (quotient_at p.num p.den))

-- fractions with the same parts are equal; the other way round is `ap top` and `ap bottom`
pub same_from_parts : (x y : Fraction) → top x ≡ top y → bottom x ≡ bottom y → x ≡ y
same_from_parts x y e f = from_parts x ∙ same (lowest_pair x) (lowest_pair y) (ap₂ (λ n d. n *ℤ pos d) e (sym f)) ∙ sym (from_parts y)

top_turned : (z : ℤ) (d : ℕ) → top_of (neg_ℤ z) d ≡ neg_ℤ (top_of z d)
top_turned (pos zero) d = ap pos (N.zero-div (gcd 0 d)) ∙ sym (ap (λ k. neg_ℤ (pos k)) (N.zero-div (gcd 0 d)))
top_turned (pos (suc n)) d = refl
top_turned (negsuc n) d = sym (neg_ℤ-neg_ℤ (pos (suc n / gcd (suc n) d)))

pub top-negative : (x : Fraction) → top (negative x) ≡ neg_ℤ (top x)
unfolding top negative
top-negative = for_pairs (λ x. top (negative x) ≡ neg_ℤ (top x)) (λ x. ℤ_set _ _) (λ p. top_turned p.num p.den)

pub bottom-negative : (x : Fraction) → bottom (negative x) ≡ bottom x
unfolding bottom negative
bottom-negative = for_pairs (λ x. bottom (negative x) ≡ bottom x) (λ x. N.ℕ_set _ _) (λ p. ap (λ n. p.den / gcd n p.den) (unsigned_abs-neg p.num))
