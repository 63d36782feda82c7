-- Whole numbers among the fractions
use Rattle.std.proofs.Common.{◌≡◌, ℤ, pos, ◌*ℤ◌, ◌+ℤ◌, neg_ℤ, refl, [], ◌∷◌}
use Rattle.algebra.specs.Integers.{integers}
use Rattle.algebra.specs.Solver.{at, num, ◌⊕◌, ◌⊗◌}
use Rattle.algebra.specs.Sound.{ring}
use Rattle.algebra.specs.Fraction.{same, whole, pair_sum, pair_product, add, mul, negative, of_integer, zero_fraction, one_fraction}

pub of_integer-zero : of_integer (pos 0) ≡ zero_fraction
unfolding of_integer zero_fraction
of_integer-zero = refl

pub of_integer-one : of_integer (pos 1) ≡ one_fraction
unfolding of_integer one_fraction
of_integer-one = refl

pub of_integer-add : (x y : ℤ) → of_integer (x +ℤ y) ≡ add (of_integer x) (of_integer y)
unfolding of_integer add
of_integer-add x y =
    same (whole (x +ℤ y)) (pair_sum (whole x) (whole y)) (ring integers (x ∷ y ∷ [])
    ((at 0 ⊕ at 1) ⊗ (num (pos 1) ⊗ num (pos 1))) ((at 0 ⊗ num (pos 1) ⊕ at 1 ⊗ num (pos 1)) ⊗ num (pos 1)) refl)

pub of_integer-mul : (x y : ℤ) → of_integer (x *ℤ y) ≡ mul (of_integer x) (of_integer y)
unfolding of_integer mul
of_integer-mul x y =
    same (whole (x *ℤ y)) (pair_product (whole x) (whole y)) (ring integers (x ∷ y ∷ []) (at 0 ⊗ at 1 ⊗ (num (pos 1) ⊗ num (pos 1))) (at 0 ⊗ at 1 ⊗ num (pos 1)) refl)

pub of_integer-negative : (x : ℤ) → of_integer (neg_ℤ x) ≡ negative (of_integer x)
unfolding of_integer negative
of_integer-negative x = refl
