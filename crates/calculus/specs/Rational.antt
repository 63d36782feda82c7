-- The fractions as a field
use Rattle.std.specs.Prelude.{◌≡◌, ℕ, zero, suc, pos, ◌+◌, ◌*◌, true, false}
use Rattle.algebra.specs.Ring.{natural}
use Rattle.algebra.specs.Integers.{mul_one}
use Rattle.algebra.specs.Fraction.{Fraction, fractions, Same, whole, same, add, inverse, mul_inverse, is_zero_fraction, zero_fraction, one_fraction, pair_sum, nought}
use Rattle.calculus.specs.OverRing.{IsRingMap}
use Rattle.calculus.specs.Field.{Field}
use mathlib.Core.Path.{refl, sym, ◌∙◌, ap}
use mathlib.Core.HLevel.{Π_prop}
use mathlib.Core.Quot.{mk, ind, Quot-set}
use lib.IntN.{zero-*ℤ}
use native.Mathlib.Omega.{arith}

pub zero_where : (a : Fraction) → is_zero_fraction a ≡ true → a ≡ zero_fraction
unfolding is_zero_fraction zero_fraction
zero_where =
    ind {r = Same} {β = λ a. is_zero_fraction a ≡ true → a ≡ zero_fraction} (λ a. Π_prop (λ _. Quot-set a zero_fraction))
    (λ p e. same p (whole (pos 0)) (mul_one p.num ∙ nought p.num e ∙ sym (zero-*ℤ (pos p.den))))

pub natural_whole : (n : ℕ) → natural fractions n ≡ mk (whole (pos n))
unfolding zero_fraction one_fraction add
natural_whole zero = refl
natural_whole (suc n) =
    ap (add one_fraction) (natural_whole n)
    ∙ same (pair_sum (whole (pos 1)) (whole (pos n))) (whole (pos (suc n))) (ap pos (one_more n))
  where
    one_more : (n : ℕ) → (1 * 1 + n * 1) * 1 ≡ suc n * 1
    one_more n = omega arith

pub natural_apart : (n : ℕ) → is_zero_fraction (natural fractions (suc n)) ≡ false
natural_apart n = ap is_zero_fraction (natural_whole (suc n)) ∙ go n
  where
    go : (n : ℕ) → is_zero_fraction (mk (whole (pos (suc n)))) ≡ false
    go n = unfold is_zero_fraction in refl

abbrev pub rationals : Field fractions
rationals = record {
  is_nought = is_zero_fraction;
  nought = zero_where;
  inverse = inverse;
  inverse-mul = mul_inverse;
  division = record { over = λ n. inverse (natural fractions (suc n)); over-mul = λ n. mul_inverse (natural fractions (suc n)) (natural_apart n) };
}

-- each fraction as itself
pub same_map : IsRingMap fractions fractions (λ a. a)
same_map = record { adds = λ a b. refl; multiplies = λ a b. refl; unit = refl }
