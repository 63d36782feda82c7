-- Numerators over a common denominator
use Rattle.std.proofs.Common.{◌≡◌, ℕ, zero, suc, ℤ, pos, ◌*◌, ◌/◌, ◌<◌, ◌≤◌, ◌*ℤ◌, [], ◌∷◌, refl, sym, ◌∙◌, ap, subst, arith, unsigned_abs}
use Rattle.std.proofs.lemmas.Int.{unsigned_abs-mul}
use Prim.Native.Nat.{◌∣◌}
use native.Mathlib.Nat as N
use Rattle.algebra.specs.Fraction.{Pair, Fraction, same, below_nought}
use Rattle.algebra.specs.Integers.{integers}
use Rattle.algebra.specs.Solver.{at, ◌⊗◌}
use Rattle.algebra.specs.Sound.{ring}
use Rattle.algebra.specs.Gcd.{gcd}
use Rattle.algebra.specs.GcdLaws.{part_left, part_right}
use Rattle.algebra.specs.LowestTerms.{top, bottom, top_of, bottom_of}
use Rattle.algebra.proofs.LowestLaws.{lowest_pair, from_parts}
use Rattle.algebra.proofs.Signs.{size_of_signed}
use Rattle.weigh.specs.Numerators.{size_over}
use Rattle.algebra.specs.Over.{Over}
use Rattle.weigh.proofs.LcmLaws.{times_of}

abbrev pair : ℤ → (l : ℕ) → 0 < l → Pair
pair z l h = record { num = z; den = l; positive = h }

-- ---- a fraction is over each multiple of its denominator, and over no other number
pub over_multiple : (l : ℕ) (x : Fraction) → 1 ≤ l → bottom x ∣ l → Over l (size_over l x) x
over_multiple l x p h = record {
  positive = p;
  num = top x *ℤ pos (l / bottom x);
  is = from_parts x ∙ same (lowest_pair x) (pair (top x *ℤ pos (l / bottom x)) l p) (across (l / bottom x) (times_of (bottom x) l h));
  bound = N.le_of_eq (unsigned_abs-mul (top x) (pos (l / bottom x)));
}
  where
    across : (q : ℕ) → l ≡ bottom x * q → top x *ℤ pos l ≡ top x *ℤ pos q *ℤ pos (bottom x)
    across q e = ap (λ n. top x *ℤ pos n) e ∙ ring integers (top x ∷ pos (bottom x) ∷ pos q ∷ []) (at 0 ⊗ (at 1 ⊗ at 2)) (at 0 ⊗ at 2 ⊗ at 1) refl

-- the parts of a pair in lowest terms, put together again
whole_size : (n l : ℕ) → 0 < l → n / gcd n l * (l / (l / gcd n l)) ≡ n
whole_size n l h =
    ap (λ k. n / gcd n l * k) (quotient (gcd n l) (l / gcd n l) (part_right n l))
    ∙ N.mul_comm (n / gcd n l) (gcd n l) ∙ sym (part_left n l)
  where
    quotient : (g y : ℕ) → l ≡ g * y → l / y ≡ g
    quotient g zero e = absurd (let z : g * 0 ≡ 0 = N.mul-zero g in omega (arith, h, e, z))
    quotient g (suc y) e = ap (λ k. k / suc y) e ∙ N.mul-div_cancel g (N.zero-lt-suc y)

divides_pair : (z : ℤ) (l : ℕ) → bottom_of z l ∣ l
divides_pair z l = subst (λ k. bottom_of z l ∣ k) (sym (part_right (unsigned_abs z) l)) (N.dvd-mul_left (bottom_of z l) (gcd (unsigned_abs z) l))

pub over_divides : (l b : ℕ) (x : Fraction) → Over l b x → bottom x ∣ l
unfolding bottom
over_divides l b x o = subst (λ k. k ∣ l) (sym (ap bottom o.is)) (divides_pair o.num l)

pub over_size : (l b : ℕ) (x : Fraction) → Over l b x → size_over l x ≤ b
unfolding top bottom
over_size l b x o = subst (λ k. k ≤ b) (sym (ap (size_over l) o.is ∙ at o.num)) o.bound
  where
    at : (z : ℤ) → unsigned_abs (top_of z l) * (l / bottom_of z l) ≡ unsigned_abs z
    at z = ap (λ n. n * (l / bottom_of z l)) (size_of_signed (below_nought z) (unsigned_abs z / gcd (unsigned_abs z) l)) ∙ whole_size (unsigned_abs z) l o.positive
