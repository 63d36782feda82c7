-- The negative, the absolute value and the reciprocal of a reduced pair
use Rattle.std.proofs.Common.{◌≡◌, ℕ, ℤ, pos, negsuc, zero, suc, ◌<◌, ◌^◌, ◌*ℤ◌, ◌<ℤ◌, eqb, of_z, int_cmp, neg_ℤ, refl, sym, ◌∙◌, ap, ap₂, arith, unsigned_abs, Bool, true, false, Option, None, Some, IsSome, IfSome, if◌then◌else◌}
use Rattle.std.specs.Cmp.{int_cmp_is}
use Rattle.std.proofs.lemmas.Int.{ints}
use Rattle.std.proofs.lemmas.Bool.Decides.{nat_tests}
use mathlib.Core.Quot.{mk}
use Rattle.ratio.specs.declared.reduced.Ratio.{Ratio}
use Rattle.ratio.specs.Value.{pair_of, fraction_of, valued}
use Rattle.algebra.specs.Steps.{reciprocal}
use Rattle.std.specs.Int.{w128}
use Rattle.std.specs.declared.cmp.Ordering.TheVariants.{Less, Equal, Greater}
use Rattle.algebra.specs.Order.{compare_to_zero}
use Rattle.algebra.specs.Sign.{signed, is_negative}
use Rattle.algebra.specs.Fraction.{Pair, same, pair_negative, negative, absolute, when, is_below_zero, below_nought, is_nought, is_zero_fraction, inverse, inverse_parts}

pub has_value : (r : Ratio) (p : Pair) → r.n ≡ p.num → r.d ≡ p.den → fraction_of r ≡ mk p
unfolding fraction_of
has_value r p e f = same (pair_of r) p (ap₂ (λ n d. n *ℤ pos d) e (sym f))

pub negative_value : (r s : Ratio) → r.n ≡ neg_ℤ s.n → r.d ≡ s.d → fraction_of r ≡ negative (fraction_of s)
unfolding fraction_of negative
negative_value r s e f = has_value r (pair_negative (pair_of s)) e f

tests : (z : ℤ) → below_nought z ≡ is_negative z
tests (pos n) = refl
tests (negsuc n) = refl

pub absolute_is : (s : Ratio) (b : Bool) → is_negative s.n ≡ b → when b (negative (fraction_of s)) (fraction_of s) ≡ absolute (fraction_of s)
unfolding fraction_of is_below_zero
absolute_is s b e = ap (λ t. when t (negative (fraction_of s)) (fraction_of s)) (sym e ∙ sym (tests s.n))

inverse_cross : (n : ℤ) (d : ℕ) → is_nought n ≡ false → signed (is_negative n) d *ℤ pos (inverse_parts n d).den ≡ (inverse_parts n d).num *ℤ pos (unsigned_abs n)
inverse_cross (pos zero) d h = cc
inverse_cross (pos (suc n)) d h = refl
inverse_cross (negsuc n) d h = refl

pub no_size : (n : ℤ) (k : ℕ) → k ≡ unsigned_abs n → k ≡ 0 → is_nought n ≡ true
no_size (pos zero) k e h = refl
no_size (pos (suc n)) k e h = absurd (omega arith)
no_size (negsuc n) k e h = absurd (omega arith)

pub some_size : (n : ℤ) (k : ℕ) → k ≡ unsigned_abs n → 0 < k → is_nought n ≡ false
some_size (pos zero) k e h = absurd (omega arith)
some_size (pos (suc n)) k e h = refl
some_size (negsuc n) k e h = refl

pub no_reciprocal : (s : Ratio) → is_nought s.n ≡ true → None ≡ reciprocal (fraction_of s)
unfolding reciprocal fraction_of is_zero_fraction
no_reciprocal s h = ap (λ b. if b then None else Some (inverse (fraction_of s))) (sym h)

pub inverse_value : (r s : Ratio) (k : ℕ) (b : Bool) → is_nought s.n ≡ false → b ≡ is_negative s.n → k ≡ unsigned_abs s.n → (r.n ≡ signed b s.d) × (r.d ≡ k) → fraction_of r ≡ inverse (fraction_of s)
unfolding fraction_of inverse
inverse_value r s k b h eb ek (en, ed) =
    same (pair_of r) (inverse_parts s.n s.d)
    (ap (λ z. z *ℤ pos (inverse_parts s.n s.d).den) (en ∙ ap (λ t. signed t s.d) eb) ∙ inverse_cross s.n s.d h ∙ ap (λ d. (inverse_parts s.n s.d).num *ℤ pos d) (sym (ed ∙ ek)))

pub is_reciprocal : (o : Option Ratio) (s : Ratio) → is_nought s.n ≡ false → IsSome o → IfSome o (λ r. fraction_of r ≡ inverse (fraction_of s)) → valued o ≡ reciprocal (fraction_of s)
unfolding reciprocal fraction_of is_zero_fraction
is_reciprocal None s h i v = absurd (no_value i)
  where
    no_value : false ≡ true → ⊥
    no_value e = cc
is_reciprocal (Some r) s h i v = ap Some v ∙ ap (λ b. if b then None else Some (inverse (fraction_of s))) (sym h)

-- the test of a whole number as the machine makes it
pub word_is_nought : (n : ℤ) → unsigned_abs n < 2 ^ 127 → eqb (of_z w128 n) 0 ≡ is_nought n
word_is_nought (pos zero) h = refl
word_is_nought (pos (suc n)) h = grind (arith, nat_tests)
word_is_nought (negsuc n) h = grind (arith, nat_tests)

pub nought_of : (s : Ratio) → is_nought s.n ≡ is_zero_fraction (fraction_of s)
unfolding fraction_of is_zero_fraction
nought_of s = refl

-- how a whole number compares with 0 is how its fraction does
compared : (n : ℤ) → int_cmp n (pos 0) ≡ (if is_nought n then Equal else if below_nought n then Less else Greater)
compared (pos zero) = refl
compared (pos (suc n)) = sym (int_cmp_is (pos (suc n)) (pos 0) Greater (let above : pos 0 <ℤ pos (suc n) = omega (arith, ints) in above))
compared (negsuc n) = refl

pub compares : (s : Ratio) → int_cmp s.n (pos 0) ≡ compare_to_zero (fraction_of s)
unfolding fraction_of is_zero_fraction is_below_zero compare_to_zero
compares s = compared s.n
