-- A sum with 0 never passes
use Rattle.std.proofs.Common.{◌≡◌, ℕ, ℤ, pos, ◌/◌, ◌*ℤ◌, ◌+ℤ◌, ◌<◌, ◌^◌, true, Some, None, if◌then◌else◌, refl, ap, ap₂, ◌∙◌, arith, unsigned_abs}
use Rattle.std.proofs.lemmas.Int.{unsigned_abs-mul}
use Rattle.std.proofs.Math.Nat.{div-le_self, mul-le-mul_left}
use Rattle.algebra.specs.RingLaws as L
use Rattle.algebra.specs.Gcd.{gcd}
use Rattle.algebra.specs.Integers.{integers}
use Rattle.algebra.specs.Fraction.{fractions, zero_fraction, add}
use Rattle.algebra.specs.LowestTerms.{top, bottom}
use Rattle.algebra.specs.Steps.{sum, sum_fits, sum_fits_at, fits}
use Rattle.ratio.specs.declared.reduced.Ratio.{Ratio}
use Rattle.ratio.specs.Value.{fraction_of, pair_of}
use Rattle.ratio.proofs.Reading.{top_reads, bottom_reads, below, and_true, pair_fits}

zero_top : top zero_fraction ≡ pos 0
unfolding top zero_fraction gcd
zero_top = refl

zero_bottom : bottom zero_fraction ≡ 1
unfolding bottom zero_fraction gcd
zero_bottom = refl

smaller : (a g : ℕ) → a < 2 ^ 127 → a / g < 2 ^ 127
smaller a g h = omega (arith, div-le_self a g)

ratio_fits : (x : Ratio) → fits (fraction_of x) ≡ true
unfolding fraction_of
ratio_fits x = pair_fits (pair_of x) (smaller _ _ x.fits, smaller _ _ x.small)

nought : (q : ℕ) → unsigned_abs (pos 0 *ℤ pos q) < 2 ^ 127
nought q = omega (arith, unsigned_abs-mul (pos 0) (pos q))

part : (n : ℤ) (d : ℕ) → unsigned_abs n < 2 ^ 127 → unsigned_abs (n *ℤ pos (1 / gcd 1 d)) < 2 ^ 127
part n d h = omega (arith, unsigned_abs-mul n (pos (1 / gcd 1 d)), mul-le-mul_left (unsigned_abs n) (div-le_self 1 (gcd 1 d)))

both : (n : ℤ) (d q : ℕ) → unsigned_abs n < 2 ^ 127 → unsigned_abs (pos 0 *ℤ pos q +ℤ n *ℤ pos (1 / gcd 1 d)) < 2 ^ 127
both n d q h =
    let e : pos 0 *ℤ pos q +ℤ n *ℤ pos (1 / gcd 1 d) ≡ n *ℤ pos (1 / gcd 1 d) = ap (λ z. z +ℤ n *ℤ pos (1 / gcd 1 d)) (L.zero-mul integers (pos q)) ∙ L.zero-add integers (n *ℤ pos (1 / gcd 1 d)) in
    omega (arith, ap unsigned_abs e, part n d h)

zero_sum_fits : (x : Ratio) → sum_fits zero_fraction (fraction_of x) ≡ true
zero_sum_fits x =
    ap₂ (λ n d. sum_fits_at n d (top (fraction_of x)) (bottom (fraction_of x)) (add zero_fraction (fraction_of x))) zero_top zero_bottom
    ∙ ap₂ (λ m e. sum_fits_at (pos 0) 1 m e (add zero_fraction (fraction_of x))) (top_reads x) (bottom_reads x)
    ∙ ap (sum_fits_at (pos 0) 1 x.n x.d) (L.zero-add fractions (fraction_of x))
    ∙ and_true _ _ (below _ (nought (x.d / gcd 1 x.d)))
    (and_true _ _ (below _ (part x.n x.d x.fits)) (and_true _ _ (below _ (both x.n x.d (x.d / gcd 1 x.d) x.fits)) (ratio_fits x)))

pub zero_sum : (x : Ratio) → sum zero_fraction (fraction_of x) ≡ Some (fraction_of x)
unfolding sum
zero_sum x =
    ap (λ b. if b then Some (add zero_fraction (fraction_of x)) else None) (zero_sum_fits x) ∙ ap Some (L.zero-add fractions (fraction_of x))
