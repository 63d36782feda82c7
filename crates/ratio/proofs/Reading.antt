-- What the parts of a fraction are at a reduced pair, and when a step passes
use Rattle.std.proofs.Common.{◌≡◌, ℕ, ◌*ℤ◌, ◌*◌, ◌/◌, ◌<◌, ◌^◌, refl, sym, ◌∙◌, ap, ap₂, arith, unsigned_abs, Bool, true, false, Option, None, Some, IsSome, IfSome, ◌↔◌, ltb-true, ◌&&◌, if◌then◌else◌}
use native.Mathlib.Nat as N
use mathlib.Core.Quot.{mk}
use Rattle.algebra.specs.Fraction.{Pair, Fraction, add, mul, below_nought, pair_product, pair_sum}
use Rattle.algebra.specs.Gcd.{gcd}
use Rattle.algebra.specs.Sign.{signed}
use Rattle.algebra.proofs.Signs.{size_of_signed, signed_size}
use Rattle.ratio.specs.declared.reduced.Ratio.{Ratio}
use Rattle.ratio.specs.Value.{fraction_of, pair_of, valued}
use Rattle.ratio.specs.Parts.{Fits, SumFits}
use Rattle.algebra.specs.LowestTerms.{top, bottom}
use Rattle.algebra.specs.Steps.{below_limit, fits, sum_fits, sum_fits_at}

by_one : (n g : ℕ) → g ≡ 1 → n / g ≡ n
by_one n g e = ap (λ k. n / k) e ∙ N.div-one n

pub top_reads : (r : Ratio) → top (fraction_of r) ≡ r.n
unfolding top fraction_of
top_reads r = ap (signed (below_nought r.n)) (by_one (unsigned_abs r.n) _ r.lowest) ∙ signed_size r.n

pub bottom_reads : (r : Ratio) → bottom (fraction_of r) ≡ r.d
unfolding bottom fraction_of
bottom_reads r = by_one r.d _ r.lowest

pub below : (n : ℕ) → n < 2 ^ 127 → below_limit n ≡ true
below n h = grind arith

pub below_is : (n : ℕ) → below_limit n ≡ true → n < 2 ^ 127
below_is n h = ltb-true n (2 ^ 127) h

pub and_true : (a b : Bool) → a ≡ true → b ≡ true → (a && b) ≡ true
and_true true b h g = g
and_true false b h g = cc

pub and_is : (a b : Bool) → (a && b) ≡ true → (a ≡ true) × (b ≡ true)
and_is true b h = (refl, h)
and_is false b h = cc

fits_at : (p : Pair) → fits (mk p) ≡ (below_limit (unsigned_abs p.num / gcd (unsigned_abs p.num) p.den) && below_limit (p.den / gcd (unsigned_abs p.num) p.den))
unfolding top bottom
fits_at p = ap (λ k. below_limit k && below_limit (p.den / gcd (unsigned_abs p.num) p.den)) (size_of_signed (below_nought p.num) _)

pub pair_fits : (p : Pair) → Fits (unsigned_abs p.num) p.den → fits (mk p) ≡ true
pair_fits p h = fits_at p ∙ and_true _ _ (below _ h.0) (below _ h.1)

pub fits_pair : (p : Pair) → fits (mk p) ≡ true → Fits (unsigned_abs p.num) p.den
fits_pair p h = let both = and_is _ _ (sym (fits_at p) ∙ h) in (below_is _ both.0, below_is _ both.1)

pub product_fits : (a b : Ratio) → (Fits (unsigned_abs (a.n *ℤ b.n)) (a.d * b.d) → fits (mul (fraction_of a) (fraction_of b)) ≡ true)
    × (fits (mul (fraction_of a) (fraction_of b)) ≡ true → Fits (unsigned_abs (a.n *ℤ b.n)) (a.d * b.d))
unfolding mul fraction_of
product_fits a b = (pair_fits (pair_product (pair_of a) (pair_of b)), fits_pair (pair_product (pair_of a) (pair_of b)))

at_parts : (a b : Ratio) → sum_fits (fraction_of a) (fraction_of b) ≡ sum_fits_at a.n a.d b.n b.d (add (fraction_of a) (fraction_of b))
at_parts a b =
    ap₂ (λ n d. sum_fits_at n d (top (fraction_of b)) (bottom (fraction_of b)) (add (fraction_of a) (fraction_of b))) (top_reads a) (bottom_reads a)
    ∙ ap₂ (λ m e. sum_fits_at a.n a.d m e (add (fraction_of a) (fraction_of b))) (top_reads b) (bottom_reads b)

pub sum_does : (a b : Ratio) → (SumFits a.n a.d b.n b.d → sum_fits (fraction_of a) (fraction_of b) ≡ true)
    × (sum_fits (fraction_of a) (fraction_of b) ≡ true → SumFits a.n a.d b.n b.d)
unfolding add fraction_of
sum_does a b = (
  λ h. at_parts a b ∙ and_true _ _ (below _ h.0) (and_true _ _ (below _ h.1) (and_true _ _ (below _ h.2) (pair_fits (pair_sum (pair_of a) (pair_of b)) h.3))),
  λ h.
      let one = and_is _ _ (sym (at_parts a b) ∙ h) in
      let two = and_is _ _ one.1 in
      let three = and_is _ _ two.1 in
      (below_is _ one.0, below_is _ two.0, below_is _ three.0, fits_pair (pair_sum (pair_of a) (pair_of b)) three.1),
)

-- an answer that comes exactly where the test holds, and then has the value
pub answered : (P : Type 0) (r : Option Ratio) (v : Fraction) (t : Bool) → IsSome r ↔ P → (P → t ≡ true) × (t ≡ true → P) → IfSome r (λ x. fraction_of x ≡ v)
    → valued r ≡ if t then Some v else None
answered P None v true h g k = absurd (no_value (h.1 (g.1 refl)))
  where
    no_value : false ≡ true → ⊥
    no_value s = cc
answered P None v false h g k = refl
answered P (Some x) v true h g k = ap Some k
answered P (Some x) v false h g k = absurd (no_value (g.0 (h.0 refl)))
  where
    no_value : false ≡ true → ⊥
    no_value s = cc
