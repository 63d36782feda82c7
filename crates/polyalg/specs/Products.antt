-- The steps of a product of polynomials, and which of them pass
use Rattle.std.specs.Prelude.{◌≡◌, ℕ, ◌+◌, max, Bool, true, false, cond, Option, Some, option_and_then, List, [], ◌∷◌}
use Rattle.std.proofs.Common.{refl, sym}
use Rattle.algebra.specs.Ring.{additive}
use Rattle.algebra.specs.RingLaws as L
use Rattle.algebra.specs.Fraction.{Fraction, fractions, zero_fraction, add}
use Rattle.algebra.specs.Steps.{product, sum}
use Rattle.ratio.specs.Value.{fraction_of}
use Rattle.calculus.specs.Free as F
use Rattle.calculus.specs.Polynomial.{Polynomial, plus, monomial}
use Rattle.calculus.specs.Powers.{Powers, powers, powers_of, powers_eq}
use Rattle.polyalg.specs.Exponents.{exponent, total}
use Rattle.polyalg.specs.declared.term.Term.{Term}

pub coefficient_additive : (e : List ℕ) (a b : Fraction) (f : Powers) → cond (powers_eq f (powers_of e)) (add a b) zero_fraction ≡ add (cond (powers_eq f (powers_of e)) a zero_fraction) (cond (powers_eq f (powers_of e)) b zero_fraction)
coefficient_additive e a b f = go (powers_eq f (powers_of e))
  where
    go : (t : Bool) → cond t (add a b) zero_fraction ≡ add (cond t a zero_fraction) (cond t b zero_fraction)
    go true = refl
    go false = sym (L.zero-add fractions zero_fraction)

-- the coefficient of these exponents, 0 where there is none
unfoldable pub coefficient_in : List ℕ → Polynomial → Fraction
coefficient_in e = F.extended (additive fractions) powers.exponents (additive fractions) (λ c f. cond (powers_eq f (powers_of e)) c zero_fraction) (coefficient_additive e)

-- the exponents of a product
abbrev pub exponent_sum : List ℕ → List ℕ → List ℕ
exponent_sum e f = (exponent e 0 + exponent f 0) ∷ (exponent e 1 + exponent f 1) ∷ (exponent e 2 + exponent f 2) ∷ []

-- a term times each term of the right side in order: the product of the coefficients, then its sum with the coefficient so far
abbrev pub row_steps : Polynomial → Term → List Term → Option Polynomial
row_steps p s [] = Some p
row_steps p s (t ∷ ts) =
    option_and_then
    (λ x. option_and_then (λ y. row_steps (plus p (monomial x (exponent_sum s.e t.e))) s ts) (sum (coefficient_in (exponent_sum s.e t.e) p) x))
    (product (fraction_of s.c) (fraction_of t.c))

-- the terms of the left side in order
abbrev pub product_steps : Polynomial → List Term → List Term → Option Polynomial
product_steps p [] ts = Some p
product_steps p (s ∷ ss) ts = option_and_then (λ q. product_steps q ss ts) (row_steps p s ts)

-- the greatest degree of the terms
abbrev pub degree_of : List Term → ℕ
degree_of [] = 0
degree_of (t ∷ ts) = max (total t.e) (degree_of ts)
