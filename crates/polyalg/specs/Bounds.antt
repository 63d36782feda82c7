-- Bounds on the coefficients of polynomials
use Rattle.std.specs.Prelude.{◌≡◌, ℕ, ◌<◌, List, [], ◌∷◌}
use mathlib.Core.Quot.{mk}
use Rattle.algebra.specs.Fraction.{Fraction}
use Rattle.algebra.specs.Over.{AreOver}
use Rattle.ratio.specs.Value.{fraction_of}
use Rattle.calculus.specs.Polynomial.{Polynomial}
use Rattle.calculus.specs.Powers.{Powers}
use Rattle.polyalg.specs.declared.term.Term.{Term}

abbrev pub coefficients : List Term → List Fraction
coefficients [] = []
coefficients (t ∷ ts) = fraction_of t.c ∷ coefficients ts

-- l times each coefficient is a whole number, and the absolute values of these numbers add up to at most b
abbrev pub CoefficientsOver : ℕ → ℕ → List Term → Type 0
CoefficientsOver l b ts = AreOver l b (coefficients ts)

-- terms in any order, also several of the same powers
abbrev pub Pieces : Type 0
Pieces = List (Fraction × Powers)

abbrev pub sum_of : Pieces → Polynomial
sum_of p = mk p

abbrev pub sizes : Pieces → List Fraction
sizes [] = []
sizes (t ∷ p) = t.0 ∷ sizes p

-- the polynomial is a sum of terms whose coefficients, times l, are whole numbers with absolute values that add up to at most b
pub record HasSize (l b : ℕ) (p : Polynomial) : Type 0 where
  pub positive : 0 < l
  pub pieces : Pieces
  pub is : p ≡ sum_of pieces
  pub over : AreOver l b (sizes pieces)
