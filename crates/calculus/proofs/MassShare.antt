-- The share of an interval in the mass form
use Rattle.std.proofs.Common.{◌≡◌, ℕ, zero, suc, ◌*◌, false, refl, sym, ◌∙◌, ap, ap₂, [], ◌∷◌, pos}
use Rattle.algebra.specs.Ring.{natural}
use Rattle.algebra.specs.IntegerMap.{natural-mul}
use Rattle.algebra.specs.Solver.{at, num, ◌⊕◌, ◌⊗◌, ◌⊖◌, unity}
use Rattle.algebra.specs.Sound as Solve
use Rattle.algebra.specs.Fraction.{Fraction, fractions, zero_fraction, mul, inverse, mul_inverse, is_zero_fraction, absolute}
use Rattle.calculus.specs.Point.{Point}
use Rattle.calculus.specs.Rational.{natural_apart}
use Rattle.calculus.specs.Polynomial.{Polynomial, one, times, minus, constant, coordinate, composed, whole, value, polynomials, times-one, times_comm}
use Rattle.calculus.specs.Simplex.{volume, reference, affine}
use Rattle.calculus.specs.Integral.{shadow_integral, cell_integral, pulled_back_integral, integral_value}
use Rattle.calculus.specs.LocalFunction.{local_function}
use Rattle.calculus.specs.Mass.{sixth, end_node, mass_factor, mass_density}
use Rattle.calculus.proofs.PolynomialLaws.{constant-mul, constant-one, composed-times, value-constant}
use Rattle.calculus.proofs.Barycentric.{basis_coordinate_of}
use Rattle.calculus.proofs.LocalFunctions.{linear_first, linear_second}
use Rattle.calculus.proofs.ChangeOfVariables.{cell_law}
use Rattle.calculus.proofs.ReferenceIntegrals.{interval_powers}

-- a whole number times its reciprocal
whole_inverse : (n : ℕ) → times (whole (suc n)) (constant (inverse (natural fractions (suc n)))) ≡ one
whole_inverse n = sym (constant-mul _ _) ∙ ap constant (mul_inverse (natural fractions (suc n)) (natural_apart n)) ∙ constant-one

-- where m k times p is m, p is 1/k
pub one_over : (m k : ℕ) (p : Polynomial) → times (whole (suc m * suc k)) p ≡ whole (suc m) → p ≡ constant (inverse (natural fractions (suc k)))
one_over m k p h =
    Solve.ring polynomials (p ∷ []) (at 0) (at 0 ⊗ (unity ⊗ unity)) refl
    ∙ ap₂ (λ x y. times p (times x y)) (sym (whole_inverse m)) (sym (whole_inverse k))
    ∙ Solve.ring polynomials (p ∷ whole (suc m) ∷ s ∷ whole (suc k) ∷ t ∷ []) (at 0 ⊗ ((at 1 ⊗ at 2) ⊗ (at 3 ⊗ at 4))) ((at 2 ⊗ at 4) ⊗ ((at 1 ⊗ at 3) ⊗ at 0)) refl
    ∙ ap (λ x. times (times s t) (times x p)) (sym (constant-mul _ _) ∙ ap constant (sym (natural-mul fractions (suc m) (suc k))))
    ∙ ap (times (times s t)) h
    ∙ Solve.ring polynomials (s ∷ t ∷ whole (suc m) ∷ []) ((at 0 ⊗ at 1) ⊗ at 2) (at 1 ⊗ (at 2 ⊗ at 0)) refl
    ∙ ap (times t) (whole_inverse m)
    ∙ times-one t
  where
    s : Polynomial
    s = constant (inverse (natural fractions (suc m)))

    t : Polynomial
    t = constant (inverse (natural fractions (suc k)))

abbrev X : Polynomial
X = coordinate 0

abbrev unit_integral : Polynomial → Polynomial
unit_integral p = shadow_integral 1 (reference 1) p

-- the coordinates of the unit interval
abbrev end_coordinate : ℕ → Polynomial
end_coordinate zero = minus one X
end_coordinate (suc k) = X

two_nodes : unit_integral (times (minus one X) X) ≡ constant sixth
two_nodes =
    ap unit_integral (Solve.ring polynomials (X ∷ []) ((unity ⊖ at 0) ⊗ at 0) (((unity ⊖ at 0) ⊗ unity) ⊗ (at 0 ⊗ unity)) refl)
    ∙ one_over 0 5 _ (interval_powers 1 1)

unit_share : (j k : ℕ) → unit_integral (times (end_coordinate j) (end_coordinate k)) ≡ constant (mass_factor j k)
unit_share zero zero =
    ap unit_integral (Solve.ring polynomials (X ∷ []) ((unity ⊖ at 0) ⊗ (unity ⊖ at 0)) (((unity ⊖ at 0) ⊗ ((unity ⊖ at 0) ⊗ unity)) ⊗ unity) refl)
    ∙ one_over 1 2 _ (interval_powers 2 0)
unit_share zero (suc k) = two_nodes
unit_share (suc j) zero = ap unit_integral (times_comm X (minus one X)) ∙ two_nodes
unit_share (suc j) (suc k) =
    ap unit_integral (Solve.ring polynomials (X ∷ []) (at 0 ⊗ at 0) (unity ⊗ (at 0 ⊗ (at 0 ⊗ unity))) refl)
    ∙ one_over 1 2 _ (interval_powers 0 2)

module _ (u w : Point Fraction) (h : is_zero_fraction (volume (u ∷ w ∷ [])) ≡ false) where
  end_function : (j : ℕ) → composed (affine (u ∷ w ∷ [])) (local_function (u ∷ w ∷ []) (end_node j)) ≡ end_coordinate j
  end_function zero =
      ap (composed (affine (u ∷ w ∷ []))) (linear_first u w) ∙ basis_coordinate_of (u ∷ w ∷ []) tt h 0
      ∙ Solve.ring polynomials (X ∷ []) (unity ⊖ (num (pos 0) ⊕ at 0)) (unity ⊖ at 0) refl
  end_function (suc k) = ap (composed (affine (u ∷ w ∷ []))) (linear_second u w) ∙ basis_coordinate_of (u ∷ w ∷ []) tt h 1

  -- the cell integral of the product of two linear functions
  pub mass_share : (j k : ℕ) → cell_integral (u ∷ w ∷ []) (mass_density (u ∷ w ∷ []) j k) ≡ constant (mul (absolute (volume (u ∷ w ∷ []))) (mass_factor j k))
  unfolding pulled_back_integral
  mass_share j k =
      cell_law (u ∷ w ∷ []) tt (mass_density (u ∷ w ∷ []) j k)
      ∙ ap (λ p. times (constant (absolute (volume (u ∷ w ∷ [])))) (unit_integral p)) (composed-times (affine (u ∷ w ∷ [])) _ _ ∙ ap₂ times (end_function j) (end_function k))
      ∙ ap (times (constant (absolute (volume (u ∷ w ∷ []))))) (unit_share j k)
      ∙ sym (constant-mul _ _)

  -- and its value
  pub mass_share_value : (j k : ℕ) → integral_value (u ∷ w ∷ []) (mass_density (u ∷ w ∷ []) j k) ≡ mul (absolute (volume (u ∷ w ∷ []))) (mass_factor j k)
  mass_share_value j k = ap (value (λ i. zero_fraction)) (mass_share j k) ∙ value-constant (λ i. zero_fraction) _
