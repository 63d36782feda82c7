-- The integral of the square of the coordinate from 1 to 3 is 26/3
use Rattle.std.proofs.Common.{◌≡◌, ℕ, suc, Bool, true, false, ◌&&◌, nat_lt, if◌then◌else◌, [], ◌∷◌, pos, refl, sym, ap, ap₂, ◌∙◌, arith}
use Rattle.algebra.specs.Ring.{natural}
use Rattle.algebra.specs.Solver.{at, num, ◌⊕◌, ◌⊗◌, minus}
use Rattle.algebra.specs.Sound as Solve
use Rattle.algebra.specs.Fraction.{Fraction, fractions, zero_fraction, one_fraction, add, mul, inverse, mul_inverse, absolute, when, negative, is_zero_fraction, is_below_zero}
use Rattle.calculus.specs.Integral.{integral_value}
use Rattle.calculus.specs.LocalFunction.{local_function}
use Rattle.calculus.specs.Mass.{third, sixth, end_node, mass_density, mass_factor}
use Rattle.calculus.specs.Polynomial.{Polynomial, nil, plus, times, constant, coordinate, polynomials, value}
use Rattle.calculus.specs.Rational.{natural_apart}
use Rattle.calculus.specs.Simplex.{Simplex, volume, point_of}
use Rattle.calculus.proofs.Linear.{cell_integral-scaled}
use Rattle.calculus.proofs.MassShare.{mass_share}
use Rattle.calculus.proofs.PolynomialLaws.{constant-mul, value-constant}
use Rattle.refint.proofs.SharesLaw.{integral_nil, integral_plus}
use Rattle.refint.proofs.Vertices.{coordinate_is}
use Rattle.form_values.specs.FormValue.{cells_value, form_value}
use Rattle.form_values.proofs.Cells.{below}
use Rattle.form_values.specs.Worked.{square_problem, two_intervals}

abbrev three : Fraction
three = natural fractions 3

abbrev one : Fraction
one = natural fractions 1

abbrev second : Simplex
second = point_of (three ∷ []) ∷ point_of (one ∷ []) ∷ []

size : volume second ≡ fractions.neg (natural fractions 2)
unfolding volume add
size = Solve.ring fractions [] (num (pos 1) ⊕ minus (num (pos 3))) (minus (num (pos 2))) refl

is_negative : is_below_zero (fractions.neg (natural fractions 2)) ≡ true
unfolding is_below_zero negative add one_fraction zero_fraction
is_negative = refl

whole : is_zero_fraction (fractions.neg (natural fractions 2)) ≡ false
unfolding is_zero_fraction negative add one_fraction zero_fraction
whole = refl

flat : is_zero_fraction (volume second) ≡ false
flat = ap is_zero_fraction size ∙ whole

length_is : absolute (volume second) ≡ natural fractions 2
length_is =
    ap absolute size ∙ ap (λ t. when t (negative (fractions.neg (natural fractions 2))) (fractions.neg (natural fractions 2))) is_negative
    ∙ Solve.ring fractions [] (minus (minus (num (pos 2)))) (num (pos 2)) refl

-- ---- the square by the products of two linear functions
abbrev hat : ℕ → Polynomial
hat j = local_function second (end_node j)

coordinate_by_hats : coordinate 0 ≡ plus (plus nil (times (constant three) (hat 0))) (times (constant one) (hat 1))
coordinate_by_hats = sym (coordinate_is second tt flat 0 (omega arith))

abbrev product_of : Fraction → Fraction → ℕ → ℕ → Polynomial
product_of a b j k = times (constant (mul a b)) (mass_density second j k)

square_by_hats : times (coordinate 0) (coordinate 0) ≡ plus (plus (plus (product_of three three 0 0) (product_of three one 0 1)) (product_of three one 1 0)) (product_of one one 1 1)
square_by_hats =
    ap₂ times coordinate_by_hats coordinate_by_hats
    ∙ Solve.ring polynomials (constant three ∷ constant one ∷ hat 0 ∷ hat 1 ∷ [])
    ((num (pos 0) ⊕ at 0 ⊗ at 2 ⊕ at 1 ⊗ at 3) ⊗ (num (pos 0) ⊕ at 0 ⊗ at 2 ⊕ at 1 ⊗ at 3))
    (at 0 ⊗ at 0 ⊗ (at 2 ⊗ at 2) ⊕ at 0 ⊗ at 1 ⊗ (at 2 ⊗ at 3) ⊕ at 0 ⊗ at 1 ⊗ (at 3 ⊗ at 2) ⊕ at 1 ⊗ at 1 ⊗ (at 3 ⊗ at 3)) refl
    ∙ ap₂ plus
    (ap₂ plus (ap₂ plus (scaled three three 0 0) (scaled three one 0 1)) (scaled three one 1 0))
    (scaled one one 1 1)
  where
    scaled : (a b : Fraction) (j k : ℕ) → times (times (constant a) (constant b)) (mass_density second j k) ≡ product_of a b j k
    scaled a b j k = ap (λ c. times c (mass_density second j k)) (sym (constant-mul a b))

product_integral : (a b : Fraction) (j k : ℕ) → integral_value second (product_of a b j k) ≡ mul (mul a b) (mul (natural fractions 2) (mass_factor j k))
product_integral a b j k =
    ap (value (λ i. zero_fraction))
    (cell_integral-scaled second (mul a b) (mass_density second j k) ∙ ap (times (constant (mul a b))) (mass_share (point_of (three ∷ [])) (point_of (one ∷ [])) flat j k) ∙ sym (constant-mul (mul a b) _))
    ∙ value-constant (λ i. zero_fraction) _
    ∙ ap (λ x. mul (mul a b) (mul x (mass_factor j k))) length_is

-- ---- 26/3
sixth_twice : mul (natural fractions 6) sixth ≡ mul (natural fractions 3) third
sixth_twice = mul_inverse (natural fractions 6) (natural_apart 5) ∙ sym (mul_inverse (natural fractions 3) (natural_apart 2))

square_integral : integral_value second (times (coordinate 0) (coordinate 0)) ≡ mul (natural fractions 26) third
square_integral =
    ap (integral_value second) square_by_hats
    ∙ integral_plus second _ _
    ∙ ap₂ add
    (integral_plus second _ _ ∙ ap₂ add (integral_plus second _ _ ∙ ap₂ add (product_integral three three 0 0) (product_integral three one 0 1)) (product_integral three one 1 0))
    (product_integral one one 1 1)
    ∙ Solve.ring fractions (third ∷ sixth ∷ [])
    (num (pos 3) ⊗ num (pos 3) ⊗ (num (pos 2) ⊗ at 0) ⊕ num (pos 3) ⊗ num (pos 1) ⊗ (num (pos 2) ⊗ at 1) ⊕ num (pos 3) ⊗ num (pos 1) ⊗ (num (pos 2) ⊗ at 1) ⊕ num (pos 1) ⊗ num (pos 1) ⊗ (num (pos 2) ⊗ at 0))
    (num (pos 20) ⊗ at 0 ⊕ num (pos 2) ⊗ (num (pos 6) ⊗ at 1)) refl
    ∙ ap (λ x. add (mul (natural fractions 20) third) (mul (natural fractions 2) x)) sixth_twice
    ∙ Solve.ring fractions (third ∷ []) (num (pos 20) ⊗ at 0 ⊕ num (pos 2) ⊗ (num (pos 3) ⊗ at 0)) (num (pos 26) ⊗ at 0) refl

pub square_value : form_value square_problem 0 0 ≡ mul (natural fractions 26) (inverse (natural fractions 3))
unfolding form_value
square_value =
    ap₂ (λ x y. add x (add y zero_fraction)) (integral_nil (point_of (natural fractions 0 ∷ []) ∷ point_of (one ∷ []) ∷ [])) square_integral
    ∙ Solve.ring fractions (third ∷ []) (num (pos 0) ⊕ (num (pos 26) ⊗ at 0 ⊕ num (pos 0))) (num (pos 26) ⊗ at 0) refl

pub no_second_row : (row : ℕ) → form_value square_problem (suc row) 0 ≡ zero_fraction
unfolding form_value
no_second_row row = go (nat_lt (suc row) 1) refl
  where
    go : (t : Bool) → nat_lt (suc row) 1 ≡ t → (if t && nat_lt 0 1 then cells_value square_problem (suc row) 0 0 two_intervals.cells else zero_fraction) ≡ zero_fraction
    go true e = absurd (omega (arith, below (suc row) 1 e))
    go false e = refl
