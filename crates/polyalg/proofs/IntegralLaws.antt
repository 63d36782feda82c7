-- The steps of an integral over a reference cell, and what they give
use Rattle.std.proofs.Common.{◌≡◌, ℕ, zero, suc, ◌+◌, ◌*◌, ◌<◌, ◌≤◌, false, Option, Some, None, option_and_then, List, [], ◌∷◌, length, refl, sym, ap, ap₂, ◌∙◌, arith, lit≤}
use Rattle.algebra.specs.Ring.{natural}
use Rattle.algebra.specs.RingLaws as L
use Rattle.algebra.specs.IntegerMap.{natural-mul}
use Rattle.algebra.specs.Solver.{at, ◌⊗◌, unity}
use Rattle.algebra.specs.Sound as Solve
use Rattle.algebra.specs.Fraction.{Fraction, fractions, zero_fraction, one_fraction, add, add_zero, mul, mul_one, mul_comm, mul_assoc, inverse, mul_inverse, is_zero_fraction}
use Rattle.algebra.specs.Steps.{product, sum}
use Rattle.ratio.specs.Value.{fraction_of}
use Rattle.calculus.specs.Polynomial.{Polynomial, nil, one, plus, times, constant, coordinate, monomial, power, whole, polynomials, times-one, plus-nil, plus_assoc}
use Rattle.calculus.specs.Simplex.{reference}
use Rattle.calculus.specs.Integral.{shadow_integral}
use Rattle.calculus.specs.LocalFunction.{factorial}
use Rattle.calculus.specs.Rational.{natural_apart}
use Rattle.calculus.proofs.PolynomialLaws.{constant-one, constant-zero, constant-mul, constant-add}
use Rattle.calculus.proofs.Linear.{shadow_integral-plus, shadow_integral-scaled}
use Rattle.calculus.proofs.Nodes.{factorial_positive}
use Rattle.calculus.proofs.ReferenceIntegrals.{interval_powers, triangle_powers, tetrahedron_powers}
use Rattle.polyalg.specs.Exponents.{exponent}
use Rattle.polyalg.specs.Small.{over}
use Rattle.polyalg.specs.Terms.{term_value, value_of, AreTerms, IsPoly}
use Rattle.polyalg.specs.ReferenceIntegral.{raised, factor_of, integral_from, integral_steps, VariablesBelow, factorials_of, by_factorials}
use Rattle.polyalg.specs.declared.term.Term.{Term}
use Rattle.polyalg.proofs.MonomialLaws.{monomial-times, monomial-scaled, constant_monomial, coordinate_0, coordinate_1, coordinate_2}
use Rattle.polyalg.proofs.DerivedLaws.{by_three}
use Rattle.polyalg.proofs.StepLaws.{product_is, sum_is}

-- ---- the steps
raised_none : (below n : ℕ) (f : Fraction) → raised below n f ≡ None → raised below (suc n) f ≡ None
raised_none below n f h = ap (λ r. option_and_then (λ g. product g (over (suc n) (below + suc n))) r) h

pub raised_fails : (below n k : ℕ) (f : Fraction) → raised below n f ≡ None → raised below (k + n) f ≡ None
raised_fails below n zero f h = let e : 0 + n ≡ n = omega arith in ap (λ m. raised below m f) e ∙ h
raised_fails below n (suc k) f h =
    let e : suc k + n ≡ suc (k + n) = omega arith in
    ap (λ m. raised below m f) e ∙ raised_none below (k + n) f (raised_fails below n k f h)

pub raised_step : (below n : ℕ) (f g : Fraction) (r : Option Fraction) → raised below n f ≡ Some g → product g (over (suc n) (below + suc n)) ≡ r → raised below (suc n) f ≡ r
raised_step below n f g r h e = ap (λ r. option_and_then (λ g. product g (over (suc n) (below + suc n))) r) h ∙ e

-- ---- whole numbers as fractions
abbrev W : ℕ → Fraction
W n = natural fractions n

W_one : W 1 ≡ one_fraction
W_one = add_zero one_fraction

not_nought : (n : ℕ) → 0 < n → is_zero_fraction (W n) ≡ false
not_nought zero h = absurd (omega arith)
not_nought (suc n) h = natural_apart n

over_cancel : (m k : ℕ) → 0 < k → mul (over m k) (W k) ≡ W m
over_cancel m k h =
    mul_assoc (W m) (inverse (W k)) (W k) ∙ ap (mul (W m)) (mul_comm (inverse (W k)) (W k) ∙ mul_inverse (W k) (not_nought k h)) ∙ mul_one (W m)

-- ---- the factor: f times (below + n)! is the start times n! below!
raised_value : (below n : ℕ) (f g : Fraction) → raised below n f ≡ Some g → mul g (W (factorial (below + n))) ≡ mul (mul f (W (factorial n))) (W (factorial below))
raised_value below zero f g e =
    let same : f ≡ g = cc in
    let none : below + 0 ≡ below = omega arith in
    ap₂ (λ x k. mul x (W (factorial k))) (sym same) none
    ∙ ap (λ x. mul x (W (factorial below))) (sym (ap (mul f) W_one ∙ mul_one f))
raised_value below (suc n) f g e = go (raised below n f) refl e (λ h k. raised_value below n f h k) where
  step : (h : Fraction) → mul h (W (factorial (below + n))) ≡ mul (mul f (W (factorial n))) (W (factorial below)) → g ≡ mul h (over (suc n) (below + suc n))
      → mul g (W (factorial (below + suc n))) ≡ mul (mul f (W (factorial (suc n)))) (W (factorial below))
  step h ih is =
      let m : below + suc n ≡ suc (below + n) = omega arith in
      let positive : 0 < below + suc n = omega arith in
      let counted : W (factorial (below + suc n)) ≡ mul (W (below + suc n)) (W (factorial (below + n))) =
      ap (λ k. W (factorial k)) m ∙ natural-mul fractions (suc (below + n)) (factorial (below + n)) ∙ ap (λ k. mul (W k) (W (factorial (below + n)))) (sym m) in
      ap₂ mul is counted
      ∙ Solve.ring fractions (h ∷ over (suc n) (below + suc n) ∷ W (below + suc n) ∷ W (factorial (below + n)) ∷ [])
      ((at 0 ⊗ at 1) ⊗ (at 2 ⊗ at 3)) ((at 1 ⊗ at 2) ⊗ (at 0 ⊗ at 3)) refl
      ∙ ap₂ mul (over_cancel (suc n) (below + suc n) positive) ih
      ∙ Solve.ring fractions (W (suc n) ∷ f ∷ W (factorial n) ∷ W (factorial below) ∷ [])
      (at 0 ⊗ ((at 1 ⊗ at 2) ⊗ at 3)) ((at 1 ⊗ (at 0 ⊗ at 2)) ⊗ at 3) refl
      ∙ ap (λ x. mul (mul f x) (W (factorial below))) (sym (natural-mul fractions (suc n) (factorial n)))

  go : (r : Option Fraction) → raised below n f ≡ r → option_and_then (λ h. product h (over (suc n) (below + suc n))) r ≡ Some g
      → ((h : Fraction) → raised below n f ≡ Some h → mul h (W (factorial (below + n))) ≡ mul (mul f (W (factorial n))) (W (factorial below)))
      → mul g (W (factorial (below + suc n))) ≡ mul (mul f (W (factorial (suc n)))) (W (factorial below))
  go None k e ih = cc
  go (Some h) k e ih = step h (ih h k) (product_is h (over (suc n) (below + suc n)) g e)

-- f times the factorial of the degree and d together is the product of the factorials of the exponents
factor_value : (d a b c : ℕ) (f : Fraction) → 0 < factorial d → factor_of d (a ∷ b ∷ c ∷ []) ≡ Some f
    → mul f (W (factorial (d + a + b + c))) ≡ mul (W (factorial a)) (mul (W (factorial b)) (W (factorial c)))
factor_value d a b c f h e = first (raised d a (over 1 (factorial d))) refl e where
  all : (f1 f2 : Fraction) → raised d a (over 1 (factorial d)) ≡ Some f1 → raised (d + a) b f1 ≡ Some f2 → raised (d + a + b) c f2 ≡ Some f
      → mul f (W (factorial (d + a + b + c))) ≡ mul (W (factorial a)) (mul (W (factorial b)) (W (factorial c)))
  all f1 f2 e1 e2 e3 =
      raised_value (d + a + b) c f2 f e3
      ∙ Solve.ring fractions (f2 ∷ W (factorial c) ∷ W (factorial (d + a + b)) ∷ []) ((at 0 ⊗ at 1) ⊗ at 2) ((at 0 ⊗ at 2) ⊗ at 1) refl
      ∙ ap (λ x. mul x (W (factorial c))) (raised_value (d + a) b f1 f2 e2)
      ∙ Solve.ring fractions (f1 ∷ W (factorial b) ∷ W (factorial (d + a)) ∷ W (factorial c) ∷ []) (((at 0 ⊗ at 1) ⊗ at 2) ⊗ at 3) ((at 0 ⊗ at 2) ⊗ (at 1 ⊗ at 3)) refl
      ∙ ap (λ x. mul x (mul (W (factorial b)) (W (factorial c)))) (raised_value d a (over 1 (factorial d)) f1 e1)
      ∙ Solve.ring fractions (over 1 (factorial d) ∷ W (factorial a) ∷ W (factorial d) ∷ mul (W (factorial b)) (W (factorial c)) ∷ []) (((at 0 ⊗ at 1) ⊗ at 2) ⊗ at 3) ((at 0 ⊗ at 2) ⊗ (at 1 ⊗ at 3)) refl
      ∙ ap (λ x. mul x (mul (W (factorial a)) (mul (W (factorial b)) (W (factorial c))))) (over_cancel 1 (factorial d) h ∙ W_one)
      ∙ mul_comm one_fraction _ ∙ mul_one _

  second : (f1 : Fraction) → raised d a (over 1 (factorial d)) ≡ Some f1 → (r : Option Fraction) → raised (d + a) b f1 ≡ r
      → option_and_then (raised (d + a + b) c) r ≡ Some f
      → mul f (W (factorial (d + a + b + c))) ≡ mul (W (factorial a)) (mul (W (factorial b)) (W (factorial c)))
  second f1 e1 None k e = cc
  second f1 e1 (Some f2) k e = all f1 f2 e1 k e

  first : (r : Option Fraction) → raised d a (over 1 (factorial d)) ≡ r → option_and_then (raised (d + a + b) c) (option_and_then (raised (d + a) b) r) ≡ Some f
      → mul f (W (factorial (d + a + b + c))) ≡ mul (W (factorial a)) (mul (W (factorial b)) (W (factorial c)))
  first None k e = cc
  first (Some f1) k e = second f1 k (raised (d + a) b f1) refl e

-- ---- terms as products of powers
nothing_more : (i : ℕ) → exponent [] i ≡ exponent [] i + exponent [] i
nothing_more i = omega arith

unit_power : (p : Polynomial) (u : List ℕ) (v : ℕ → List ℕ) → monomial one_fraction u ≡ p → monomial one_fraction (v 0) ≡ one
    → ((n i : ℕ) → exponent (v (suc n)) i ≡ exponent u i + exponent (v n) i) → (n : ℕ) → power p n ≡ monomial one_fraction (v n)
unit_power p u v e z s zero = sym z
unit_power p u v e z s (suc n) =
    ap₂ times (sym e) (unit_power p u v e z s n) ∙ monomial-times one_fraction one_fraction u (v n) (v (suc n)) (s n) ∙ ap (λ c. monomial c (v (suc n))) (mul_one one_fraction)

no_power : monomial one_fraction (0 ∷ 0 ∷ 0 ∷ []) ≡ one
no_power = constant_monomial one_fraction ∙ constant-one

power_X : (n : ℕ) → power (coordinate 0) n ≡ monomial one_fraction (n ∷ 0 ∷ 0 ∷ [])
power_X = unit_power (coordinate 0) (1 ∷ 0 ∷ 0 ∷ []) (λ n. n ∷ 0 ∷ 0 ∷ []) coordinate_0 no_power more where
  more : (n i : ℕ) → exponent (suc n ∷ 0 ∷ 0 ∷ []) i ≡ exponent (1 ∷ 0 ∷ 0 ∷ []) i + exponent (n ∷ 0 ∷ 0 ∷ []) i
  more n zero = omega arith
  more n (suc zero) = omega arith
  more n (suc (suc zero)) = omega arith
  more n (suc (suc (suc i))) = nothing_more i

power_Y : (n : ℕ) → power (coordinate 1) n ≡ monomial one_fraction (0 ∷ n ∷ 0 ∷ [])
power_Y = unit_power (coordinate 1) (0 ∷ 1 ∷ 0 ∷ []) (λ n. 0 ∷ n ∷ 0 ∷ []) coordinate_1 no_power more where
  more : (n i : ℕ) → exponent (0 ∷ suc n ∷ 0 ∷ []) i ≡ exponent (0 ∷ 1 ∷ 0 ∷ []) i + exponent (0 ∷ n ∷ 0 ∷ []) i
  more n zero = omega arith
  more n (suc zero) = omega arith
  more n (suc (suc zero)) = omega arith
  more n (suc (suc (suc i))) = nothing_more i

power_Z : (n : ℕ) → power (coordinate 2) n ≡ monomial one_fraction (0 ∷ 0 ∷ n ∷ [])
power_Z = unit_power (coordinate 2) (0 ∷ 0 ∷ 1 ∷ []) (λ n. 0 ∷ 0 ∷ n ∷ []) coordinate_2 no_power more where
  more : (n i : ℕ) → exponent (0 ∷ 0 ∷ suc n ∷ []) i ≡ exponent (0 ∷ 0 ∷ 1 ∷ []) i + exponent (0 ∷ 0 ∷ n ∷ []) i
  more n zero = omega arith
  more n (suc zero) = omega arith
  more n (suc (suc zero)) = omega arith
  more n (suc (suc (suc i))) = nothing_more i

product_of_powers : (a b c : ℕ) → times (power (coordinate 0) a) (times (power (coordinate 1) b) (power (coordinate 2) c)) ≡ monomial one_fraction (a ∷ b ∷ c ∷ [])
product_of_powers a b c =
    ap₂ times (power_X a) (ap₂ times (power_Y b) (power_Z c) ∙ monomial-times one_fraction one_fraction (0 ∷ b ∷ 0 ∷ []) (0 ∷ 0 ∷ c ∷ []) (0 ∷ b ∷ c ∷ []) inner ∙ ap (λ k. monomial k (0 ∷ b ∷ c ∷ [])) (mul_one one_fraction))
    ∙ monomial-times one_fraction one_fraction (a ∷ 0 ∷ 0 ∷ []) (0 ∷ b ∷ c ∷ []) (a ∷ b ∷ c ∷ []) outer
    ∙ ap (λ k. monomial k (a ∷ b ∷ c ∷ [])) (mul_one one_fraction)
  where
    inner : (i : ℕ) → exponent (0 ∷ b ∷ c ∷ []) i ≡ exponent (0 ∷ b ∷ 0 ∷ []) i + exponent (0 ∷ 0 ∷ c ∷ []) i
    inner zero = omega arith
    inner (suc zero) = omega arith
    inner (suc (suc zero)) = omega arith
    inner (suc (suc (suc i))) = nothing_more i

    outer : (i : ℕ) → exponent (a ∷ b ∷ c ∷ []) i ≡ exponent (a ∷ 0 ∷ 0 ∷ []) i + exponent (0 ∷ b ∷ c ∷ []) i
    outer zero = omega arith
    outer (suc zero) = omega arith
    outer (suc (suc zero)) = omega arith
    outer (suc (suc (suc i))) = nothing_more i

-- ---- the integral of a term
cancelled : (m : ℕ) (p q : Polynomial) → 0 < m → times (whole m) p ≡ times (whole m) q → p ≡ q
cancelled m p q h e = back p ∙ ap (times (constant (inverse (W m)))) e ∙ sym (back q)
  where
    back : (p : Polynomial) → p ≡ times (constant (inverse (W m))) (times (whole m) p)
    back p =
        sym (times-one p)
        ∙ ap (times p) (sym constant-one ∙ ap constant (sym (mul_inverse (W m) (not_nought m h))) ∙ constant-mul (W m) (inverse (W m)))
        ∙ Solve.ring polynomials (p ∷ whole m ∷ constant (inverse (W m)) ∷ []) (at 0 ⊗ (at 1 ⊗ at 2)) (at 2 ⊗ (at 1 ⊗ at 0)) refl

integral_is : (I : Polynomial) (f : Fraction) (n m : ℕ) (w : Fraction) → times (whole (factorial n)) I ≡ whole m → mul f (W (factorial n)) ≡ w → w ≡ W m → I ≡ constant f
integral_is I f n m w e h k =
    cancelled (factorial n) I (constant f) (factorial_positive n)
    (e ∙ ap constant (sym k ∙ sym h ∙ mul_comm f (W (factorial n))) ∙ constant-mul (W (factorial n)) f)

three_products : (a b c : ℕ) → mul (W a) (mul (W b) (W c)) ≡ W (a * (b * c))
three_products a b c = ap (mul (W a)) (sym (natural-mul fractions b c)) ∙ sym (natural-mul fractions a (b * c))

term_on_line : (a : ℕ) (f : Fraction) → factor_of 1 (a ∷ 0 ∷ 0 ∷ []) ≡ Some f → shadow_integral 1 (reference 1) (times (power (coordinate 0) a) (times (power (coordinate 1) 0) (power (coordinate 2) 0))) ≡ constant f
term_on_line a f e =
    ap (shadow_integral 1 (reference 1)) (Solve.ring polynomials (power (coordinate 0) a ∷ []) (at 0 ⊗ (unity ⊗ unity)) (unity ⊗ at 0) refl)
    ∙ integral_is _ f (0 + suc a) (factorial 0 * factorial a) (mul (W (factorial a)) (mul (W (factorial 0)) (W (factorial 0)))) (interval_powers 0 a)
    (let n : 0 + suc a ≡ 1 + a + 0 + 0 = omega arith in ap (λ k. mul f (W (factorial k))) n ∙ factor_value 1 a 0 0 f (omega arith) e)
    (three_products (factorial a) (factorial 0) (factorial 0) ∙ ap W (one_more (factorial a)))
  where
    one_more : (n : ℕ) → n * (1 * 1) ≡ 1 * n
    one_more n = omega arith

term_on_plane : (a b : ℕ) (f : Fraction) → factor_of 2 (a ∷ b ∷ 0 ∷ []) ≡ Some f → shadow_integral 2 (reference 2) (times (power (coordinate 0) a) (times (power (coordinate 1) b) (power (coordinate 2) 0))) ≡ constant f
term_on_plane a b f e =
    ap (shadow_integral 2 (reference 2)) (Solve.ring polynomials (power (coordinate 0) a ∷ power (coordinate 1) b ∷ []) (at 0 ⊗ (at 1 ⊗ unity)) (at 0 ⊗ at 1) refl)
    ∙ integral_is _ f (a + suc (suc b)) (factorial a * factorial b) (mul (W (factorial a)) (mul (W (factorial b)) (W (factorial 0)))) (triangle_powers a b)
    (let n : a + suc (suc b) ≡ 2 + a + b + 0 = omega arith in ap (λ k. mul f (W (factorial k))) n ∙ factor_value 2 a b 0 f (omega arith) e)
    (three_products (factorial a) (factorial b) (factorial 0) ∙ ap (λ n. W (factorial a * n)) (one_less (factorial b)))
  where
    one_less : (n : ℕ) → n * 1 ≡ n
    one_less n = omega arith

term_in_space : (a b c : ℕ) (f : Fraction) → factor_of 3 (a ∷ b ∷ c ∷ []) ≡ Some f → shadow_integral 3 (reference 3) (times (power (coordinate 0) a) (times (power (coordinate 1) b) (power (coordinate 2) c))) ≡ constant f
term_in_space a b c f e =
    integral_is _ f (a + (b + suc (suc (suc c)))) (factorial a * (factorial b * factorial c)) (mul (W (factorial a)) (mul (W (factorial b)) (W (factorial c)))) (tetrahedron_powers a b c)
    (let n : a + (b + suc (suc (suc c))) ≡ 3 + a + b + c = omega arith in ap (λ k. mul f (W (factorial k))) n ∙ factor_value 3 a b c f (omega arith) e)
    (three_products (factorial a) (factorial b) (factorial c))

term_integral : (d : ℕ) → 1 ≤ d → d ≤ 3 → (a b c : ℕ) (f : Fraction) → ((i : ℕ) → d ≤ i → exponent (a ∷ b ∷ c ∷ []) i ≡ 0) → factor_of d (a ∷ b ∷ c ∷ []) ≡ Some f
    → shadow_integral d (reference d) (monomial one_fraction (a ∷ b ∷ c ∷ [])) ≡ constant f
term_integral zero h g a b c f n e = absurd (omega arith)
term_integral (suc zero) h g a b c f n e =
    let y : b ≡ 0 = n 1 (lit≤ tt) in
    let z : c ≡ 0 = n 2 (lit≤ tt) in
    ap (shadow_integral 1 (reference 1)) (ap₂ (λ j k. monomial one_fraction (a ∷ j ∷ k ∷ [])) y z ∙ sym (product_of_powers a 0 0))
    ∙ term_on_line a f (ap₂ (λ j k. factor_of 1 (a ∷ j ∷ k ∷ [])) (sym y) (sym z) ∙ e)
term_integral (suc (suc zero)) h g a b c f n e =
    let z : c ≡ 0 = n 2 (lit≤ tt) in
    ap (shadow_integral 2 (reference 2)) (ap (λ k. monomial one_fraction (a ∷ b ∷ k ∷ [])) z ∙ sym (product_of_powers a b 0))
    ∙ term_on_plane a b f (ap (λ k. factor_of 2 (a ∷ b ∷ k ∷ [])) (sym z) ∙ e)
term_integral (suc (suc (suc zero))) h g a b c f n e =
    ap (shadow_integral 3 (reference 3)) (sym (product_of_powers a b c)) ∙ term_in_space a b c f e
term_integral (suc (suc (suc (suc d)))) h g a b c f n e = absurd (omega arith)

scaled_integral : (d : ℕ) → 1 ≤ d → d ≤ 3 → (c f : Fraction) (e : List ℕ) → length e ≡ 3 → ((i : ℕ) → d ≤ i → exponent e i ≡ 0) → factor_of d e ≡ Some f
    → shadow_integral d (reference d) (monomial c e) ≡ constant (mul c f)
scaled_integral d h g c f e three =
    by_three (λ e. ((i : ℕ) → d ≤ i → exponent e i ≡ 0) → factor_of d e ≡ Some f → shadow_integral d (reference d) (monomial c e) ≡ constant (mul c f)) at_three e three
  where
    at_three : (x y z : ℕ) → ((i : ℕ) → d ≤ i → exponent (x ∷ y ∷ z ∷ []) i ≡ 0) → factor_of d (x ∷ y ∷ z ∷ []) ≡ Some f
        → shadow_integral d (reference d) (monomial c (x ∷ y ∷ z ∷ [])) ≡ constant (mul c f)
    at_three x y z n k =
        ap (shadow_integral d (reference d)) (ap (λ b. monomial b (x ∷ y ∷ z ∷ [])) (sym (mul_one c)) ∙ sym (monomial-scaled c one_fraction (x ∷ y ∷ z ∷ [])))
        ∙ shadow_integral-scaled d c (reference d) (monomial one_fraction (x ∷ y ∷ z ∷ []))
        ∙ ap (times (constant c)) (term_integral d h g x y z f n k)
        ∙ sym (constant-mul c f)

-- ---- the sum over the terms
integral-nil : (d : ℕ) → shadow_integral d (reference d) nil ≡ nil
integral-nil d =
    ap (shadow_integral d (reference d)) (sym (none nil)) ∙ shadow_integral-scaled d zero_fraction (reference d) nil ∙ none (shadow_integral d (reference d) nil)
  where
    none : (p : Polynomial) → times (constant zero_fraction) p ≡ nil
    none p = ap (λ q. times q p) constant-zero ∙ L.zero-mul polynomials p

pub integral_value : (d : ℕ) → 1 ≤ d → d ≤ 3 → (ts : List Term) (so_far r : Fraction) → AreTerms ts → VariablesBelow d ts → integral_from d so_far ts ≡ Some r
    → constant r ≡ plus (constant so_far) (shadow_integral d (reference d) (value_of ts))
integral_value d h g [] so_far r a v e =
    let same : r ≡ so_far = cc in
    ap constant same ∙ sym (plus-nil (constant so_far)) ∙ ap (plus (constant so_far)) (sym (integral-nil d))
integral_value d h g (t ∷ ts) so_far r a v e = factor_case (factor_of d t.e) refl e (λ s k. integral_value d h g ts s r a.1 v.1 k) where
  all : (f x s : Fraction) → factor_of d t.e ≡ Some f → x ≡ mul (fraction_of t.c) f → s ≡ add so_far x → constant r ≡ plus (constant s) (shadow_integral d (reference d) (value_of ts))
      → constant r ≡ plus (constant so_far) (shadow_integral d (reference d) (value_of (t ∷ ts)))
  all f x s ef ex es ih =
      ih
      ∙ ap (λ p. plus p (shadow_integral d (reference d) (value_of ts)))
      (ap constant es ∙ constant-add so_far x ∙ ap (plus (constant so_far)) (ap constant ex ∙ sym (scaled_integral d h g (fraction_of t.c) f t.e a.0.three v.0 ef)))
      ∙ plus_assoc (constant so_far) (shadow_integral d (reference d) (term_value t)) (shadow_integral d (reference d) (value_of ts))
      ∙ ap (plus (constant so_far)) (sym (shadow_integral-plus d (reference d) (term_value t) (value_of ts)))

  sum_case : (f x : Fraction) → factor_of d t.e ≡ Some f → x ≡ mul (fraction_of t.c) f → (q : Option Fraction) → sum so_far x ≡ q
      → option_and_then (λ s. integral_from d s ts) q ≡ Some r → ((s : Fraction) → integral_from d s ts ≡ Some r → constant r ≡ plus (constant s) (shadow_integral d (reference d) (value_of ts))) → constant r ≡ plus (constant so_far) (shadow_integral d (reference d) (value_of (t ∷ ts)))
  sum_case f x ef ex None k e ih = cc
  sum_case f x ef ex (Some s) k e ih = all f x s ef ex (sum_is so_far x s k) (ih s e)

  product_case : (f : Fraction) → factor_of d t.e ≡ Some f → (q : Option Fraction) → product (fraction_of t.c) f ≡ q
      → option_and_then (λ x. option_and_then (λ s. integral_from d s ts) (sum so_far x)) q ≡ Some r → ((s : Fraction) → integral_from d s ts ≡ Some r → constant r ≡ plus (constant s) (shadow_integral d (reference d) (value_of ts))) → constant r ≡ plus (constant so_far) (shadow_integral d (reference d) (value_of (t ∷ ts)))
  product_case f ef None k e ih = cc
  product_case f ef (Some x) k e ih = sum_case f x ef (product_is (fraction_of t.c) f x k) (sum so_far x) refl e ih

  factor_case : (q : Option Fraction) → factor_of d t.e ≡ q
      → option_and_then (λ f. option_and_then (λ x. option_and_then (λ s. integral_from d s ts) (sum so_far x)) (product (fraction_of t.c) f)) q ≡ Some r
      → ((s : Fraction) → integral_from d s ts ≡ Some r → constant r ≡ plus (constant s) (shadow_integral d (reference d) (value_of ts)))
      → constant r ≡ plus (constant so_far) (shadow_integral d (reference d) (value_of (t ∷ ts)))
  factor_case None k e ih = cc
  factor_case (Some f) k e ih = product_case f k (product (fraction_of t.c) f) refl e ih

pub integral_done : (d : ℕ) → 1 ≤ d → d ≤ 3 → (ps items left : List Term) (r : Fraction) → items ≡ ps → left ≡ [] → IsPoly ps → VariablesBelow d ps
    → integral_from d r left ≡ integral_steps d items → constant r ≡ shadow_integral d (reference d) (value_of ps)
integral_done d h g ps items left r same none p v e =
    integral_value d h g ps zero_fraction r p.terms v (ap (integral_steps d) (sym same) ∙ sym e ∙ ap (integral_from d r) none)
    ∙ ap (λ q. plus q (shadow_integral d (reference d) (value_of ps))) constant-zero
    ∙ L.zero-add polynomials (shadow_integral d (reference d) (value_of ps))

-- ---- the sum by factorials
quotient_is : (f g : Fraction) (m n : ℕ) → 0 < n → mul f (W n) ≡ g → g ≡ W m → f ≡ over m n
quotient_is f g m n h e k =
    sym (mul_one f) ∙ ap (mul f) (sym (mul_inverse (W n) (not_nought n h))) ∙ sym (mul_assoc f (W n) (inverse (W n))) ∙ ap (λ x. mul x (inverse (W n))) (e ∙ k)

factor_formula : (d : ℕ) → 1 ≤ d → (f : Fraction) (e : List ℕ) → length e ≡ 3 → factor_of d e ≡ Some f → f ≡ factorials_of d e
factor_formula d h f e three =
    by_three (λ e. factor_of d e ≡ Some f → f ≡ factorials_of d e)
    (λ x y z k. quotient_is f _ _ (factorial (d + x + y + z)) (factorial_positive (d + x + y + z)) (factor_value d x y z f (factorial_positive d) k) (three_products (factorial x) (factorial y) (factorial z)))
    e three

pub integral_formula : (d : ℕ) → 1 ≤ d → (ts : List Term) (so_far r : Fraction) → AreTerms ts → integral_from d so_far ts ≡ Some r → r ≡ add so_far (by_factorials d ts)
integral_formula d h [] so_far r a e =
    let same : r ≡ so_far = cc in
    same ∙ sym (add_zero so_far)
integral_formula d h (t ∷ ts) so_far r a e = factor_case (factor_of d t.e) refl e (λ s k. integral_formula d h ts s r a.1 k) where
  all : (f x s : Fraction) → factor_of d t.e ≡ Some f → x ≡ mul (fraction_of t.c) f → s ≡ add so_far x → r ≡ add s (by_factorials d ts) → r ≡ add so_far (by_factorials d (t ∷ ts))
  all f x s ef ex es ih =
      ih ∙ ap (λ y. add y (by_factorials d ts)) (es ∙ ap (add so_far) (ex ∙ ap (mul (fraction_of t.c)) (factor_formula d h f t.e a.0.three ef)))
      ∙ fractions.add_assoc so_far (mul (fraction_of t.c) (factorials_of d t.e)) (by_factorials d ts)

  sum_case : (f x : Fraction) → factor_of d t.e ≡ Some f → x ≡ mul (fraction_of t.c) f → (q : Option Fraction) → sum so_far x ≡ q
      → option_and_then (λ s. integral_from d s ts) q ≡ Some r → ((s : Fraction) → integral_from d s ts ≡ Some r → r ≡ add s (by_factorials d ts)) → r ≡ add so_far (by_factorials d (t ∷ ts))
  sum_case f x ef ex None k e ih = cc
  sum_case f x ef ex (Some s) k e ih = all f x s ef ex (sum_is so_far x s k) (ih s e)

  product_case : (f : Fraction) → factor_of d t.e ≡ Some f → (q : Option Fraction) → product (fraction_of t.c) f ≡ q
      → option_and_then (λ x. option_and_then (λ s. integral_from d s ts) (sum so_far x)) q ≡ Some r → ((s : Fraction) → integral_from d s ts ≡ Some r → r ≡ add s (by_factorials d ts)) → r ≡ add so_far (by_factorials d (t ∷ ts))
  product_case f ef None k e ih = cc
  product_case f ef (Some x) k e ih = sum_case f x ef (product_is (fraction_of t.c) f x k) (sum so_far x) refl e ih

  factor_case : (q : Option Fraction) → factor_of d t.e ≡ q
      → option_and_then (λ f. option_and_then (λ x. option_and_then (λ s. integral_from d s ts) (sum so_far x)) (product (fraction_of t.c) f)) q ≡ Some r
      → ((s : Fraction) → integral_from d s ts ≡ Some r → r ≡ add s (by_factorials d ts)) → r ≡ add so_far (by_factorials d (t ∷ ts))
  factor_case None k e ih = cc
  factor_case (Some f) k e ih = product_case f k (product (fraction_of t.c) f) refl e ih

pub formula_done : (d : ℕ) → 1 ≤ d → (ps items left : List Term) (r : Fraction) → items ≡ ps → left ≡ [] → IsPoly ps
    → integral_from d r left ≡ integral_steps d items → r ≡ by_factorials d ps
formula_done d h ps items left r same none p e =
    integral_formula d h ps zero_fraction r p.terms (ap (integral_steps d) (sym same) ∙ sym e ∙ ap (integral_from d r) none) ∙ L.zero-add fractions (by_factorials d ps)
