-- The integral of a polynomial in the coordinates below the dimension has no variable left
use Rattle.std.proofs.Common.{◌≡◌, ℕ, zero, suc, ◌+◌, ◌*◌, ◌<◌, ◌≤◌, ◌⊎◌, inl, inr, Bool, true, false, [], ◌∷◌, length, refl, sym, ◌∙◌, ap, ap₂, arith}
use Rattle.algebra.specs.Ring.{natural, additive}
use Rattle.algebra.specs.RingLaws as L
use Rattle.algebra.specs.Solver.{at, ◌⊗◌}
use Rattle.algebra.specs.Sound as Solve
use Rattle.algebra.specs.Fraction.{Fraction, fractions, zero_fraction, one_fraction, add, mul, mul_one, inverse, mul_inverse, absolute, negative as minus_fraction}
use Rattle.calculus.specs.Free as F
use Rattle.calculus.specs.Product as P
use Rattle.calculus.specs.OverRing as G
use Rattle.calculus.specs.Powers as W
use Rattle.calculus.specs.Powers.{Powers, none, powers, variable}
use Rattle.calculus.specs.Point.{Point}
use Rattle.calculus.specs.Rational.{natural_apart}
use Rattle.calculus.specs.Polynomial.{Polynomial, nil, one, plus, times, constant, coordinate, composed, constant_term, power, whole, polynomials, times-one}
use Rattle.calculus.specs.Simplex.{Simplex, IsCell, dimension, volume, reference, affine, image, edges, along_axis, is_less}
use Rattle.calculus.specs.Integral.{shadow_integral, cell_integral, pulled_back_integral, integral_value, below, HasOnlyBelow}
use Rattle.calculus.specs.LocalFunction.{factorial}
use Rattle.calculus.proofs.PolynomialLaws.{constant-add, constant-mul, constant-one, constant-zero, composed-plus, composed-times, composed-constant, composed-coordinate, composed-one, composed-nil, composed-composed, composed-same, value-plus, value-times, value-constant}
use Rattle.calculus.proofs.Linear.{shadow_integral-plus, shadow_integral-scaled}
use Rattle.calculus.proofs.ReferenceIntegrals.{interval_powers, triangle_powers, tetrahedron_powers}
use Rattle.calculus.proofs.ChangeOfVariables.{cell_law}
use Rattle.calculus.proofs.Nodes.{factorial_positive}

abbrev X : Polynomial
X = coordinate 0

abbrev Y : Polynomial
Y = coordinate 1

abbrev Z : Polynomial
Z = coordinate 2

-- ---- polynomials that are their term without a variable
abbrev pub IsConstant : Polynomial → Type 0
IsConstant p = constant (constant_term p) ≡ p

constant_is : (p : Polynomial) (f : Fraction) → p ≡ constant f → IsConstant p
constant_is p f e = ap (λ q. constant (constant_term q)) e ∙ ap constant (value-constant (λ i. zero_fraction) f) ∙ sym e

constant_plus : (p q : Polynomial) → IsConstant p → IsConstant q → IsConstant (plus p q)
constant_plus p q h g =
    ap constant (value-plus (λ i. zero_fraction) p q) ∙ constant-add (constant_term p) (constant_term q) ∙ ap₂ plus h g

constant_times : (p q : Polynomial) → IsConstant p → IsConstant q → IsConstant (times p q)
constant_times p q h g =
    ap constant (value-times (λ i. zero_fraction) p q) ∙ constant-mul (constant_term p) (constant_term q) ∙ ap₂ times h g

constant_same : (p q : Polynomial) → p ≡ q → IsConstant q → IsConstant p
constant_same p q e h = ap (λ q. constant (constant_term q)) e ∙ h ∙ sym e

-- what is a whole number after it is multiplied by one
from_multiple : (n m : ℕ) (p : Polynomial) → 0 < n → times (whole n) p ≡ whole m → IsConstant p
from_multiple zero m p h e = absurd (omega arith)
from_multiple (suc n) m p h e =
    constant_is p (mul (inverse (natural fractions (suc n))) (natural fractions m))
    (back ∙ ap (times (constant (inverse (natural fractions (suc n))))) e ∙ sym (constant-mul (inverse (natural fractions (suc n))) (natural fractions m)))
  where
    unit : times (whole (suc n)) (constant (inverse (natural fractions (suc n)))) ≡ one
    unit =
        sym (constant-mul (natural fractions (suc n)) (inverse (natural fractions (suc n))))
        ∙ ap constant (mul_inverse (natural fractions (suc n)) (natural_apart n)) ∙ constant-one

    back : p ≡ times (constant (inverse (natural fractions (suc n)))) (times (whole (suc n)) p)
    back =
        sym (times-one p) ∙ ap (times p) (sym unit)
        ∙ Solve.ring polynomials (p ∷ whole (suc n) ∷ constant (inverse (natural fractions (suc n))) ∷ []) (at 0 ⊗ (at 1 ⊗ at 2)) (at 2 ⊗ (at 1 ⊗ at 0)) refl

-- ---- the reference cells
constant_nil : IsConstant nil
constant_nil = constant_is nil zero_fraction (sym constant-zero)

integral_nil : (d : ℕ) → shadow_integral d (reference d) nil ≡ nil
integral_nil d =
    ap (shadow_integral d (reference d)) (sym (none_of nil)) ∙ shadow_integral-scaled d zero_fraction (reference d) nil ∙ none_of (shadow_integral d (reference d) nil)
  where
    none_of : (p : Polynomial) → times (constant zero_fraction) p ≡ nil
    none_of p = ap (λ q. times q p) constant-zero ∙ L.zero-mul polynomials p

-- a product of powers of the coordinates below d
abbrev IsProduct : ℕ → Polynomial → Type 0
IsProduct zero p = ⊥
IsProduct (suc zero) p = (a : ℕ) × (p ≡ power X a)
IsProduct (suc (suc zero)) p = (a : ℕ) × (b : ℕ) × (p ≡ times (power X a) (power Y b))
IsProduct (suc (suc (suc zero))) p = (a : ℕ) × (b : ℕ) × (c : ℕ) × (p ≡ times (power X a) (times (power Y b) (power Z c)))
IsProduct (suc (suc (suc (suc d)))) p = ⊥

product_integral : (d : ℕ) (p : Polynomial) → IsProduct d p → IsConstant (shadow_integral d (reference d) p)
product_integral zero p h = absurd h
product_integral (suc zero) p h =
    constant_same _ _
    (ap (shadow_integral 1 (reference 1)) (h.1 ∙ sym (L.one-mul polynomials (power X h.0))))
    (from_multiple (factorial (0 + suc h.0)) (factorial 0 * factorial h.0) _ (factorial_positive (0 + suc h.0)) (interval_powers 0 h.0))
product_integral (suc (suc zero)) p h =
    constant_same _ _ (ap (shadow_integral 2 (reference 2)) h.2)
    (from_multiple (factorial (h.0 + suc (suc h.1))) (factorial h.0 * factorial h.1) _ (factorial_positive (h.0 + suc (suc h.1))) (triangle_powers h.0 h.1))
product_integral (suc (suc (suc zero))) p h =
    constant_same _ _ (ap (shadow_integral 3 (reference 3)) h.3)
    (from_multiple (factorial (h.0 + (h.1 + suc (suc (suc h.2))))) (factorial h.0 * (factorial h.1 * factorial h.2)) _
    (factorial_positive (h.0 + (h.1 + suc (suc (suc h.2))))) (tetrahedron_powers h.0 h.1 h.2))
product_integral (suc (suc (suc (suc d)))) p h = absurd h

-- one more variable: the product has its power one higher, or is 0
next_variable : (d i : ℕ) (p : Polynomial) → IsProduct d p → (times (below d i) p ≡ nil) ⊎ IsProduct d (times (below d i) p)
next_variable zero i p h = absurd h
next_variable (suc zero) zero p h = inr (suc h.0, ap (times X) h.1)
next_variable (suc zero) (suc i) p h = inl (L.zero-mul polynomials p)
next_variable (suc (suc zero)) zero p h =
    inr (suc h.0, h.1, ap (times X) h.2 ∙ Solve.ring polynomials (X ∷ power X h.0 ∷ power Y h.1 ∷ []) (at 0 ⊗ (at 1 ⊗ at 2)) ((at 0 ⊗ at 1) ⊗ at 2) refl)
next_variable (suc (suc zero)) (suc zero) p h =
    inr (h.0, suc h.1, ap (times Y) h.2 ∙ Solve.ring polynomials (Y ∷ power X h.0 ∷ power Y h.1 ∷ []) (at 0 ⊗ (at 1 ⊗ at 2)) (at 1 ⊗ (at 0 ⊗ at 2)) refl)
next_variable (suc (suc zero)) (suc (suc i)) p h = inl (L.zero-mul polynomials p)
next_variable (suc (suc (suc zero))) zero p h =
    inr (suc h.0, h.1, h.2, ap (times X) h.3 ∙ Solve.ring polynomials (X ∷ power X h.0 ∷ power Y h.1 ∷ power Z h.2 ∷ []) (at 0 ⊗ (at 1 ⊗ (at 2 ⊗ at 3))) ((at 0 ⊗ at 1) ⊗ (at 2 ⊗ at 3)) refl)
next_variable (suc (suc (suc zero))) (suc zero) p h =
    inr (h.0, suc h.1, h.2, ap (times Y) h.3 ∙ Solve.ring polynomials (Y ∷ power X h.0 ∷ power Y h.1 ∷ power Z h.2 ∷ []) (at 0 ⊗ (at 1 ⊗ (at 2 ⊗ at 3))) (at 1 ⊗ ((at 0 ⊗ at 2) ⊗ at 3)) refl)
next_variable (suc (suc (suc zero))) (suc (suc zero)) p h =
    inr (h.0, h.1, suc h.2, ap (times Z) h.3 ∙ Solve.ring polynomials (Z ∷ power X h.0 ∷ power Y h.1 ∷ power Z h.2 ∷ []) (at 0 ⊗ (at 1 ⊗ (at 2 ⊗ at 3))) (at 1 ⊗ (at 2 ⊗ (at 0 ⊗ at 3))) refl)
next_variable (suc (suc (suc zero))) (suc (suc (suc i))) p h = inl (L.zero-mul polynomials p)
next_variable (suc (suc (suc (suc d)))) i p h = absurd h

one_is : (d : ℕ) → 1 ≤ d → d ≤ 3 → IsProduct d one
one_is zero h g = absurd (omega arith)
one_is (suc zero) h g = (0, refl)
one_is (suc (suc zero)) h g = (0, 0, sym (times-one one))
one_is (suc (suc (suc zero))) h g = (0, 0, 0, sym (ap (times one) (times-one one) ∙ times-one one))
one_is (suc (suc (suc (suc d)))) h g = absurd (omega arith)

-- a term with coefficient 1, and 0 for the variables at and above d
abbrev unit_term : Powers → Polynomial
unit_term e = G.monomial fractions one_fraction e

term_product : (d : ℕ) → 1 ≤ d → d ≤ 3 → (e : Powers) → (composed (below d) (unit_term e) ≡ nil) ⊎ IsProduct d (composed (below d) (unit_term e))
term_product d h g =
    W.powers_ind (λ e. (composed (below d) (unit_term e) ≡ nil) ⊎ IsProduct d (composed (below d) (unit_term e)))
    (inr (moved d one (composed (below d) (unit_term none)) (sym (composed-one (below d)) ∙ ap (composed (below d)) first) (one_is d h g)))
    more
  where
    moved : (d : ℕ) (p q : Polynomial) → p ≡ q → IsProduct d p → IsProduct d q
    moved zero p q e h = absurd h
    moved (suc zero) p q e h = (h.0, sym e ∙ h.1)
    moved (suc (suc zero)) p q e h = (h.0, h.1, sym e ∙ h.2)
    moved (suc (suc (suc zero))) p q e h = (h.0, h.1, h.2, sym e ∙ h.3)
    moved (suc (suc (suc (suc d)))) p q e h = absurd h

    first : one ≡ unit_term none
    first = unfold one in refl

    split : (i : ℕ) (e : Powers) → unit_term (W.times (variable i) e) ≡ times (coordinate i) (unit_term e)
    split i e = sym (opened ∙ ap (λ c. G.monomial fractions c (W.times (variable i) e)) (mul_one one_fraction))
      where
        opened : times (coordinate i) (unit_term e) ≡ G.monomial fractions (mul one_fraction one_fraction) (W.times (variable i) e)
        opened = unfold times coordinate in P.term-mul-term fractions powers one_fraction (variable i) one_fraction e

    outer : (i : ℕ) (e : Powers) → composed (below d) (unit_term (W.times (variable i) e)) ≡ times (below d i) (composed (below d) (unit_term e))
    outer i e =
        ap (composed (below d)) (split i e) ∙ composed-times (below d) (coordinate i) (unit_term e)
        ∙ ap (λ x. times x (composed (below d) (unit_term e))) (composed-coordinate (below d) i)

    join : (i : ℕ) (e : Powers) → (times (below d i) (composed (below d) (unit_term e)) ≡ nil) ⊎ IsProduct d (times (below d i) (composed (below d) (unit_term e)))
        → (composed (below d) (unit_term (W.times (variable i) e)) ≡ nil) ⊎ IsProduct d (composed (below d) (unit_term (W.times (variable i) e)))
    join i e (inl z) = inl (outer i e ∙ z)
    join i e (inr s) = inr (moved d _ _ (sym (outer i e)) s)

    more : (i : ℕ) (e : Powers) → (composed (below d) (unit_term e) ≡ nil) ⊎ IsProduct d (composed (below d) (unit_term e))
        → (composed (below d) (unit_term (W.times (variable i) e)) ≡ nil) ⊎ IsProduct d (composed (below d) (unit_term (W.times (variable i) e)))
    more i e (inl z) = inl (outer i e ∙ ap (times (below d i)) z ∙ L.mul-zero polynomials (below d i))
    more i e (inr s) = join i e (next_variable d i _ s)

abbrev cut_integral : ℕ → Polynomial → Polynomial
cut_integral d p = shadow_integral d (reference d) (composed (below d) p)

cut-plus : (d : ℕ) (p q : Polynomial) → cut_integral d (plus p q) ≡ plus (cut_integral d p) (cut_integral d q)
cut-plus d p q = ap (shadow_integral d (reference d)) (composed-plus (below d) p q) ∙ shadow_integral-plus d (reference d) (composed (below d) p) (composed (below d) q)

cut_term : (d : ℕ) → 1 ≤ d → d ≤ 3 → (c : Fraction) (e : Powers) → IsConstant (cut_integral d (G.monomial fractions c e))
cut_term d h g c e =
    constant_same _ (times (constant c) (cut_integral d (unit_term e)))
    (ap (shadow_integral d (reference d)) (ap (composed (below d)) split ∙ composed-times (below d) (constant c) (unit_term e) ∙ ap (λ x. times x (composed (below d) (unit_term e))) (composed-constant (below d) c))
    ∙ shadow_integral-scaled d c (reference d) (composed (below d) (unit_term e)))
    (constant_times (constant c) (cut_integral d (unit_term e)) (constant_is (constant c) c refl) (go (term_product d h g e)))
  where
    split : G.monomial fractions c e ≡ times (constant c) (unit_term e)
    split = sym (opened ∙ ap (λ x. G.monomial fractions x e) (mul_one c))
      where
        opened : times (constant c) (unit_term e) ≡ G.monomial fractions (mul c one_fraction) e
        opened = unfold times constant in P.term-mul-term fractions powers c none one_fraction e

    go : (composed (below d) (unit_term e) ≡ nil) ⊎ IsProduct d (composed (below d) (unit_term e)) → IsConstant (cut_integral d (unit_term e))
    go (inl z) = constant_same _ nil (ap (shadow_integral d (reference d)) z ∙ integral_nil d) constant_nil
    go (inr s) = product_integral d (composed (below d) (unit_term e)) s

cut_constant : (d : ℕ) → 1 ≤ d → d ≤ 3 → (p : Polynomial) → IsConstant (cut_integral d p)
cut_constant d h g =
    F.sum_ind (additive fractions) powers.exponents (λ p. IsConstant (cut_integral d p)) (λ p. polynomials.is_set _ _)
    (constant_same _ nil (ap (cut_integral d) empty ∙ ap (shadow_integral d (reference d)) (composed-nil (below d)) ∙ integral_nil d) constant_nil)
    (λ c e s i. constant_same _ _ (ap (cut_integral d) (joined c e s) ∙ cut-plus d (G.monomial fractions c e) s) (constant_plus _ _ (cut_term d h g c e) i))
  where
    empty : F.nothing (additive fractions) powers.exponents ≡ nil
    empty = unfold nil in refl

    joined : (c : Fraction) (e : Powers) (s : Polynomial) → F.plus (additive fractions) powers.exponents (F.mono (additive fractions) powers.exponents c e) s ≡ plus (G.monomial fractions c e) s
    joined c e s = unfold plus in refl

-- ---- after the affine map there are only these coordinates
less_below : (k d : ℕ) → k < d → is_less k d ≡ true
less_below k zero h = absurd (omega arith)
less_below zero (suc d) h = refl
less_below (suc k) (suc d) h = less_below k d (omega arith)

edges_below : (d i k : ℕ) (u : Point Fraction) (vs : Simplex) → k + length vs ≤ d → composed (below d) (edges i u k vs) ≡ edges i u k vs
edges_below d i k u [] h = composed-nil (below d)
edges_below d i k u (v ∷ vs) h =
    let c : Fraction = add (along_axis i v) (minus_fraction (along_axis i u)) in
    composed-plus (below d) (times (coordinate k) (constant c)) (edges i u (suc k) vs)
    ∙ ap₂ plus
    (composed-times (below d) (coordinate k) (constant c)
    ∙ ap₂ times (composed-coordinate (below d) k ∙ ap (λ b. elim b as (λ _. Polynomial) [ true ↦ coordinate k | false ↦ nil ]) (less_below k d (omega arith))) (composed-constant (below d) c))
    (edges_below d i (suc k) u vs (omega arith))

dimension_is : (u : Point Fraction) (vs : Simplex) → dimension (u ∷ vs) ≡ length vs
dimension_is u [] = refl
dimension_is u (v ∷ vs) = ap suc (dimension_is v vs)

image_below : (v : Simplex) → IsCell v → (i : ℕ) → composed (below (dimension v)) (image v i) ≡ image v i
image_below [] h i = absurd h
image_below (u ∷ vs) h i =
    composed-plus (below (dimension (u ∷ vs))) (constant (along_axis i u)) (edges i u 0 vs)
    ∙ ap₂ plus (composed-constant (below (dimension (u ∷ vs))) (along_axis i u)) (edges_below (dimension (u ∷ vs)) i 0 u vs (omega (arith, dimension_is u vs)))

-- the map of a coordinate below the dimension, and 0 for the others
moved_below : (v : Simplex) → IsCell v → (i : ℕ) → composed (below (dimension v)) (composed (affine v) (below (dimension v) i)) ≡ composed (affine v) (below (dimension v) i)
unfolding affine
moved_below v h i = go (is_less i (dimension v)) refl
  where
    go : (b : Bool) → is_less i (dimension v) ≡ b
        → composed (below (dimension v)) (composed (affine v) (elim b as (λ _. Polynomial) [ true ↦ coordinate i | false ↦ nil ]))
        ≡ composed (affine v) (elim b as (λ _. Polynomial) [ true ↦ coordinate i | false ↦ nil ])
    go true e =
        let m : composed (affine v) (coordinate i) ≡ image v i =
        composed-coordinate (affine v) i ∙ ap (λ b. elim b as (λ _. Polynomial) [ true ↦ image v i | false ↦ coordinate i ]) e in
        ap (composed (below (dimension v))) m ∙ image_below v h i ∙ sym m
    go false e = ap (composed (below (dimension v))) (composed-nil (affine v)) ∙ composed-nil (below (dimension v)) ∙ sym (composed-nil (affine v))

after_map : (v : Simplex) → IsCell v → (p : Polynomial) → HasOnlyBelow (dimension v) p → composed (below (dimension v)) (composed (affine v) p) ≡ composed (affine v) p
after_map v h p o =
    ap (composed (below (dimension v))) map_is
    ∙ composed-composed (below (dimension v)) mapped p
    ∙ composed-same (λ i. composed (below (dimension v)) (mapped i)) mapped (moved_below v h) p
    ∙ sym map_is
  where
    mapped : ℕ → Polynomial
    mapped i = composed (affine v) (below (dimension v) i)

    map_is : composed (affine v) p ≡ composed mapped p
    map_is = ap (composed (affine v)) (sym o) ∙ composed-composed (affine v) (below (dimension v)) p

dimension_few : (v : Simplex) → IsCell v → (1 ≤ dimension v) × (dimension v ≤ 3)
dimension_few [] h = absurd h
dimension_few (a ∷ []) h = absurd h
dimension_few (a ∷ b ∷ []) h = (omega arith, omega arith)
dimension_few (a ∷ b ∷ c ∷ []) h = (omega arith, omega arith)
dimension_few (a ∷ b ∷ c ∷ e ∷ []) h = (omega arith, omega arith)
dimension_few (a ∷ b ∷ c ∷ e ∷ f ∷ vs) h = absurd h

pulled_constant : (v : Simplex) → IsCell v → (p : Polynomial) → HasOnlyBelow (dimension v) p → IsConstant (pulled_back_integral v p)
unfolding pulled_back_integral
pulled_constant v h p o =
    let few = dimension_few v h in
    constant_times (constant (absolute (volume v))) (shadow_integral (dimension v) (reference (dimension v)) (composed (affine v) p)) (constant_is _ (absolute (volume v)) refl)
    (constant_same _ _ (ap (shadow_integral (dimension v) (reference (dimension v))) (sym (after_map v h p o))) (cut_constant (dimension v) few.0 few.1 (composed (affine v) p)))

pub whole_integral : (v : Simplex) → IsCell v → (p : Polynomial) → HasOnlyBelow (dimension v) p → constant (integral_value v p) ≡ cell_integral v p
whole_integral v h p o = constant_same (cell_integral v p) (pulled_back_integral v p) (cell_law v h p) (pulled_constant v h p o)
