-- The shadow integral and the affine map in each dimension are those that the laws are proved for
use Rattle.std.proofs.Common.{◌≡◌, ℕ, zero, suc, Bool, true, false, refl, ◌∙◌, ap, ap₂, [], ◌∷◌, pos}
use Rattle.algebra.specs.Solver.{at, num, ◌⊕◌, ◌⊖◌, minus as opposite}
use Rattle.algebra.specs.Sound as Solve
use Rattle.algebra.specs.Fraction.{Fraction, fractions, one_fraction, is_zero_fraction}
use Rattle.calculus.specs.Point.{Point}
use Rattle.calculus.specs.Rational.{rationals}
use Rattle.calculus.specs.Polynomial.{Polynomial, nil, plus, times, negative, minus, constant, coordinate, antiderivative, composed, instead, replaced, polynomials, plus-nil}
use Rattle.calculus.specs.Simplex.{Simplex, volume, barycentric}
use Rattle.calculus.specs.Integral.{shadow_point, height, lowered, over_shadow, shadow_integral}
use Rattle.calculus.proofs.WrittenOut as W
use Rattle.calculus.proofs.PolynomialLaws.{composed-same}

-- nothing where b, else p
abbrev chosen : Bool → Polynomial → Polynomial
chosen b p = elim b [ true ↦ nil | false ↦ p ]

-- ---- intervals
abbrev over_point : Point Fraction → Polynomial → Polynomial
over_point w q = over_shadow (λ v p. shadow_integral 0 v p) 0 0 (w ∷ []) q

at_point : (w : Point Fraction) (q : Polynomial) → over_point w q ≡ composed (instead 0 (constant w.x)) q
unfolding shadow_integral volume is_zero_fraction one_fraction
at_point w q = composed-same (lowered 0 0 (constant w.x)) (instead 0 (constant w.x)) each q
  where
    each : (j : ℕ) → lowered 0 0 (constant w.x) j ≡ instead 0 (constant w.x) j
    each zero = unfold instead in refl
    each (suc j) = unfold instead coordinate in refl

interval_sum : (u w : Point Fraction) (p : Polynomial)
    → shadow_integral 1 (u ∷ w ∷ []) p ≡ plus (plus nil (over_point w (antiderivative 0 p))) (negative (over_point u (antiderivative 0 p)))
unfolding shadow_integral
interval_sum u w p = refl

pub shadow_integral_one : (u w : Point Fraction) (p : Polynomial) → shadow_integral 1 (u ∷ w ∷ []) p ≡ W.interval fractions rationals u.x w.x p
shadow_integral_one u w p =
    interval_sum u w p
    ∙ ap₂ (λ f g. plus (plus nil f) (negative g)) (at_point w (antiderivative 0 p)) (at_point u (antiderivative 0 p))
    ∙ Solve.ring polynomials (composed (instead 0 (constant w.x)) (antiderivative 0 p) ∷ composed (instead 0 (constant u.x)) (antiderivative 0 p) ∷ [])
    ((num (pos 0) ⊕ at 0) ⊕ opposite (at 1)) (at 0 ⊖ at 1) refl
    ∙ written
  where
    written : minus (composed (instead 0 (constant w.x)) (antiderivative 0 p)) (composed (instead 0 (constant u.x)) (antiderivative 0 p)) ≡ W.interval fractions rationals u.x w.x p
    written = unfold W.interval composed instead constant plus negative antiderivative in refl

-- an interval: the antiderivative at its ends
pub interval_ends : (u w : Point Fraction) (p : Polynomial)
    → shadow_integral 1 (u ∷ w ∷ []) p ≡ minus (replaced 0 (constant w.x) (antiderivative 0 p)) (replaced 0 (constant u.x) (antiderivative 0 p))
interval_ends u w p =
    interval_sum u w p
    ∙ ap₂ (λ f g. plus (plus nil f) (negative g)) (at_point w (antiderivative 0 p)) (at_point u (antiderivative 0 p))
    ∙ Solve.ring polynomials (composed (instead 0 (constant w.x)) (antiderivative 0 p) ∷ composed (instead 0 (constant u.x)) (antiderivative 0 p) ∷ [])
    ((num (pos 0) ⊕ at 0) ⊕ opposite (at 1)) (at 0 ⊖ at 1) refl

-- in the last direction nothing is renumbered
pub lowered_one : (h p : Polynomial) → composed (lowered 1 1 h) p ≡ replaced 1 h p
lowered_one h p = composed-same (lowered 1 1 h) (instead 1 h) each p
  where
    each : (j : ℕ) → lowered 1 1 h j ≡ instead 1 h j
    each zero = unfold instead coordinate in refl
    each (suc zero) = unfold instead in refl
    each (suc (suc j)) = unfold instead coordinate in refl

pub lowered_two : (h p : Polynomial) → composed (lowered 2 2 h) p ≡ replaced 2 h p
lowered_two h p = composed-same (lowered 2 2 h) (instead 2 h) each p
  where
    each : (j : ℕ) → lowered 2 2 h j ≡ instead 2 h j
    each zero = unfold instead coordinate in refl
    each (suc zero) = unfold instead coordinate in refl
    each (suc (suc zero)) = unfold instead in refl
    each (suc (suc (suc j))) = unfold instead coordinate in refl

-- ---- triangles
abbrev pub line_shadow : Point Fraction → Point Fraction → Simplex
line_shadow u w = shadow_point 1 u ∷ shadow_point 1 w ∷ []

abbrev pub over_line : Point Fraction → Point Fraction → Polynomial → Polynomial
over_line u w q = over_shadow (λ v p. shadow_integral 1 v p) 1 1 (u ∷ w ∷ []) q

line_height : (u w : Point Fraction) → height 1 (u ∷ w ∷ []) ≡ W.height fractions rationals u w
line_height u w =
    ap (plus (times (constant u.y) (barycentric (line_shadow u w) 0))) (plus-nil (times (constant w.y) (barycentric (line_shadow u w) 1)))
    ∙ written
  where
    written : plus (times (constant u.y) (barycentric (line_shadow u w) 0)) (times (constant w.y) (barycentric (line_shadow u w) 1)) ≡ W.height fractions rationals u w
    written = unfold barycentric volume plus times negative constant coordinate in refl

line_replaced : (u w : Point Fraction) (j : ℕ) → lowered 1 1 (height 1 (u ∷ w ∷ [])) j ≡ instead 1 (W.height fractions rationals u w) j
line_replaced u w zero = unfold instead coordinate in refl
line_replaced u w (suc zero) = line_height u w ∙ (unfold instead in refl)
line_replaced u w (suc (suc j)) = unfold instead coordinate in refl

at_line : (u w : Point Fraction) (q : Polynomial) → over_line u w q ≡ W.facet fractions rationals u w q
at_line u w q =
    ap (chosen (is_zero_fraction (volume (line_shadow u w))))
    (shadow_integral_one (shadow_point 1 u) (shadow_point 1 w) (composed (lowered 1 1 (height 1 (u ∷ w ∷ []))) q)
    ∙ ap (λ p. W.interval fractions rationals u.x w.x p) (composed-same (lowered 1 1 (height 1 (u ∷ w ∷ []))) (instead 1 (W.height fractions rationals u w)) (line_replaced u w) q))
    ∙ written
  where
    written : chosen (is_zero_fraction (volume (line_shadow u w))) (W.interval fractions rationals u.x w.x (composed (instead 1 (W.height fractions rationals u w)) q)) ≡ W.facet fractions rationals u w q
    written = unfold W.facet volume nil composed instead in refl

pub triangle_sum : (a b c : Point Fraction) (p : Polynomial)
    → shadow_integral 2 (a ∷ b ∷ c ∷ []) p
    ≡ plus (plus (plus nil (negative (over_line b c (antiderivative 1 p)))) (over_line a c (antiderivative 1 p))) (negative (over_line a b (antiderivative 1 p)))
unfolding shadow_integral
triangle_sum a b c p = refl

pub shadow_integral_two : (a b c : Point Fraction) (p : Polynomial) → shadow_integral 2 (a ∷ b ∷ c ∷ []) p ≡ W.triangle fractions rationals a b c p
shadow_integral_two a b c p =
    triangle_sum a b c p
    ∙ Solve.ring polynomials (over_line b c P ∷ over_line a c P ∷ over_line a b P ∷ [])
    (((num (pos 0) ⊕ opposite (at 0)) ⊕ at 1) ⊕ opposite (at 2)) (opposite (at 0) ⊕ (at 1 ⊕ opposite (at 2))) refl
    ∙ ap₂ (λ f g. plus (negative f) g) (at_line b c P) (ap₂ (λ f g. plus f (negative g)) (at_line a c P) (at_line a b P))
    ∙ written
  where
    P : Polynomial
    P = antiderivative 1 p

    written : plus (negative (W.facet fractions rationals b c (antiderivative 1 p))) (plus (W.facet fractions rationals a c (antiderivative 1 p)) (negative (W.facet fractions rationals a b (antiderivative 1 p)))) ≡ W.triangle fractions rationals a b c p
    written = unfold W.triangle plus negative antiderivative in refl

-- ---- tetrahedra
abbrev pub plane_shadow : Point Fraction → Point Fraction → Point Fraction → Simplex
plane_shadow u v w = u ∷ v ∷ w ∷ []

abbrev pub over_plane : Point Fraction → Point Fraction → Point Fraction → Polynomial → Polynomial
over_plane u v w q = over_shadow (λ v p. shadow_integral 2 v p) 2 2 (u ∷ v ∷ w ∷ []) q

plane_height : (u v w : Point Fraction) → height 2 (u ∷ v ∷ w ∷ []) ≡ W.height_of_three fractions rationals u v w
plane_height u v w =
    ap (λ x. plus (term u.z 0) (plus (term v.z 1) x)) (plus-nil (term w.z 2))
    ∙ written
  where
    term : Fraction → ℕ → Polynomial
    term a j = times (constant a) (barycentric (u ∷ v ∷ w ∷ []) j)

    written : plus (times (constant u.z) (barycentric (u ∷ v ∷ w ∷ []) 0)) (plus (times (constant v.z) (barycentric (u ∷ v ∷ w ∷ []) 1)) (times (constant w.z) (barycentric (u ∷ v ∷ w ∷ []) 2)))
        ≡ W.height_of_three fractions rationals u v w
    written = unfold barycentric volume plus times negative constant coordinate in refl

plane_replaced : (u v w : Point Fraction) (j : ℕ) → lowered 2 2 (height 2 (u ∷ v ∷ w ∷ [])) j ≡ instead 2 (W.height_of_three fractions rationals u v w) j
plane_replaced u v w zero = unfold instead coordinate in refl
plane_replaced u v w (suc zero) = unfold instead coordinate in refl
plane_replaced u v w (suc (suc zero)) = plane_height u v w ∙ (unfold instead in refl)
plane_replaced u v w (suc (suc (suc j))) = unfold instead coordinate in refl

at_plane : (u v w : Point Fraction) (q : Polynomial) → over_plane u v w q ≡ W.facet_of_three fractions rationals u v w q
at_plane u v w q =
    ap (chosen (is_zero_fraction (volume (plane_shadow u v w))))
    (shadow_integral_two u v w (composed (lowered 2 2 (height 2 (u ∷ v ∷ w ∷ []))) q)
    ∙ ap (λ p. W.triangle fractions rationals u v w p) (composed-same (lowered 2 2 (height 2 (u ∷ v ∷ w ∷ []))) (instead 2 (W.height_of_three fractions rationals u v w)) (plane_replaced u v w) q))
    ∙ written
  where
    written : chosen (is_zero_fraction (volume (plane_shadow u v w))) (W.triangle fractions rationals u v w (composed (instead 2 (W.height_of_three fractions rationals u v w)) q)) ≡ W.facet_of_three fractions rationals u v w q
    written = unfold W.facet_of_three volume nil composed instead in refl

pub tetrahedron_sum : (a b c e : Point Fraction) (p : Polynomial)
    → shadow_integral 3 (a ∷ b ∷ c ∷ e ∷ []) p
    ≡ plus (plus (plus (plus nil (over_plane b c e (antiderivative 2 p))) (negative (over_plane a c e (antiderivative 2 p)))) (over_plane a b e (antiderivative 2 p))) (negative (over_plane a b c (antiderivative 2 p)))
unfolding shadow_integral
tetrahedron_sum a b c e p = refl

pub shadow_integral_three : (a b c e : Point Fraction) (p : Polynomial) → shadow_integral 3 (a ∷ b ∷ c ∷ e ∷ []) p ≡ W.tetrahedron fractions rationals a b c e p
shadow_integral_three a b c e p =
    tetrahedron_sum a b c e p
    ∙ Solve.ring polynomials (over_plane b c e P ∷ over_plane a c e P ∷ over_plane a b e P ∷ over_plane a b c P ∷ [])
    ((((num (pos 0) ⊕ at 0) ⊕ opposite (at 1)) ⊕ at 2) ⊕ opposite (at 3)) (at 0 ⊕ (opposite (at 1) ⊕ (at 2 ⊕ opposite (at 3)))) refl
    ∙ ap₂ plus (at_plane b c e P) (ap₂ (λ f g. plus (negative f) g) (at_plane a c e P) (ap₂ (λ f g. plus f (negative g)) (at_plane a b e P) (at_plane a b c P)))
    ∙ written
  where
    P : Polynomial
    P = antiderivative 2 p

    written : plus (W.facet_of_three fractions rationals b c e (antiderivative 2 p)) (plus (negative (W.facet_of_three fractions rationals a c e (antiderivative 2 p)))
        (plus (W.facet_of_three fractions rationals a b e (antiderivative 2 p)) (negative (W.facet_of_three fractions rationals a b c (antiderivative 2 p))))) ≡ W.tetrahedron fractions rationals a b c e p
    written = unfold W.tetrahedron plus negative antiderivative in refl
