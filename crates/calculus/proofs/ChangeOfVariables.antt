-- The shadow integral over a simplex is its volume factor times that over the reference cell, of the polynomial after the affine map
use Rattle.std.proofs.Common.{◌≡◌, ℕ, zero, suc, Bool, true, false, refl, sym, ◌∙◌, ap, [], ◌∷◌}
use Rattle.algebra.specs.RingLaws as L
use Rattle.algebra.specs.Fraction.{Fraction, fractions, zero_fraction, one_fraction, add, is_below_zero, when, negative as minus_fraction}
use Rattle.calculus.specs.OverRing as G
use Rattle.calculus.specs.Point.{Point}
use Rattle.calculus.specs.Rational.{rationals}
use Rattle.calculus.specs.Polynomial.{Polynomial, plus, times, negative, constant, coordinate, composed, polynomials, nil, plus-nil}
use Rattle.calculus.specs.Simplex.{Simplex, IsCell, dimension, volume, reference, affine, origin, first_unit, second_unit, third_unit}
use Rattle.calculus.specs.Integral.{shadow_integral, oriented, cell_integral, pulled_back_integral}
use Rattle.calculus.proofs.WrittenOut as W
use Rattle.calculus.proofs.IntervalLaw as I
use Rattle.calculus.proofs.TriangleLaw as T
use Rattle.calculus.proofs.TetrahedronLaw as V
use Rattle.calculus.proofs.ByDimension as D
use Rattle.calculus.proofs.PolynomialLaws.{composed-same, constant-negative}

-- p, or its negative where b
abbrev positive_part : Bool → Polynomial → Polynomial
positive_part b p = elim b [ true ↦ negative p | false ↦ p ]

-- variable k times the difference of two coordinates
abbrev edge : ℕ → Fraction → Fraction → Polynomial
edge k a b = times (coordinate k) (constant (add b (minus_fraction a)))

-- ---- intervals
affine_one : (u w : Point Fraction) (i : ℕ) → affine (u ∷ w ∷ []) i ≡ W.along fractions rationals u.x w.x i
affine_one u w zero = spelt ∙ ap (plus (constant u.x)) (plus-nil (edge 0 u.x w.x)) ∙ written
  where
    spelt : affine (u ∷ w ∷ []) 0 ≡ plus (constant u.x) (plus (edge 0 u.x w.x) nil)
    spelt = unfold affine in refl

    written : plus (constant u.x) (edge 0 u.x w.x) ≡ W.along fractions rationals u.x w.x 0
    written = unfold plus times constant coordinate in refl
affine_one u w (suc i) = unfold affine coordinate in refl

pub interval_law : (u w : Point Fraction) (p : Polynomial)
    → shadow_integral 1 (u ∷ w ∷ []) p ≡ times (constant (volume (u ∷ w ∷ []))) (shadow_integral 1 (reference 1) (composed (affine (u ∷ w ∷ [])) p))
interval_law u w p =
    D.shadow_integral_one u w p
    ∙ I.interval_law fractions rationals u.x w.x p
    ∙ written
    ∙ ap (times (constant (volume (u ∷ w ∷ []))))
    (ap (λ q. W.interval fractions rationals zero_fraction one_fraction q) (sym (composed-same (affine (u ∷ w ∷ [])) (W.along fractions rationals u.x w.x) (affine_one u w) p))
    ∙ sym (D.shadow_integral_one origin first_unit (composed (affine (u ∷ w ∷ [])) p)))
  where
    written : (G.ring fractions).mul (G.constant fractions (W.length_of fractions rationals u.x w.x)) (W.interval fractions rationals zero_fraction one_fraction (G.replaced fractions (W.along fractions rationals u.x w.x) p))
        ≡ times (constant (volume (u ∷ w ∷ []))) (W.interval fractions rationals zero_fraction one_fraction (composed (W.along fractions rationals u.x w.x) p))
    written = unfold times constant volume composed in refl

-- ---- triangles
plane_image : (a b c : Fraction) → plus (constant a) (plus (edge 0 a b) (plus (edge 1 a c) nil)) ≡ plus (constant a) (plus (edge 0 a b) (edge 1 a c))
plane_image a b c = ap (λ x. plus (constant a) (plus (edge 0 a b) x)) (plus-nil (edge 1 a c))

affine_two : (a b c : Point Fraction) (i : ℕ) → affine (a ∷ b ∷ c ∷ []) i ≡ W.across fractions rationals a b c i
affine_two a b c zero = spelt ∙ plane_image a.x b.x c.x ∙ written
  where
    spelt : affine (a ∷ b ∷ c ∷ []) 0 ≡ plus (constant a.x) (plus (edge 0 a.x b.x) (plus (edge 1 a.x c.x) nil))
    spelt = unfold affine in refl

    written : plus (constant a.x) (plus (edge 0 a.x b.x) (edge 1 a.x c.x)) ≡ W.across fractions rationals a b c 0
    written = unfold plus times constant coordinate in refl
affine_two a b c (suc zero) = spelt ∙ plane_image a.y b.y c.y ∙ written
  where
    spelt : affine (a ∷ b ∷ c ∷ []) 1 ≡ plus (constant a.y) (plus (edge 0 a.y b.y) (plus (edge 1 a.y c.y) nil))
    spelt = unfold affine in refl

    written : plus (constant a.y) (plus (edge 0 a.y b.y) (edge 1 a.y c.y)) ≡ W.across fractions rationals a b c 1
    written = unfold plus times constant coordinate in refl
affine_two a b c (suc (suc i)) = unfold affine coordinate in refl

pub triangle_law : (a b c : Point Fraction) (p : Polynomial)
    → shadow_integral 2 (a ∷ b ∷ c ∷ []) p ≡ times (constant (volume (a ∷ b ∷ c ∷ []))) (shadow_integral 2 (reference 2) (composed (affine (a ∷ b ∷ c ∷ [])) p))
triangle_law a b c p =
    D.shadow_integral_two a b c p
    ∙ T.triangle_law fractions rationals a b c p
    ∙ written
    ∙ ap (times (constant (volume (a ∷ b ∷ c ∷ []))))
    (ap (λ q. W.triangle fractions rationals origin first_unit second_unit q) (sym (composed-same (affine (a ∷ b ∷ c ∷ [])) (W.across fractions rationals a b c) (affine_two a b c) p))
    ∙ sym (D.shadow_integral_two origin first_unit second_unit (composed (affine (a ∷ b ∷ c ∷ [])) p)))
  where
    written : (G.ring fractions).mul (G.constant fractions (W.area_of fractions rationals a b c)) (W.triangle fractions rationals origin first_unit second_unit (G.replaced fractions (W.across fractions rationals a b c) p))
        ≡ times (constant (volume (a ∷ b ∷ c ∷ []))) (W.triangle fractions rationals origin first_unit second_unit (composed (W.across fractions rationals a b c) p))
    written = unfold times constant volume composed in refl

-- ---- tetrahedra
space_image : (a b c e : Fraction) → plus (constant a) (plus (edge 0 a b) (plus (edge 1 a c) (plus (edge 2 a e) nil))) ≡ plus (constant a) (plus (edge 0 a b) (plus (edge 1 a c) (edge 2 a e)))
space_image a b c e = ap (λ x. plus (constant a) (plus (edge 0 a b) (plus (edge 1 a c) x))) (plus-nil (edge 2 a e))

image_three : (a b c e : Fraction) → plus (constant a) (plus (edge 0 a b) (plus (edge 1 a c) (edge 2 a e))) ≡ W.image fractions rationals a b c e
image_three a b c e = unfold plus times constant coordinate in refl

affine_three : (a b c e : Point Fraction) (i : ℕ) → affine (a ∷ b ∷ c ∷ e ∷ []) i ≡ W.through fractions rationals a b c e i
affine_three a b c e zero = spelt ∙ space_image a.x b.x c.x e.x ∙ image_three a.x b.x c.x e.x
  where
    spelt : affine (a ∷ b ∷ c ∷ e ∷ []) 0 ≡ plus (constant a.x) (plus (edge 0 a.x b.x) (plus (edge 1 a.x c.x) (plus (edge 2 a.x e.x) nil)))
    spelt = unfold affine in refl
affine_three a b c e (suc zero) = spelt ∙ space_image a.y b.y c.y e.y ∙ image_three a.y b.y c.y e.y
  where
    spelt : affine (a ∷ b ∷ c ∷ e ∷ []) 1 ≡ plus (constant a.y) (plus (edge 0 a.y b.y) (plus (edge 1 a.y c.y) (plus (edge 2 a.y e.y) nil)))
    spelt = unfold affine in refl
affine_three a b c e (suc (suc zero)) = spelt ∙ space_image a.z b.z c.z e.z ∙ image_three a.z b.z c.z e.z
  where
    spelt : affine (a ∷ b ∷ c ∷ e ∷ []) 2 ≡ plus (constant a.z) (plus (edge 0 a.z b.z) (plus (edge 1 a.z c.z) (plus (edge 2 a.z e.z) nil)))
    spelt = unfold affine in refl
affine_three a b c e (suc (suc (suc i))) = unfold affine coordinate in refl

pub tetrahedron_law : (a b c e : Point Fraction) (p : Polynomial)
    → shadow_integral 3 (a ∷ b ∷ c ∷ e ∷ []) p
    ≡ times (constant (volume (a ∷ b ∷ c ∷ e ∷ []))) (shadow_integral 3 (reference 3) (composed (affine (a ∷ b ∷ c ∷ e ∷ [])) p))
tetrahedron_law a b c e p =
    D.shadow_integral_three a b c e p
    ∙ V.tetrahedron_law fractions rationals a b c e p
    ∙ written
    ∙ ap (times (constant (volume (a ∷ b ∷ c ∷ e ∷ []))))
    (ap (λ q. W.tetrahedron fractions rationals origin first_unit second_unit third_unit q) (sym (composed-same (affine (a ∷ b ∷ c ∷ e ∷ [])) (W.through fractions rationals a b c e) (affine_three a b c e) p))
    ∙ sym (D.shadow_integral_three origin first_unit second_unit third_unit (composed (affine (a ∷ b ∷ c ∷ e ∷ [])) p)))
  where
    written : (G.ring fractions).mul (G.constant fractions (W.volume_of fractions rationals a b c e)) (W.tetrahedron fractions rationals origin first_unit second_unit third_unit (G.replaced fractions (W.through fractions rationals a b c e) p))
        ≡ times (constant (volume (a ∷ b ∷ c ∷ e ∷ []))) (W.tetrahedron fractions rationals origin first_unit second_unit third_unit (composed (W.through fractions rationals a b c e) p))
    written = unfold times constant volume composed in refl

-- ---- any cell
pub shadow_law : (v : Simplex) → IsCell v → (p : Polynomial)
    → shadow_integral (dimension v) v p ≡ times (constant (volume v)) (shadow_integral (dimension v) (reference (dimension v)) (composed (affine v) p))
shadow_law [] h p = absurd h
shadow_law (a ∷ []) h p = absurd h
shadow_law (a ∷ b ∷ []) h p = interval_law a b p
shadow_law (a ∷ b ∷ c ∷ []) h p = triangle_law a b c p
shadow_law (a ∷ b ∷ c ∷ e ∷ []) h p = tetrahedron_law a b c e p
shadow_law (a ∷ b ∷ c ∷ e ∷ f ∷ vs) h p = absurd h

pub cell_law : (v : Simplex) → IsCell v → (p : Polynomial) → cell_integral v p ≡ pulled_back_integral v p
unfolding cell_integral pulled_back_integral
cell_law v h p = ap (oriented v) (shadow_law v h p) ∙ go (is_below_zero (volume v))
  where
    R : Polynomial
    R = shadow_integral (dimension v) (reference (dimension v)) (composed (affine v) p)

    go : (b : Bool) → positive_part b (times (constant (volume v)) (shadow_integral (dimension v) (reference (dimension v)) (composed (affine v) p)))
        ≡ times (constant (when b (minus_fraction (volume v)) (volume v))) (shadow_integral (dimension v) (reference (dimension v)) (composed (affine v) p))
    go true = sym (L.neg-mul polynomials (constant (volume v)) R) ∙ ap (λ x. times x (shadow_integral (dimension v) (reference (dimension v)) (composed (affine v) p))) (sym (constant-negative (volume v)))
    go false = refl
