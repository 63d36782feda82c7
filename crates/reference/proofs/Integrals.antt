-- The integrals as the program adds them up
use Rattle.std.proofs.Common.{◌≡◌, Bool, true, false, refl, ◌∙◌, ap, [], ◌∷◌, pos}
use Rattle.algebra.specs.Solver.{at, num, ◌⊕◌, ◌⊖◌, minus as opposite}
use Rattle.algebra.specs.Sound as Solve
use Rattle.algebra.specs.Fraction.{Fraction, is_zero_fraction, is_below_zero}
use Rattle.calculus.specs.Point.{Point}
use Rattle.calculus.specs.Polynomial.{Polynomial, nil, plus, times, negative, minus, constant, antiderivative, composed, replaced, polynomials, plus-nil}
use Rattle.calculus.specs.Simplex.{Simplex, dimension, volume, barycentric}
use Rattle.calculus.specs.Integral.{height, lowered, shadow_integral, cell_integral}
use Rattle.calculus.proofs.ByDimension as D
use Rattle.calculus.proofs.ByDimension.{over_line, over_plane, line_shadow, lowered_one, lowered_two}

-- nothing where b, else p
abbrev chosen : Bool → Polynomial → Polynomial
chosen b p = elim b [ true ↦ nil | false ↦ p ]

chosen_nothing : (b : Bool) (p : Polynomial) → b ≡ true → chosen b p ≡ nil
chosen_nothing b p h = ap (λ b. chosen b p) h

chosen_one : (b : Bool) (p : Polynomial) → b ≡ false → chosen b p ≡ p
chosen_one b p h = ap (λ b. chosen b p) h

along_line : Point Fraction → Point Fraction → Polynomial → Polynomial
along_line u w q = shadow_integral 1 (line_shadow u w) (composed (lowered 1 1 (height 1 (u ∷ w ∷ []))) q)

along_plane : Point Fraction → Point Fraction → Point Fraction → Polynomial → Polynomial
along_plane u v w q = shadow_integral 2 (u ∷ v ∷ w ∷ []) (composed (lowered 2 2 (height 2 (u ∷ v ∷ w ∷ []))) q)

pub flat_line : (u w : Point Fraction) (q : Polynomial) → is_zero_fraction (volume (line_shadow u w)) ≡ true → over_line u w q ≡ nil
unfolding along_line
flat_line u w q h = chosen_nothing (is_zero_fraction (volume (line_shadow u w))) (along_line u w q) h

pub steep_line : (u w : Point Fraction) (q : Polynomial) → is_zero_fraction (volume (line_shadow u w)) ≡ false → over_line u w q ≡ shadow_integral 1 (line_shadow u w) (replaced 1 (height 1 (u ∷ w ∷ [])) q)
unfolding along_line
steep_line u w q h = chosen_one (is_zero_fraction (volume (line_shadow u w))) (along_line u w q) h ∙ ap (shadow_integral 1 (line_shadow u w)) (lowered_one (height 1 (u ∷ w ∷ [])) q)

pub flat_plane : (u v w : Point Fraction) (q : Polynomial) → is_zero_fraction (volume (u ∷ v ∷ w ∷ [])) ≡ true → over_plane u v w q ≡ nil
unfolding along_plane
flat_plane u v w q h = chosen_nothing (is_zero_fraction (volume (u ∷ v ∷ w ∷ []))) (along_plane u v w q) h

pub steep_plane : (u v w : Point Fraction) (q : Polynomial) → is_zero_fraction (volume (u ∷ v ∷ w ∷ [])) ≡ false
    → over_plane u v w q ≡ shadow_integral 2 (u ∷ v ∷ w ∷ []) (replaced 2 (height 2 (u ∷ v ∷ w ∷ [])) q)
unfolding along_plane
steep_plane u v w q h = chosen_one (is_zero_fraction (volume (u ∷ v ∷ w ∷ []))) (along_plane u v w q) h ∙ ap (shadow_integral 2 (u ∷ v ∷ w ∷ [])) (lowered_two (height 2 (u ∷ v ∷ w ∷ [])) q)

pub triangle_parts : (a b c : Point Fraction) (p : Polynomial)
    → shadow_integral 2 (a ∷ b ∷ c ∷ []) p ≡ minus (minus (over_line a c (antiderivative 1 p)) (over_line b c (antiderivative 1 p))) (over_line a b (antiderivative 1 p))
triangle_parts a b c p =
    D.triangle_sum a b c p
    ∙ Solve.ring polynomials (over_line b c (antiderivative 1 p) ∷ over_line a c (antiderivative 1 p) ∷ over_line a b (antiderivative 1 p) ∷ [])
    (((num (pos 0) ⊕ opposite (at 0)) ⊕ at 1) ⊕ opposite (at 2)) ((at 1 ⊖ at 0) ⊖ at 2) refl

pub tetrahedron_parts : (a b c e : Point Fraction) (p : Polynomial)
    → shadow_integral 3 (a ∷ b ∷ c ∷ e ∷ []) p
    ≡ minus (plus (minus (over_plane b c e (antiderivative 2 p)) (over_plane a c e (antiderivative 2 p))) (over_plane a b e (antiderivative 2 p))) (over_plane a b c (antiderivative 2 p))
tetrahedron_parts a b c e p =
    D.tetrahedron_sum a b c e p
    ∙ Solve.ring polynomials (over_plane b c e (antiderivative 2 p) ∷ over_plane a c e (antiderivative 2 p) ∷ over_plane a b e (antiderivative 2 p) ∷ over_plane a b c (antiderivative 2 p) ∷ [])
    ((((num (pos 0) ⊕ at 0) ⊕ opposite (at 1)) ⊕ at 2) ⊕ opposite (at 3)) (((at 0 ⊖ at 1) ⊕ at 2) ⊖ at 3) refl

-- the heights without the zero at the end of their sums
pub line_height_of : (u w : Point Fraction) → height 1 (u ∷ w ∷ []) ≡ plus (times (constant u.y) (barycentric (line_shadow u w) 0)) (times (constant w.y) (barycentric (line_shadow u w) 1))
line_height_of u w = ap (plus (times (constant u.y) (barycentric (line_shadow u w) 0))) (plus-nil _)

pub plane_height_of : (u v w : Point Fraction) → height 2 (u ∷ v ∷ w ∷ [])
    ≡ plus (times (constant u.z) (barycentric (u ∷ v ∷ w ∷ []) 0)) (plus (times (constant v.z) (barycentric (u ∷ v ∷ w ∷ []) 1)) (times (constant w.z) (barycentric (u ∷ v ∷ w ∷ []) 2)))
plane_height_of u v w = ap (λ x. plus (times (constant u.z) (barycentric (u ∷ v ∷ w ∷ []) 0)) (plus (times (constant v.z) (barycentric (u ∷ v ∷ w ∷ []) 1)) x)) (plus-nil _)

-- ---- the cell integral by the sign of the volume factor
turned : Bool → Polynomial → Polynomial
turned b p = elim b [ true ↦ negative p | false ↦ p ]

pub turned_cell : (v : Simplex) (p : Polynomial) → is_below_zero (volume v) ≡ true → cell_integral v p ≡ negative (shadow_integral (dimension v) v p)
unfolding cell_integral turned
turned_cell v p h = ap (λ b. turned b (shadow_integral (dimension v) v p)) h

pub upright_cell : (v : Simplex) (p : Polynomial) → is_below_zero (volume v) ≡ false → cell_integral v p ≡ shadow_integral (dimension v) v p
unfolding cell_integral turned
upright_cell v p h = ap (λ b. turned b (shadow_integral (dimension v) v p)) h
