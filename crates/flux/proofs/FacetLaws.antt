-- Facets pulled back to the reference facet
use Rattle.std.proofs.Common.{◌≡◌, ℕ, zero, suc, ◌+◌, ◌<◌, Bool, true, false, [], ◌∷◌, refl, sym, ap, ap₂, ◌∙◌, pos, arith}
use Rattle.algebra.specs.RingLaws as L
use Rattle.algebra.specs.Solver.{at, num, ◌⊕◌, ◌⊗◌, ◌⊖◌, unity}
use Rattle.algebra.specs.Sound as Solve
use Rattle.algebra.specs.Fraction.{Fraction, one_fraction, add, negative as minus_fraction, is_zero_fraction}
use Rattle.calculus.specs.Rational.{zero_where}
use Rattle.calculus.specs.Point.{Point}
use Rattle.calculus.specs.Polynomial.{Polynomial, nil, plus, times, minus, constant, coordinate, composed, polynomials, plus-nil}
use Rattle.calculus.specs.Simplex.{Simplex, volume, affine, image, along_axis, reference}
use Rattle.calculus.specs.Integral.{shadow, height, lowered, over_shadow, facet_of, shadow_integral, signed, part}
use Rattle.calculus.proofs.PolynomialLaws.{constant-one, constant-zero, constant-add, constant-negative, composed-plus, composed-times, composed-constant, composed-coordinate, composed-nil, composed-composed, composed-same}
use Rattle.calculus.proofs.Barycentric.{basis_coordinate_of}
use Rattle.calculus.proofs.ChangeOfVariables.{interval_law, triangle_law}
use Rattle.flux.specs.Facet.{along, pulled_back_facet}

less : (a b : Fraction) → constant (add b (minus_fraction a)) ≡ minus (constant b) (constant a)
less a b = constant-add b (minus_fraction a) ∙ ap (plus (constant b)) (constant-negative a)

-- ---- points
not_flat : (u : Point Fraction) → is_zero_fraction (volume (u ∷ [])) ≡ false
not_flat u = unfold volume is_zero_fraction one_fraction in refl

one_point : (u : Point Fraction) → volume (u ∷ []) ≡ one_fraction
one_point u = unfold volume in refl

by_point : (u : Point Fraction) (j : ℕ) → lowered 0 0 (constant u.x) j ≡ along 0 (u ∷ []) j
by_point u zero = sym (plus-nil (constant u.x))
by_point u (suc j) = refl

point_law : (u : Point Fraction) (q : Polynomial) → over_shadow (λ w p. shadow_integral 0 w p) 0 0 (u ∷ []) q ≡ pulled_back_facet 0 0 (u ∷ []) q
unfolding shadow_integral
point_law u q =
    ap (λ b. elim b as (λ _. Polynomial) [ true ↦ nil | false ↦ composed (lowered 0 0 (constant u.x)) q ]) (not_flat (record { x = u.y; y = u.z; z = u.z }))
    ∙ composed-same (lowered 0 0 (constant u.x)) (along 0 (u ∷ [])) (by_point u) q
    ∙ sym (L.one-mul polynomials (composed (along 0 (u ∷ [])) q))
    ∙ ap (λ c. times c (composed (along 0 (u ∷ [])) q)) (sym constant-one ∙ ap constant (sym (one_point (record { x = u.y; y = u.z; z = u.z }))))

-- ---- where the law of change of variables holds for the shadow
by_shadow : (e i : ℕ) (w : Simplex) (q : Polynomial)
    → ((p : Polynomial) → shadow_integral e (shadow i w) p ≡ times (constant (volume (shadow i w))) (shadow_integral e (reference e) (composed (affine (shadow i w)) p)))
    → (is_zero_fraction (volume (shadow i w)) ≡ false → (j : ℕ) → composed (affine (shadow i w)) (lowered e i (height i w) j) ≡ along e w j)
    → over_shadow (λ w p. shadow_integral e w p) e i w q ≡ pulled_back_facet e i w q
by_shadow e i w q law same = go (is_zero_fraction (volume (shadow i w))) refl
  where
    go : (b : Bool) → is_zero_fraction (volume (shadow i w)) ≡ b
        → (elim b as (λ _. Polynomial) [ true ↦ nil | false ↦ shadow_integral e (shadow i w) (composed (lowered e i (height i w)) q) ]) ≡ pulled_back_facet e i w q
    go true h =
        sym (L.zero-mul polynomials _)
        ∙ ap (λ c. times c (shadow_integral e (reference e) (composed (along e w) q))) (sym constant-zero ∙ ap constant (sym (zero_where (volume (shadow i w)) h)))
    go false h =
        law (composed (lowered e i (height i w)) q)
        ∙ ap (λ p. times (constant (volume (shadow i w))) (shadow_integral e (reference e) p))
        (composed-composed (affine (shadow i w)) (lowered e i (height i w)) q
        ∙ composed-same (λ j. composed (affine (shadow i w)) (lowered e i (height i w) j)) (along e w) (same h) q)

-- ---- edges
module _ (a b : Point Fraction) where
  abbrev edge : Simplex
  edge = a ∷ b ∷ []

  edge_height : (i : ℕ) → is_zero_fraction (volume (shadow i edge)) ≡ false → composed (affine (shadow i edge)) (height i edge) ≡ image edge i
  edge_height i h =
      let s = affine (shadow i edge) in
      let x = along_axis i a in
      let y = along_axis i b in
      composed-plus s _ _
      ∙ ap₂ plus (composed-times s _ _ ∙ ap₂ times (composed-constant s x) (basis_coordinate_of (shadow i edge) tt h 0))
      (composed-plus s _ _ ∙ ap₂ plus (composed-times s _ _ ∙ ap₂ times (composed-constant s y) (basis_coordinate_of (shadow i edge) tt h 1)) (composed-nil s))
      ∙ Solve.ring polynomials (constant x ∷ constant y ∷ coordinate 0 ∷ [])
      ((at 0 ⊗ (unity ⊖ (num (pos 0) ⊕ at 2))) ⊕ ((at 1 ⊗ at 2) ⊕ num (pos 0))) (at 0 ⊕ ((at 2 ⊗ (at 1 ⊖ at 0)) ⊕ num (pos 0))) refl
      ∙ ap (λ c. plus (constant x) (plus (times (coordinate 0) c) nil)) (sym (less x y))

  edge_same : (i : ℕ) → i < 2 → is_zero_fraction (volume (shadow i edge)) ≡ false → (j : ℕ) → composed (affine (shadow i edge)) (lowered 1 i (height i edge) j) ≡ along 1 edge j
  unfolding affine
  edge_same zero l h zero = edge_height 0 h
  edge_same zero l h (suc zero) = composed-coordinate (affine (shadow 0 edge)) 0
  edge_same zero l h (suc (suc j)) = composed-coordinate (affine (shadow 0 edge)) (suc (suc j))
  edge_same (suc zero) l h zero = composed-coordinate (affine (shadow 1 edge)) 0
  edge_same (suc zero) l h (suc zero) = edge_height 1 h
  edge_same (suc zero) l h (suc (suc j)) = composed-coordinate (affine (shadow 1 edge)) (suc (suc j))
  edge_same (suc (suc i)) l h j = absurd (omega (arith, l))

  edge_law : (i : ℕ) → i < 2 → (q : Polynomial) → over_shadow (λ w p. shadow_integral 1 w p) 1 i edge q ≡ pulled_back_facet 1 i edge q
  edge_law i l q = by_shadow 1 i edge q (interval_law _ _) (edge_same i l)

-- ---- triangles
module _ (a b c : Point Fraction) where
  abbrev face : Simplex
  face = a ∷ b ∷ c ∷ []

  face_height : (i : ℕ) → is_zero_fraction (volume (shadow i face)) ≡ false → composed (affine (shadow i face)) (height i face) ≡ image face i
  face_height i h =
      let s = affine (shadow i face) in
      let x = along_axis i a in
      let y = along_axis i b in
      let z = along_axis i c in
      composed-plus s _ _
      ∙ ap₂ plus (composed-times s _ _ ∙ ap₂ times (composed-constant s x) (basis_coordinate_of (shadow i face) tt h 0))
      (composed-plus s _ _
      ∙ ap₂ plus (composed-times s _ _ ∙ ap₂ times (composed-constant s y) (basis_coordinate_of (shadow i face) tt h 1))
      (composed-plus s _ _ ∙ ap₂ plus (composed-times s _ _ ∙ ap₂ times (composed-constant s z) (basis_coordinate_of (shadow i face) tt h 2)) (composed-nil s)))
      ∙ Solve.ring polynomials (constant x ∷ constant y ∷ constant z ∷ coordinate 0 ∷ coordinate 1 ∷ [])
      ((at 0 ⊗ (unity ⊖ ((num (pos 0) ⊕ at 3) ⊕ at 4))) ⊕ ((at 1 ⊗ at 3) ⊕ ((at 2 ⊗ at 4) ⊕ num (pos 0))))
      (at 0 ⊕ ((at 3 ⊗ (at 1 ⊖ at 0)) ⊕ ((at 4 ⊗ (at 2 ⊖ at 0)) ⊕ num (pos 0)))) refl
      ∙ ap₂ (λ u v. plus (constant x) (plus (times (coordinate 0) u) (plus (times (coordinate 1) v) nil))) (sym (less x y)) (sym (less x z))

  face_same : (i : ℕ) → i < 3 → is_zero_fraction (volume (shadow i face)) ≡ false → (j : ℕ) → composed (affine (shadow i face)) (lowered 2 i (height i face) j) ≡ along 2 face j
  unfolding affine
  face_same zero l h zero = face_height 0 h
  face_same zero l h (suc zero) = composed-coordinate (affine (shadow 0 face)) 0
  face_same zero l h (suc (suc zero)) = composed-coordinate (affine (shadow 0 face)) 1
  face_same zero l h (suc (suc (suc j))) = composed-coordinate (affine (shadow 0 face)) (suc (suc (suc j)))
  face_same (suc zero) l h zero = composed-coordinate (affine (shadow 1 face)) 0
  face_same (suc zero) l h (suc zero) = face_height 1 h
  face_same (suc zero) l h (suc (suc zero)) = composed-coordinate (affine (shadow 1 face)) 1
  face_same (suc zero) l h (suc (suc (suc j))) = composed-coordinate (affine (shadow 1 face)) (suc (suc (suc j)))
  face_same (suc (suc zero)) l h zero = composed-coordinate (affine (shadow 2 face)) 0
  face_same (suc (suc zero)) l h (suc zero) = composed-coordinate (affine (shadow 2 face)) 1
  face_same (suc (suc zero)) l h (suc (suc zero)) = face_height 2 h
  face_same (suc (suc zero)) l h (suc (suc (suc j))) = composed-coordinate (affine (shadow 2 face)) (suc (suc (suc j)))
  face_same (suc (suc (suc i))) l h j = absurd (omega (arith, l))

  face_law : (i : ℕ) → i < 3 → (q : Polynomial) → over_shadow (λ w p. shadow_integral 2 w p) 2 i face q ≡ pulled_back_facet 2 i face q
  face_law i l q = by_shadow 2 i face q (triangle_law _ _ _) (face_same i l)

-- ---- the facets of each cell
pub interval_facets : (a b : Point Fraction) (k : ℕ) → k < 2 → (q : Polynomial)
    → part (a ∷ b ∷ []) k 0 q ≡ signed (k + 0) (pulled_back_facet 0 0 (facet_of k (a ∷ b ∷ [])) q)
unfolding part
interval_facets a b zero l q = ap (signed (0 + 0)) (point_law b q)
interval_facets a b (suc zero) l q = ap (signed (1 + 0)) (point_law a q)
interval_facets a b (suc (suc k)) l q = absurd (omega (arith, l))

pub triangle_facets : (a b c : Point Fraction) (k i : ℕ) → k < 3 → i < 2 → (q : Polynomial)
    → part (a ∷ b ∷ c ∷ []) k i q ≡ signed (k + i) (pulled_back_facet 1 i (facet_of k (a ∷ b ∷ c ∷ [])) q)
unfolding part
triangle_facets a b c zero i l m q = ap (signed (0 + i)) (edge_law b c i m q)
triangle_facets a b c (suc zero) i l m q = ap (signed (1 + i)) (edge_law a c i m q)
triangle_facets a b c (suc (suc zero)) i l m q = ap (signed (2 + i)) (edge_law a b i m q)
triangle_facets a b c (suc (suc (suc k))) i l m q = absurd (omega (arith, l))

pub tetrahedron_facets : (a b c e : Point Fraction) (k i : ℕ) → k < 4 → i < 3 → (q : Polynomial)
    → part (a ∷ b ∷ c ∷ e ∷ []) k i q ≡ signed (k + i) (pulled_back_facet 2 i (facet_of k (a ∷ b ∷ c ∷ e ∷ [])) q)
unfolding part
tetrahedron_facets a b c e zero i l m q = ap (signed (0 + i)) (face_law b c e i m q)
tetrahedron_facets a b c e (suc zero) i l m q = ap (signed (1 + i)) (face_law a c e i m q)
tetrahedron_facets a b c e (suc (suc zero)) i l m q = ap (signed (2 + i)) (face_law a b e i m q)
tetrahedron_facets a b c e (suc (suc (suc zero))) i l m q = ap (signed (3 + i)) (face_law a b c i m q)
tetrahedron_facets a b c e (suc (suc (suc (suc k)))) i l m q = absurd (omega (arith, l))
