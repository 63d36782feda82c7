-- The coordinates of space as sums over the vertices of a cell
use Rattle.std.proofs.Common.{◌≡◌, ℕ, zero, suc, ◌<◌, false, refl, sym, ◌∙◌, ap, ap₂, subst, arith, List, [], ◌∷◌, pos, Some}
use Rattle.algebra.specs.RingLaws as L
use Rattle.algebra.specs.Solver.{Expr, at, num, ◌⊕◌, ◌⊗◌, ◌⊖◌, unity}
use Rattle.algebra.specs.Sound as Solve
use Rattle.algebra.specs.Fraction.{Fraction, inverse, mul_inverse, is_zero_fraction}
use Rattle.calculus.specs.Integral.{sum_below}
use Rattle.calculus.specs.Jacobian.{vertex_at}
use Rattle.calculus.specs.LocalFunction.{vertex_factors, local_function}
use Rattle.calculus.specs.Point.{Point}
use Rattle.calculus.specs.Polynomial.{Polynomial, nil, one, plus, times, constant, coordinate, polynomials, times-one}
use Rattle.calculus.specs.Simplex.{Simplex, IsCell, dimension, along_axis, volume, volume_in, constant_points, barycentric}
use Rattle.calculus.proofs.Barycentric.{volume_constant, κ, X, Y, Z}
use Rattle.calculus.proofs.LocalFunctions.{vertex_factor_one, vertex_factor_zero}
use Rattle.calculus.proofs.PolynomialLaws.{constant-mul, constant-one}
use Rattle.spaces.specs.declared.cell.Cell.{Cell}
use Rattle.spaces.specs.declared.cell.Cell.TheVariants.{Interval, Triangle, Tetrahedron}
use Rattle.spaces.specs.declared.parts.Parts.{Parts}
use Rattle.spaces.specs.Cell.{dimension as cell_dimension}
use Rattle.spaces.specs.Nodes.{zeros}
use Rattle.monos.specs.declared.layout.Layout.{Layout}
use Rattle.monos.specs.Layout.{IsLawfulOn, IsPosition, position_parts}
use Rattle.refint.specs.Local.{position_part, position_value}
use Rattle.refint.specs.Vertices.{vertex_node, coordinate_part}

-- ---- the linear function of a vertex is its barycentric coordinate
none : (v : Simplex) (k n : ℕ) → vertex_factors 1 v k (zeros n) ≡ one
none v k zero = refl
none v k (suc n) = ap₂ times (vertex_factor_zero 1 (barycentric v k)) (none v (suc k) n) ∙ times-one one

here : (v : Simplex) (k n : ℕ) → vertex_factors 1 v k (1 ∷ zeros n) ≡ barycentric v k
here v k n = ap₂ times (vertex_factor_one (barycentric v k)) (none v (suc k) n) ∙ times-one (barycentric v k)

later : (v : Simplex) (k : ℕ) (ws : List ℕ) (p : Polynomial) → vertex_factors 1 v (suc k) ws ≡ p → vertex_factors 1 v k (0 ∷ ws) ≡ p
later v k ws p h = ap₂ times (vertex_factor_zero 1 (barycentric v k)) h ∙ L.one-mul polynomials p

volume_times : (v : Simplex) → is_zero_fraction (volume v) ≡ false → times (volume_in polynomials (constant_points v)) (constant (inverse (volume v))) ≡ one
volume_times v h =
    ap (λ x. times x (constant (inverse (volume v)))) (sym (volume_constant v)) ∙ sym (constant-mul (volume v) (inverse (volume v))) ∙ ap constant (mul_inverse (volume v) h) ∙ constant-one

area : (a b c e f g : Expr) → Expr
area a b c e f g = (c ⊖ a) ⊗ (g ⊖ b) ⊖ (f ⊖ a) ⊗ (e ⊖ b)

space : (a b c p q r u v w x y z : Expr) → Expr
space a b c p q r u v w x y z =
    ((p ⊖ a) ⊗ ((v ⊖ b) ⊗ (z ⊖ c) ⊖ (y ⊖ b) ⊗ (w ⊖ c)) ⊖ (u ⊖ a) ⊗ ((q ⊖ b) ⊗ (z ⊖ c) ⊖ (y ⊖ b) ⊗ (r ⊖ c)))
    ⊕ (x ⊖ a) ⊗ ((q ⊖ b) ⊗ (w ⊖ c) ⊖ (v ⊖ b) ⊗ (r ⊖ c))

-- ---- intervals
module _ (a b : Point Fraction) (h : is_zero_fraction (volume (a ∷ b ∷ [])) ≡ false) where
  line_ends : (p q : Polynomial)
      → plus (plus nil (times p (local_function (a ∷ b ∷ []) (1 ∷ 0 ∷ [])))) (times q (local_function (a ∷ b ∷ []) (0 ∷ 1 ∷ [])))
      ≡ plus (plus nil (times p (barycentric (a ∷ b ∷ []) 0))) (times q (barycentric (a ∷ b ∷ []) 1))
  unfolding local_function
  line_ends p q = ap₂ plus (ap (λ x. plus nil (times p x)) (here (a ∷ b ∷ []) 0 1)) (ap (times q) (later (a ∷ b ∷ []) 0 (1 ∷ []) _ (here (a ∷ b ∷ []) 1 0)))

  line_sum : plus (plus nil (times (κ a.x) (barycentric (a ∷ b ∷ []) 0))) (times (κ b.x) (barycentric (a ∷ b ∷ []) 1)) ≡ X
  unfolding barycentric
  line_sum =
      Solve.ring_from polynomials (κ a.x ∷ κ b.x ∷ constant (inverse (volume (a ∷ b ∷ []))) ∷ X ∷ [])
      ((num (pos 0) ⊕ at 0 ⊗ (at 2 ⊗ (at 1 ⊖ at 3))) ⊕ at 1 ⊗ (at 2 ⊗ (at 3 ⊖ at 0))) (at 3) (at 3)
      ((at 1 ⊖ at 0) ⊗ at 2) unity (volume_times (a ∷ b ∷ []) h) refl

-- ---- triangles
module _ (a b c : Point Fraction) (h : is_zero_fraction (volume (a ∷ b ∷ c ∷ [])) ≡ false) where
  abbrev v : Simplex
  v = a ∷ b ∷ c ∷ []

  plane_corners : (p q r : Polynomial)
      → plus (plus (plus nil (times p (local_function v (1 ∷ 0 ∷ 0 ∷ [])))) (times q (local_function v (0 ∷ 1 ∷ 0 ∷ [])))) (times r (local_function v (0 ∷ 0 ∷ 1 ∷ [])))
      ≡ plus (plus (plus nil (times p (barycentric v 0))) (times q (barycentric v 1))) (times r (barycentric v 2))
  unfolding local_function
  plane_corners p q r =
      ap₂ plus (ap₂ plus (ap (λ x. plus nil (times p x)) (here v 0 2)) (ap (times q) (later v 0 (1 ∷ 0 ∷ []) _ (here v 1 1))))
      (ap (times r) (later v 0 (0 ∷ 1 ∷ []) _ (later v 1 (1 ∷ []) _ (here v 2 0))))

  abbrev plane_atoms : List Polynomial
  plane_atoms = κ a.x ∷ κ a.y ∷ κ b.x ∷ κ b.y ∷ κ c.x ∷ κ c.y ∷ constant (inverse (volume v)) ∷ X ∷ Y ∷ []

  plane_whole : Expr
  plane_whole = area (at 0) (at 1) (at 2) (at 3) (at 4) (at 5) ⊗ at 6

  -- with these coordinates of the three corners
  plane_parts : (p q r : Expr) → Expr
  plane_parts p q r =
      ((num (pos 0) ⊕ p ⊗ (at 6 ⊗ area (at 7) (at 8) (at 2) (at 3) (at 4) (at 5))) ⊕ q ⊗ (at 6 ⊗ area (at 0) (at 1) (at 7) (at 8) (at 4) (at 5)))
      ⊕ r ⊗ (at 6 ⊗ area (at 0) (at 1) (at 2) (at 3) (at 7) (at 8))

  plane_first : plus (plus (plus nil (times (κ a.x) (barycentric v 0))) (times (κ b.x) (barycentric v 1))) (times (κ c.x) (barycentric v 2)) ≡ X
  unfolding barycentric area plane_whole plane_parts
  plane_first = Solve.ring_from polynomials plane_atoms (plane_parts (at 0) (at 2) (at 4)) (at 7) (at 7) plane_whole unity (volume_times v h) refl

  plane_second : plus (plus (plus nil (times (κ a.y) (barycentric v 0))) (times (κ b.y) (barycentric v 1))) (times (κ c.y) (barycentric v 2)) ≡ Y
  unfolding barycentric area plane_whole plane_parts
  plane_second = Solve.ring_from polynomials plane_atoms (plane_parts (at 1) (at 3) (at 5)) (at 8) (at 8) plane_whole unity (volume_times v h) refl

-- ---- tetrahedra
module _ (a b c e : Point Fraction) (h : is_zero_fraction (volume (a ∷ b ∷ c ∷ e ∷ [])) ≡ false) where
  abbrev w : Simplex
  w = a ∷ b ∷ c ∷ e ∷ []

  space_corners : (p q r s : Polynomial)
      → plus (plus (plus (plus nil (times p (local_function w (1 ∷ 0 ∷ 0 ∷ 0 ∷ [])))) (times q (local_function w (0 ∷ 1 ∷ 0 ∷ 0 ∷ []))))
      (times r (local_function w (0 ∷ 0 ∷ 1 ∷ 0 ∷ [])))) (times s (local_function w (0 ∷ 0 ∷ 0 ∷ 1 ∷ [])))
      ≡ plus (plus (plus (plus nil (times p (barycentric w 0))) (times q (barycentric w 1))) (times r (barycentric w 2))) (times s (barycentric w 3))
  unfolding local_function
  space_corners p q r s =
      ap₂ plus
      (ap₂ plus (ap₂ plus (ap (λ x. plus nil (times p x)) (here w 0 3)) (ap (times q) (later w 0 (1 ∷ 0 ∷ 0 ∷ []) _ (here w 1 2))))
      (ap (times r) (later w 0 (0 ∷ 1 ∷ 0 ∷ []) _ (later w 1 (1 ∷ 0 ∷ []) _ (here w 2 1)))))
      (ap (times s) (later w 0 (0 ∷ 0 ∷ 1 ∷ []) _ (later w 1 (0 ∷ 1 ∷ []) _ (later w 2 (1 ∷ []) _ (here w 3 0)))))

  abbrev space_atoms : List Polynomial
  space_atoms =
      κ a.x ∷ κ a.y ∷ κ a.z ∷ κ b.x ∷ κ b.y ∷ κ b.z ∷ κ c.x ∷ κ c.y ∷ κ c.z ∷ κ e.x ∷ κ e.y ∷ κ e.z ∷ constant (inverse (volume w)) ∷ X ∷ Y ∷ Z ∷ []

  space_whole : Expr
  space_whole = space (at 0) (at 1) (at 2) (at 3) (at 4) (at 5) (at 6) (at 7) (at 8) (at 9) (at 10) (at 11) ⊗ at 12

  space_parts : (p q r s : Expr) → Expr
  space_parts p q r s =
      (((num (pos 0) ⊕ p ⊗ (at 12 ⊗ space (at 13) (at 14) (at 15) (at 3) (at 4) (at 5) (at 6) (at 7) (at 8) (at 9) (at 10) (at 11)))
      ⊕ q ⊗ (at 12 ⊗ space (at 0) (at 1) (at 2) (at 13) (at 14) (at 15) (at 6) (at 7) (at 8) (at 9) (at 10) (at 11)))
      ⊕ r ⊗ (at 12 ⊗ space (at 0) (at 1) (at 2) (at 3) (at 4) (at 5) (at 13) (at 14) (at 15) (at 9) (at 10) (at 11)))
      ⊕ s ⊗ (at 12 ⊗ space (at 0) (at 1) (at 2) (at 3) (at 4) (at 5) (at 6) (at 7) (at 8) (at 13) (at 14) (at 15))

  abbrev corner_sum : (p q r s : Fraction) → Polynomial
  corner_sum p q r s = plus (plus (plus (plus nil (times (κ p) (barycentric w 0))) (times (κ q) (barycentric w 1))) (times (κ r) (barycentric w 2))) (times (κ s) (barycentric w 3))

  space_first : corner_sum a.x b.x c.x e.x ≡ X
  unfolding barycentric space space_whole space_parts
  space_first = Solve.ring_from polynomials space_atoms (space_parts (at 0) (at 3) (at 6) (at 9)) (at 13) (at 13) space_whole unity (volume_times w h) refl

  space_second : corner_sum a.y b.y c.y e.y ≡ Y
  unfolding barycentric space space_whole space_parts
  space_second = Solve.ring_from polynomials space_atoms (space_parts (at 1) (at 4) (at 7) (at 10)) (at 14) (at 14) space_whole unity (volume_times w h) refl

  space_third : corner_sum a.z b.z c.z e.z ≡ Z
  unfolding barycentric space space_whole space_parts
  space_third = Solve.ring_from polynomials space_atoms (space_parts (at 2) (at 5) (at 8) (at 11)) (at 15) (at 15) space_whole unity (volume_times w h) refl

pub coordinate_is : (v : Simplex) → IsCell v → is_zero_fraction (volume v) ≡ false → (i : ℕ) → i < dimension v → sum_below (suc (dimension v)) (coordinate_part v i) ≡ coordinate i
coordinate_is [] c h i k = absurd c
coordinate_is (a ∷ []) c h i k = absurd c
coordinate_is (a ∷ b ∷ []) c h zero k = line_ends a b h (κ a.x) (κ b.x) ∙ line_sum a b h
coordinate_is (a ∷ b ∷ []) c h (suc i) k = absurd (omega (arith, k))
coordinate_is (a ∷ b ∷ e ∷ []) c h zero k = plane_corners a b e h (κ a.x) (κ b.x) (κ e.x) ∙ plane_first a b e h
coordinate_is (a ∷ b ∷ e ∷ []) c h (suc zero) k = plane_corners a b e h (κ a.y) (κ b.y) (κ e.y) ∙ plane_second a b e h
coordinate_is (a ∷ b ∷ e ∷ []) c h (suc (suc i)) k = absurd (omega (arith, k))
coordinate_is (a ∷ b ∷ e ∷ f ∷ []) c h zero k = space_corners a b e f h (κ a.x) (κ b.x) (κ e.x) (κ f.x) ∙ space_first a b e f h
coordinate_is (a ∷ b ∷ e ∷ f ∷ []) c h (suc zero) k = space_corners a b e f h (κ a.y) (κ b.y) (κ e.y) (κ f.y) ∙ space_second a b e f h
coordinate_is (a ∷ b ∷ e ∷ f ∷ []) c h (suc (suc zero)) k = space_corners a b e f h (κ a.z) (κ b.z) (κ e.z) (κ f.z) ∙ space_third a b e f h
coordinate_is (a ∷ b ∷ e ∷ f ∷ []) c h (suc (suc (suc i))) k = absurd (omega (arith, k))
coordinate_is (a ∷ b ∷ e ∷ f ∷ g ∷ vs) c h i k = absurd c

-- ---- the position of a lawful layout
position_at : (c : Cell) (i : ℕ) → i < cell_dimension c → (v : Simplex)
    → position_value (cell_dimension c) v (position_part (Some (position_parts c)) i) i
    ≡ sum_below (suc (cell_dimension c)) (λ j. times (constant (along_axis i (vertex_at v j))) (local_function v (vertex_node (cell_dimension c) j)))
position_at Interval zero k v = refl
position_at Interval (suc i) k v = absurd (omega (arith, k))
position_at Triangle zero k v = refl
position_at Triangle (suc zero) k v = refl
position_at Triangle (suc (suc i)) k v = absurd (omega (arith, k))
position_at Tetrahedron zero k v = refl
position_at Tetrahedron (suc zero) k v = refl
position_at Tetrahedron (suc (suc zero)) k v = refl
position_at Tetrahedron (suc (suc (suc i))) k v = absurd (omega (arith, k))

pub position_is : (c : Cell) (l : Layout) → IsLawfulOn c l → (ps : Parts) → l.position ≡ Some ps → (v : Simplex) → IsCell v → dimension v ≡ l.d
    → is_zero_fraction (volume v) ≡ false → (i : ℕ) → i < l.d → position_value l.d v (position_part l.position i) i ≡ coordinate i
position_is c l h ps e v k g a i p =
    ap₂ (λ d o. position_value d v (position_part o i) i) h.dimension (e ∙ ap Some (subst (IsPosition c) e h.position))
    ∙ position_at c i (subst (λ n. i < n) h.dimension p) v
    ∙ ap (λ n. sum_below (suc n) (λ j. times (constant (along_axis i (vertex_at v j))) (local_function v (vertex_node n j)))) (sym (g ∙ h.dimension))
    ∙ coordinate_is v k a i (subst (λ n. i < n) (sym g) p)
