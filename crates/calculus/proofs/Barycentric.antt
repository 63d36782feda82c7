-- Barycentric coordinates after the affine map: those of the reference cell
use Rattle.std.proofs.Common.{◌≡◌, ℕ, zero, suc, ◌+◌, true, false, refl, sym, ◌∙◌, ap, ap₂, List, [], ◌∷◌, pos}
use Rattle.algebra.specs.Ring.{Ring}
use Rattle.algebra.specs.Solver.{Expr, at, num, ◌⊕◌, ◌⊗◌, ◌⊖◌, unity}
use Rattle.algebra.specs.Sound as Solve
use Rattle.algebra.specs.Fraction.{Fraction, fractions, add, inverse, mul_inverse, is_zero_fraction, negative as minus_fraction}
use Rattle.calculus.specs.Point.{Point}
use Rattle.calculus.specs.Polynomial.{Polynomial, nil, one, plus, times, negative, minus, constant, coordinate, composed, polynomials, times_comm}
use Rattle.calculus.specs.Simplex.{Simplex, IsCell, dimension, volume, volume_in, with_vertex, moving_point, constant_point, constant_points, barycentric, affine, is_less}
use Rattle.calculus.proofs.PolynomialLaws.{constant-add, constant-mul, constant-negative, constant-one, constant-zero, composed-one, composed-nil, composed-times, composed-plus, composed-negative, composed-constant, composed-coordinate}

-- ---- a map of rings takes volume factors to volume factors
module _ {R : Type 0} {S : Type 0} (K : Ring R) (V : Ring S) (f : R → S) (adds : (a b : R) → f (K.add a b) ≡ V.add (f a) (f b))
    (multiplies : (a b : R) → f (K.mul a b) ≡ V.mul (f a) (f b)) (negates : (a : R) → f (K.neg a) ≡ V.neg (f a)) (unit : f K.one ≡ V.one) (nought : f K.zero ≡ V.zero) where
  abbrev pub carried : Point R → Point S
  carried v = record { x = f v.x; y = f v.y; z = f v.z }

  less : (a b : R) → f (K.add a (K.neg b)) ≡ V.add (f a) (V.neg (f b))
  less a b = adds a (K.neg b) ∙ ap (V.add (f a)) (negates b)

  minor : (a b c e : R) {p q r s : S} → f a ≡ p → f b ≡ q → f c ≡ r → f e ≡ s → f (K.add (K.mul a b) (K.neg (K.mul c e))) ≡ V.add (V.mul p q) (V.neg (V.mul r s))
  minor a b c e ha hb hc he = less (K.mul a b) (K.mul c e) ∙ ap₂ (λ x y. V.add x (V.neg y)) (multiplies a b ∙ ap₂ V.mul ha hb) (multiplies c e ∙ ap₂ V.mul hc he)

  length-carried : (a b : Point R) → f (volume_in K (a ∷ b ∷ [])) ≡ volume_in V (carried a ∷ carried b ∷ [])
  length-carried a b = less b.x a.x

  area-carried : (a b c : Point R) → f (volume_in K (a ∷ b ∷ c ∷ [])) ≡ volume_in V (carried a ∷ carried b ∷ carried c ∷ [])
  area-carried a b c = minor _ _ _ _ (less b.x a.x) (less c.y a.y) (less c.x a.x) (less b.y a.y)

  tetrahedron-carried : (a b c e : Point R) → f (volume_in K (a ∷ b ∷ c ∷ e ∷ [])) ≡ volume_in V (carried a ∷ carried b ∷ carried c ∷ carried e ∷ [])
  tetrahedron-carried a b c e =
      adds _ _
      ∙ ap₂ V.add
      (minor _ _ _ _ (less b.x a.x) (minor _ _ _ _ (less c.y a.y) (less e.z a.z) (less e.y a.y) (less c.z a.z))
      (less c.x a.x) (minor _ _ _ _ (less b.y a.y) (less e.z a.z) (less e.y a.y) (less b.z a.z)))
      (multiplies _ _ ∙ ap₂ V.mul (less e.x a.x) (minor _ _ _ _ (less b.y a.y) (less c.z a.z) (less c.y a.y) (less b.z a.z)))

  abbrev pub all_carried : List (Point R) → List (Point S)
  all_carried [] = []
  all_carried (v ∷ vs) = carried v ∷ all_carried vs

  pub volume-carried : (v : List (Point R)) → f (volume_in K v) ≡ volume_in V (all_carried v)
  volume-carried [] = unit
  volume-carried (a ∷ []) = unit
  volume-carried (a ∷ b ∷ []) = length-carried a b
  volume-carried (a ∷ b ∷ c ∷ []) = area-carried a b c
  volume-carried (a ∷ b ∷ c ∷ e ∷ []) = tetrahedron-carried a b c e
  volume-carried (a ∷ b ∷ c ∷ e ∷ g ∷ vs) = nought

-- the volume factor as a polynomial
pub volume_constant : (v : Simplex) → constant (volume v) ≡ volume_in polynomials (constant_points v)
unfolding volume
volume_constant v = volume-carried fractions polynomials constant constant-add constant-mul constant-negative constant-one constant-zero v ∙ ap (volume_in polynomials) (go v)
  where
    go : (v : Simplex) → all_carried fractions polynomials constant constant-add constant-mul constant-negative constant-one constant-zero v ≡ constant_points v
    go [] = refl
    go (a ∷ vs) = ap (◌∷◌ (constant_point a)) (go vs)

volume_times : (v : Simplex) → is_zero_fraction (volume v) ≡ false → times (volume_in polynomials (constant_points v)) (constant (inverse (volume v))) ≡ one
volume_times v h =
    ap (λ x. times x (constant (inverse (volume v)))) (sym (volume_constant v)) ∙ sym (constant-mul (volume v) (inverse (volume v))) ∙ ap constant (mul_inverse (volume v) h) ∙ constant-one

-- ---- replacing the variables moves the point x
abbrev pub point : Polynomial → Polynomial → Polynomial → Point Polynomial
point p q r = record { x = p; y = q; z = r }

same_point : {p q r p' q' r' : Polynomial} → p ≡ p' → q ≡ q' → r ≡ r' → point p q r ≡ point p' q' r'
same_point {p} {q} {r} {p'} {q'} {r'} hp hq hr = ap (λ x. point x q r) hp ∙ ap₂ (λ y z. point p' y z) hq hr

module _ (s : ℕ → Polynomial) where
  abbrev moved : List (Point Polynomial) → List (Point Polynomial)
  moved v = all_carried polynomials polynomials (composed s) (composed-plus s) (composed-times s) (composed-negative s) (composed-one s) (composed-nil s) v

  moved_constants : (v : Simplex) → moved (constant_points v) ≡ constant_points v
  moved_constants [] = refl
  moved_constants (a ∷ vs) = ap₂ ◌∷◌ (same_point (composed-constant s a.x) (composed-constant s a.y) (composed-constant s a.z)) (moved_constants vs)

  moved_vertex : (j : ℕ) (v : Simplex) → moved (with_vertex moving_point j v) ≡ with_vertex (point (s 0) (s 1) (s 2)) j v
  moved_vertex j [] = refl
  moved_vertex zero (a ∷ vs) = ap₂ ◌∷◌ (same_point (composed-coordinate s 0) (composed-coordinate s 1) (composed-coordinate s 2)) (moved_constants vs)
  moved_vertex (suc j) (a ∷ vs) = ap₂ ◌∷◌ (same_point (composed-constant s a.x) (composed-constant s a.y) (composed-constant s a.z)) (moved_vertex j vs)

  pub composed-barycentric : (v : Simplex) (j : ℕ) → composed s (barycentric v j) ≡ times (constant (inverse (volume v))) (volume_in polynomials (with_vertex (point (s 0) (s 1) (s 2)) j v))
  unfolding barycentric
  composed-barycentric v j =
      composed-times s _ _
      ∙ ap₂ times (composed-constant s (inverse (volume v)))
      (volume-carried polynomials polynomials (composed s) (composed-plus s) (composed-times s) (composed-negative s) (composed-one s) (composed-nil s) (with_vertex moving_point j v)
      ∙ ap (volume_in polynomials) (moved_vertex j v))

-- ---- the coordinates of the affine map
abbrev pub κ : Fraction → Polynomial
κ a = constant a

abbrev pub X : Polynomial
X = coordinate 0

abbrev pub Y : Polynomial
Y = coordinate 1

abbrev pub Z : Polynomial
Z = coordinate 2

spread : (k : ℕ) (a b : Fraction) → times (coordinate k) (constant (add b (minus_fraction a))) ≡ times (coordinate k) (minus (κ b) (κ a))
spread k a b = ap (times (coordinate k)) (constant-add b (minus_fraction a) ∙ ap (plus (κ b)) (constant-negative a))

abbrev pub on_line : Fraction → Fraction → Polynomial
on_line a b = plus (κ a) (plus (times X (minus (κ b) (κ a))) nil)

abbrev pub on_plane : Fraction → Fraction → Fraction → Polynomial
on_plane a b c = plus (κ a) (plus (times X (minus (κ b) (κ a))) (plus (times Y (minus (κ c) (κ a))) nil))

abbrev pub in_space : Fraction → Fraction → Fraction → Fraction → Polynomial
in_space a b c e = plus (κ a) (plus (times X (minus (κ b) (κ a))) (plus (times Y (minus (κ c) (κ a))) (plus (times Z (minus (κ e) (κ a))) nil)))

line_image : (a b : Fraction) → plus (κ a) (plus (times X (constant (add b (minus_fraction a)))) nil) ≡ on_line a b
line_image a b = ap (λ x. plus (κ a) (plus x nil)) (spread 0 a b)

plane_image : (a b c : Fraction) → plus (κ a) (plus (times X (constant (add b (minus_fraction a)))) (plus (times Y (constant (add c (minus_fraction a)))) nil)) ≡ on_plane a b c
plane_image a b c = ap₂ (λ x y. plus (κ a) (plus x (plus y nil))) (spread 0 a b) (spread 1 a c)

space_image : (a b c e : Fraction)
    → plus (κ a) (plus (times X (constant (add b (minus_fraction a)))) (plus (times Y (constant (add c (minus_fraction a)))) (plus (times Z (constant (add e (minus_fraction a)))) nil))) ≡ in_space a b c e
space_image a b c e = ap₂ (λ x w. plus (κ a) (plus x w)) (spread 0 a b) (ap₂ (λ y z. plus y (plus z nil)) (spread 1 a c) (spread 2 a e))

pub affine_line : (a b : Point Fraction) → affine (a ∷ b ∷ []) 0 ≡ on_line a.x b.x
unfolding affine
affine_line a b = line_image a.x b.x

pub affine_plane : (a b c : Point Fraction) → point (affine (a ∷ b ∷ c ∷ []) 0) (affine (a ∷ b ∷ c ∷ []) 1) (affine (a ∷ b ∷ c ∷ []) 2) ≡ point (on_plane a.x b.x c.x) (on_plane a.y b.y c.y) Z
unfolding affine
affine_plane a b c = same_point (plane_image a.x b.x c.x) (plane_image a.y b.y c.y) refl

pub affine_space : (a b c e : Point Fraction)
    → point (affine (a ∷ b ∷ c ∷ e ∷ []) 0) (affine (a ∷ b ∷ c ∷ e ∷ []) 1) (affine (a ∷ b ∷ c ∷ e ∷ []) 2)
    ≡ point (in_space a.x b.x c.x e.x) (in_space a.y b.y c.y e.y) (in_space a.z b.z c.z e.z)
unfolding affine
affine_space a b c e = same_point (space_image a.x b.x c.x e.x) (space_image a.y b.y c.y e.y) (space_image a.z b.z c.z e.z)

-- ---- on the reference cell of dimension d: 1 minus the sum of the coordinates, and each coordinate (and 1 past the last vertex)
abbrev pub coordinate_sum : ℕ → Polynomial
coordinate_sum zero = nil
coordinate_sum (suc d) = plus (coordinate_sum d) (coordinate d)

abbrev pub basis_coordinate : ℕ → ℕ → Polynomial
basis_coordinate d zero = minus one (coordinate_sum d)
basis_coordinate d (suc k) = elim (is_less k d) [ true ↦ coordinate k | false ↦ one ]

area : (a b c e f g : Expr) → Expr
area a b c e f g = (c ⊖ a) ⊗ (g ⊖ b) ⊖ (f ⊖ a) ⊗ (e ⊖ b)

space : (a b c p q r u v w x y z : Expr) → Expr
space a b c p q r u v w x y z =
    ((p ⊖ a) ⊗ ((v ⊖ b) ⊗ (z ⊖ c) ⊖ (y ⊖ b) ⊗ (w ⊖ c)) ⊖ (u ⊖ a) ⊗ ((q ⊖ b) ⊗ (z ⊖ c) ⊖ (y ⊖ b) ⊗ (r ⊖ c)))
    ⊕ (x ⊖ a) ⊗ ((q ⊖ b) ⊗ (w ⊖ c) ⊖ (v ⊖ b) ⊗ (r ⊖ c))

-- past the last vertex
past : (s : ℕ → Polynomial) (v : Simplex) (j : ℕ) → is_zero_fraction (volume v) ≡ false → with_vertex (point (s 0) (s 1) (s 2)) j v ≡ constant_points v → composed s (barycentric v j) ≡ one
past s v j h e =
    composed-barycentric s v j
    ∙ ap (λ w. times (constant (inverse (volume v))) (volume_in polynomials w)) e
    ∙ times_comm (constant (inverse (volume v))) (volume_in polynomials (constant_points v))
    ∙ volume_times v h

line_case : (a b : Point Fraction) → is_zero_fraction (volume (a ∷ b ∷ [])) ≡ false → (j : ℕ) → composed (affine (a ∷ b ∷ [])) (barycentric (a ∷ b ∷ []) j) ≡ basis_coordinate 1 j
line_case a b h zero =
    composed-barycentric (affine (a ∷ b ∷ [])) (a ∷ b ∷ []) 0
    ∙ ap (λ p. times (constant (inverse (volume (a ∷ b ∷ [])))) (plus (κ b.x) (negative p))) (affine_line a b)
    ∙ Solve.ring_from polynomials (κ a.x ∷ κ b.x ∷ constant (inverse (volume (a ∷ b ∷ []))) ∷ X ∷ [])
    (at 2 ⊗ (at 1 ⊖ (at 0 ⊕ (at 3 ⊗ (at 1 ⊖ at 0) ⊕ num (pos 0))))) (unity ⊖ (num (pos 0) ⊕ at 3)) (unity ⊖ at 3) ((at 1 ⊖ at 0) ⊗ at 2) unity (volume_times (a ∷ b ∷ []) h) refl
line_case a b h (suc zero) =
    composed-barycentric (affine (a ∷ b ∷ [])) (a ∷ b ∷ []) 1
    ∙ ap (λ p. times (constant (inverse (volume (a ∷ b ∷ [])))) (plus p (negative (κ a.x)))) (affine_line a b)
    ∙ Solve.ring_from polynomials (κ a.x ∷ κ b.x ∷ constant (inverse (volume (a ∷ b ∷ []))) ∷ X ∷ [])
    (at 2 ⊗ ((at 0 ⊕ (at 3 ⊗ (at 1 ⊖ at 0) ⊕ num (pos 0))) ⊖ at 0)) (at 3) (at 3) ((at 1 ⊖ at 0) ⊗ at 2) unity (volume_times (a ∷ b ∷ []) h) refl
line_case a b h (suc (suc j)) = past (affine (a ∷ b ∷ [])) (a ∷ b ∷ []) (suc (suc j)) h refl

module _ (a b c : Point Fraction) (h : is_zero_fraction (volume (a ∷ b ∷ c ∷ [])) ≡ false) where
  abbrev plane_atoms : List Polynomial
  plane_atoms = κ a.x ∷ κ a.y ∷ κ b.x ∷ κ b.y ∷ κ c.x ∷ κ c.y ∷ constant (inverse (volume (a ∷ b ∷ c ∷ []))) ∷ X ∷ Y ∷ []

  px : Expr
  px = at 0 ⊕ (at 7 ⊗ (at 2 ⊖ at 0) ⊕ (at 8 ⊗ (at 4 ⊖ at 0) ⊕ num (pos 0)))

  py : Expr
  py = at 1 ⊕ (at 7 ⊗ (at 3 ⊖ at 1) ⊕ (at 8 ⊗ (at 5 ⊖ at 1) ⊕ num (pos 0)))

  plane_case : (j : ℕ) → composed (affine (a ∷ b ∷ c ∷ [])) (barycentric (a ∷ b ∷ c ∷ []) j) ≡ basis_coordinate 2 j
  unfolding area px py
  plane_case zero =
      composed-barycentric (affine (a ∷ b ∷ c ∷ [])) (a ∷ b ∷ c ∷ []) 0
      ∙ ap (λ p. times (constant (inverse (volume (a ∷ b ∷ c ∷ [])))) (volume_in polynomials (p ∷ constant_point b ∷ constant_point c ∷ []))) (affine_plane a b c)
      ∙ Solve.ring_from polynomials plane_atoms
      (at 6 ⊗ area px py (at 2) (at 3) (at 4) (at 5)) (unity ⊖ ((num (pos 0) ⊕ at 7) ⊕ at 8)) (unity ⊖ (at 7 ⊕ at 8))
      (area (at 0) (at 1) (at 2) (at 3) (at 4) (at 5) ⊗ at 6) unity (volume_times (a ∷ b ∷ c ∷ []) h) refl
  plane_case (suc zero) =
      composed-barycentric (affine (a ∷ b ∷ c ∷ [])) (a ∷ b ∷ c ∷ []) 1
      ∙ ap (λ p. times (constant (inverse (volume (a ∷ b ∷ c ∷ [])))) (volume_in polynomials (constant_point a ∷ p ∷ constant_point c ∷ []))) (affine_plane a b c)
      ∙ Solve.ring_from polynomials plane_atoms
      (at 6 ⊗ area (at 0) (at 1) px py (at 4) (at 5)) (at 7) (at 7)
      (area (at 0) (at 1) (at 2) (at 3) (at 4) (at 5) ⊗ at 6) unity (volume_times (a ∷ b ∷ c ∷ []) h) refl
  plane_case (suc (suc zero)) =
      composed-barycentric (affine (a ∷ b ∷ c ∷ [])) (a ∷ b ∷ c ∷ []) 2
      ∙ ap (λ p. times (constant (inverse (volume (a ∷ b ∷ c ∷ [])))) (volume_in polynomials (constant_point a ∷ constant_point b ∷ p ∷ []))) (affine_plane a b c)
      ∙ Solve.ring_from polynomials plane_atoms
      (at 6 ⊗ area (at 0) (at 1) (at 2) (at 3) px py) (at 8) (at 8)
      (area (at 0) (at 1) (at 2) (at 3) (at 4) (at 5) ⊗ at 6) unity (volume_times (a ∷ b ∷ c ∷ []) h) refl
  plane_case (suc (suc (suc j))) = past (affine (a ∷ b ∷ c ∷ [])) (a ∷ b ∷ c ∷ []) (suc (suc (suc j))) h refl

module _ (a b c e : Point Fraction) (h : is_zero_fraction (volume (a ∷ b ∷ c ∷ e ∷ [])) ≡ false) where
  abbrev space_atoms : List Polynomial
  space_atoms =
      κ a.x ∷ κ a.y ∷ κ a.z ∷ κ b.x ∷ κ b.y ∷ κ b.z ∷ κ c.x ∷ κ c.y ∷ κ c.z ∷ κ e.x ∷ κ e.y ∷ κ e.z
      ∷ constant (inverse (volume (a ∷ b ∷ c ∷ e ∷ []))) ∷ X ∷ Y ∷ Z ∷ []

  -- coordinate i of the moving point, for i of 0, 1 and 2
  moving : ℕ → Expr
  moving i = at i ⊕ (at 13 ⊗ (at (3 + i) ⊖ at i) ⊕ (at 14 ⊗ (at (6 + i) ⊖ at i) ⊕ (at 15 ⊗ (at (9 + i) ⊖ at i) ⊕ num (pos 0))))

  whole : Expr
  whole = space (at 0) (at 1) (at 2) (at 3) (at 4) (at 5) (at 6) (at 7) (at 8) (at 9) (at 10) (at 11) ⊗ at 12

  space_case : (j : ℕ) → composed (affine (a ∷ b ∷ c ∷ e ∷ [])) (barycentric (a ∷ b ∷ c ∷ e ∷ []) j) ≡ basis_coordinate 3 j
  unfolding space moving whole
  space_case zero =
      composed-barycentric (affine (a ∷ b ∷ c ∷ e ∷ [])) (a ∷ b ∷ c ∷ e ∷ []) 0
      ∙ ap (λ p. times (constant (inverse (volume (a ∷ b ∷ c ∷ e ∷ [])))) (volume_in polynomials (p ∷ constant_point b ∷ constant_point c ∷ constant_point e ∷ []))) (affine_space a b c e)
      ∙ Solve.ring_from polynomials space_atoms
      (at 12 ⊗ space (moving 0) (moving 1) (moving 2) (at 3) (at 4) (at 5) (at 6) (at 7) (at 8) (at 9) (at 10) (at 11))
      (unity ⊖ (((num (pos 0) ⊕ at 13) ⊕ at 14) ⊕ at 15)) (unity ⊖ (at 13 ⊕ at 14 ⊕ at 15)) whole unity (volume_times (a ∷ b ∷ c ∷ e ∷ []) h) refl
  space_case (suc zero) =
      composed-barycentric (affine (a ∷ b ∷ c ∷ e ∷ [])) (a ∷ b ∷ c ∷ e ∷ []) 1
      ∙ ap (λ p. times (constant (inverse (volume (a ∷ b ∷ c ∷ e ∷ [])))) (volume_in polynomials (constant_point a ∷ p ∷ constant_point c ∷ constant_point e ∷ []))) (affine_space a b c e)
      ∙ Solve.ring_from polynomials space_atoms
      (at 12 ⊗ space (at 0) (at 1) (at 2) (moving 0) (moving 1) (moving 2) (at 6) (at 7) (at 8) (at 9) (at 10) (at 11))
      (at 13) (at 13) whole unity (volume_times (a ∷ b ∷ c ∷ e ∷ []) h) refl
  space_case (suc (suc zero)) =
      composed-barycentric (affine (a ∷ b ∷ c ∷ e ∷ [])) (a ∷ b ∷ c ∷ e ∷ []) 2
      ∙ ap (λ p. times (constant (inverse (volume (a ∷ b ∷ c ∷ e ∷ [])))) (volume_in polynomials (constant_point a ∷ constant_point b ∷ p ∷ constant_point e ∷ []))) (affine_space a b c e)
      ∙ Solve.ring_from polynomials space_atoms
      (at 12 ⊗ space (at 0) (at 1) (at 2) (at 3) (at 4) (at 5) (moving 0) (moving 1) (moving 2) (at 9) (at 10) (at 11))
      (at 14) (at 14) whole unity (volume_times (a ∷ b ∷ c ∷ e ∷ []) h) refl
  space_case (suc (suc (suc zero))) =
      composed-barycentric (affine (a ∷ b ∷ c ∷ e ∷ [])) (a ∷ b ∷ c ∷ e ∷ []) 3
      ∙ ap (λ p. times (constant (inverse (volume (a ∷ b ∷ c ∷ e ∷ [])))) (volume_in polynomials (constant_point a ∷ constant_point b ∷ constant_point c ∷ p ∷ []))) (affine_space a b c e)
      ∙ Solve.ring_from polynomials space_atoms
      (at 12 ⊗ space (at 0) (at 1) (at 2) (at 3) (at 4) (at 5) (at 6) (at 7) (at 8) (moving 0) (moving 1) (moving 2))
      (at 15) (at 15) whole unity (volume_times (a ∷ b ∷ c ∷ e ∷ []) h) refl
  space_case (suc (suc (suc (suc j)))) = past (affine (a ∷ b ∷ c ∷ e ∷ [])) (a ∷ b ∷ c ∷ e ∷ []) (suc (suc (suc (suc j)))) h refl

-- after the map, coordinate j of a nondegenerate cell is that of the reference cell
pub basis_coordinate_of : (v : Simplex) → IsCell v → is_zero_fraction (volume v) ≡ false → (j : ℕ) → composed (affine v) (barycentric v j) ≡ basis_coordinate (dimension v) j
basis_coordinate_of [] c h j = absurd c
basis_coordinate_of (a ∷ []) c h j = absurd c
basis_coordinate_of (a ∷ b ∷ []) c h j = line_case a b h j
basis_coordinate_of (a ∷ b ∷ d ∷ []) c h j = plane_case a b d h j
basis_coordinate_of (a ∷ b ∷ d ∷ e ∷ []) c h j = space_case a b d e h j
basis_coordinate_of (a ∷ b ∷ d ∷ e ∷ f ∷ vs) c h j = absurd c
