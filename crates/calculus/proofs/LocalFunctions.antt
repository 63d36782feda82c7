-- Local functions: after the affine map they are those of the reference cell, and the linear ones are the barycentric coordinates
use Rattle.std.proofs.Common.{◌≡◌, ℕ, zero, suc, ◌+◌, false, refl, sym, ◌∙◌, ap, ap₂, List, [], ◌∷◌, pos, arith}
use Rattle.algebra.specs.Ring.{natural}
use Rattle.algebra.specs.RingLaws as L
use Rattle.algebra.specs.Solver.{at, num, ◌⊕◌, ◌⊗◌, ◌⊖◌, unity}
use Rattle.algebra.specs.Sound as Solve
use Rattle.algebra.specs.Fraction.{Fraction, fractions, zero_fraction, one_fraction, add, mul, add_zero, negative as minus_fraction, inverse, is_zero_fraction}
use Rattle.calculus.specs.Polynomial.{Polynomial, nil, one, plus, times, negative, minus, constant, coordinate, composed, whole, polynomials, times-one}
use Rattle.calculus.specs.Simplex.{Simplex, IsCell, dimension, volume, barycentric, reference, affine, origin, first_unit, second_unit, third_unit}
use Rattle.calculus.specs.Point.{Point}
use Rattle.calculus.specs.LocalFunction.{degree_of, falling, vertex_factor, vertex_factors, local_function}
use Rattle.calculus.proofs.PolynomialLaws.{constant-one, constant-zero, composed-plus, composed-times, composed-negative, composed-constant, composed-coordinate, composed-one, composed-same, polynomial_ind}
use Rattle.calculus.proofs.Barycentric.{basis_coordinate, basis_coordinate_of, on_plane, affine_line, affine_plane, affine_space, X, Y, Z}

-- ---- replacing the variables in a local function
composed-falling : (s : ℕ → Polynomial) (x : Polynomial) (a : ℕ) → composed s (falling x a) ≡ falling (composed s x) a
composed-falling s x zero = composed-one s
composed-falling s x (suc a) =
    composed-times s (falling x a) (minus x (whole a))
    ∙ ap₂ times (composed-falling s x a)
    (composed-plus s x _ ∙ ap (plus (composed s x)) (composed-negative s (whole a) ∙ ap negative (composed-constant s (natural fractions a))))

composed-vertex_factor : (s : ℕ → Polynomial) (q : ℕ) (b : Polynomial) (a : ℕ) → composed s (vertex_factor q b a) ≡ vertex_factor q (composed s b) a
composed-vertex_factor s q b a =
    composed-times s _ _
    ∙ ap₂ times (composed-constant s _)
    (composed-falling s (times (whole q) b) a
    ∙ ap (λ x. falling x a) (composed-times s (whole q) b ∙ ap (λ x. times x (composed s b)) (composed-constant s (natural fractions q))))

-- the product of the vertex factors of coordinates b 0, b 1, .. from number j on
abbrev pub factors_of : ℕ → (ℕ → Polynomial) → ℕ → List ℕ → Polynomial
factors_of q b j [] = one
factors_of q b j (a ∷ weights) = times (vertex_factor q (b j) a) (factors_of q b (suc j) weights)

composed-factors : (s : ℕ → Polynomial) (q : ℕ) (v : Simplex) (b : ℕ → Polynomial) → ((j : ℕ) → composed s (barycentric v j) ≡ b j) → (j : ℕ) (weights : List ℕ)
    → composed s (vertex_factors q v j weights) ≡ factors_of q b j weights
composed-factors s q v b h j [] = composed-one s
composed-factors s q v b h j (a ∷ weights) =
    composed-times s (vertex_factor q (barycentric v j) a) (vertex_factors q v (suc j) weights)
    ∙ ap₂ times (composed-vertex_factor s q (barycentric v j) a ∙ ap (λ x. vertex_factor q x a) (h j)) (composed-factors s q v b h (suc j) weights)

-- the function of a node on the reference cell of dimension d, by its coordinates
abbrev pub basis_function : ℕ → List ℕ → Polynomial
basis_function d weights = factors_of (degree_of weights) (basis_coordinate d) 0 weights

-- after the map, the local function of a nondegenerate cell is the basis function of the reference cell
pub basis_function_of : (v : Simplex) → IsCell v → is_zero_fraction (volume v) ≡ false → (weights : List ℕ) → composed (affine v) (local_function v weights) ≡ basis_function (dimension v) weights
unfolding local_function
basis_function_of v c h weights = composed-factors (affine v) (degree_of weights) v (basis_coordinate (dimension v)) (basis_coordinate_of v c h) 0 weights

-- ---- the reference cell is its own
composed_itself : (p : Polynomial) → composed (λ i. coordinate i) p ≡ p
composed_itself =
    polynomial_ind (λ p. composed (λ i. coordinate i) p ≡ p) (λ p. polynomials.is_set _ _)
    (composed-constant (λ i. coordinate i)) (composed-coordinate (λ i. coordinate i))
    (λ p q hp hq. composed-plus (λ i. coordinate i) p q ∙ ap₂ plus hp hq) (λ p q hp hq. composed-times (λ i. coordinate i) p q ∙ ap₂ times hp hq)

zeros_and_ones : (f : Polynomial → Polynomial → Polynomial) → f (constant zero_fraction) (constant one_fraction) ≡ f nil one
zeros_and_ones f = ap₂ f constant-zero constant-one

reference_line : (i : ℕ) → affine (reference 1) i ≡ coordinate i
reference_line zero =
    affine_line origin first_unit
    ∙ zeros_and_ones (λ o e. plus o (plus (times X (minus e o)) nil))
    ∙ Solve.ring polynomials (X ∷ []) (num (pos 0) ⊕ (at 0 ⊗ (unity ⊖ num (pos 0)) ⊕ num (pos 0))) (at 0) refl
reference_line (suc i) = unfold affine in refl

-- the three coordinates that can be on the reference triangle, and in the reference tetrahedron
plane_first : on_plane zero_fraction one_fraction zero_fraction ≡ X
plane_first =
    zeros_and_ones (λ o e. plus o (plus (times X (minus e o)) (plus (times Y (minus o o)) nil)))
    ∙ Solve.ring polynomials (X ∷ Y ∷ []) (num (pos 0) ⊕ (at 0 ⊗ (unity ⊖ num (pos 0)) ⊕ (at 1 ⊗ (num (pos 0) ⊖ num (pos 0)) ⊕ num (pos 0)))) (at 0) refl

plane_second : on_plane zero_fraction zero_fraction one_fraction ≡ Y
plane_second =
    zeros_and_ones (λ o e. plus o (plus (times X (minus o o)) (plus (times Y (minus e o)) nil)))
    ∙ Solve.ring polynomials (X ∷ Y ∷ []) (num (pos 0) ⊕ (at 0 ⊗ (num (pos 0) ⊖ num (pos 0)) ⊕ (at 1 ⊗ (unity ⊖ num (pos 0)) ⊕ num (pos 0)))) (at 1) refl

reference_plane : (i : ℕ) → affine (reference 2) i ≡ coordinate i
reference_plane zero = ap (λ p. p.x) (affine_plane origin first_unit second_unit) ∙ plane_first
reference_plane (suc zero) = ap (λ p. p.y) (affine_plane origin first_unit second_unit) ∙ plane_second
reference_plane (suc (suc i)) = unfold affine in refl

reference_space : (i : ℕ) → affine (reference 3) i ≡ coordinate i
reference_space zero =
    ap (λ p. p.x) (affine_space origin first_unit second_unit third_unit)
    ∙ zeros_and_ones (λ o e. plus o (plus (times X (minus e o)) (plus (times Y (minus o o)) (plus (times Z (minus o o)) nil))))
    ∙ Solve.ring polynomials (X ∷ Y ∷ Z ∷ [])
    (num (pos 0) ⊕ (at 0 ⊗ (unity ⊖ num (pos 0)) ⊕ (at 1 ⊗ (num (pos 0) ⊖ num (pos 0)) ⊕ (at 2 ⊗ (num (pos 0) ⊖ num (pos 0)) ⊕ num (pos 0))))) (at 0) refl
reference_space (suc zero) =
    ap (λ p. p.y) (affine_space origin first_unit second_unit third_unit)
    ∙ zeros_and_ones (λ o e. plus o (plus (times X (minus o o)) (plus (times Y (minus e o)) (plus (times Z (minus o o)) nil))))
    ∙ Solve.ring polynomials (X ∷ Y ∷ Z ∷ [])
    (num (pos 0) ⊕ (at 0 ⊗ (num (pos 0) ⊖ num (pos 0)) ⊕ (at 1 ⊗ (unity ⊖ num (pos 0)) ⊕ (at 2 ⊗ (num (pos 0) ⊖ num (pos 0)) ⊕ num (pos 0))))) (at 1) refl
reference_space (suc (suc zero)) =
    ap (λ p. p.z) (affine_space origin first_unit second_unit third_unit)
    ∙ zeros_and_ones (λ o e. plus o (plus (times X (minus o o)) (plus (times Y (minus o o)) (plus (times Z (minus e o)) nil))))
    ∙ Solve.ring polynomials (X ∷ Y ∷ Z ∷ [])
    (num (pos 0) ⊕ (at 0 ⊗ (num (pos 0) ⊖ num (pos 0)) ⊕ (at 1 ⊗ (num (pos 0) ⊖ num (pos 0)) ⊕ (at 2 ⊗ (unity ⊖ num (pos 0)) ⊕ num (pos 0))))) (at 2) refl
reference_space (suc (suc (suc i))) = unfold affine in refl

-- the reference cells are lawful, and their volume factor is 1
pub reference_is_cell : (d : ℕ) → IsCell (reference (suc d))
reference_is_cell zero = tt
reference_is_cell (suc zero) = tt
reference_is_cell (suc (suc d)) = tt

pub reference_is_not_flat : (d : ℕ) → is_zero_fraction (volume (reference (suc d))) ≡ false
reference_is_not_flat zero = unfold volume is_zero_fraction add mul minus_fraction zero_fraction one_fraction in refl
reference_is_not_flat (suc zero) = unfold volume is_zero_fraction add mul minus_fraction zero_fraction one_fraction in refl
reference_is_not_flat (suc (suc d)) = unfold volume is_zero_fraction add mul minus_fraction zero_fraction one_fraction in refl

pub reference_itself : (d : ℕ) (p : Polynomial) → composed (affine (reference (suc d))) p ≡ p
reference_itself zero p = composed-same (affine (reference 1)) (λ i. coordinate i) reference_line p ∙ composed_itself p
reference_itself (suc zero) p = composed-same (affine (reference 2)) (λ i. coordinate i) reference_plane p ∙ composed_itself p
reference_itself (suc (suc d)) p = composed-same (affine (reference 3)) (λ i. coordinate i) reference_space p ∙ composed_itself p

-- its local functions are the basis functions
pub reference_function : (v : Simplex) → IsCell v → (weights : List ℕ) → local_function (reference (dimension v)) weights ≡ basis_function (dimension v) weights
reference_function [] c weights = absurd c
reference_function (a ∷ []) c weights = absurd c
reference_function (a ∷ b ∷ []) c weights = sym (reference_itself 0 _) ∙ basis_function_of (reference 1) tt (reference_is_not_flat 0) weights
reference_function (a ∷ b ∷ d ∷ []) c weights = sym (reference_itself 1 _) ∙ basis_function_of (reference 2) tt (reference_is_not_flat 1) weights
reference_function (a ∷ b ∷ d ∷ e ∷ []) c weights = sym (reference_itself 2 _) ∙ basis_function_of (reference 3) tt (reference_is_not_flat 2) weights
reference_function (a ∷ b ∷ d ∷ e ∷ f ∷ vs) c weights = absurd c

-- after the map, a local function is that of the same node on the reference cell
pub local_function_law : (v : Simplex) → IsCell v → is_zero_fraction (volume v) ≡ false → (weights : List ℕ)
    → composed (affine v) (local_function v weights) ≡ local_function (reference (dimension v)) weights
local_function_law v c h weights = basis_function_of v c h weights ∙ sym (reference_function v c weights)

-- ---- small weights
inverse_one : inverse one_fraction ≡ one_fraction
inverse_one = unfold inverse one_fraction in refl

-- 1/1 is 1
scale_one : constant (inverse (natural fractions 1)) ≡ one
scale_one = ap (λ x. constant (inverse x)) (add_zero one_fraction) ∙ ap constant inverse_one ∙ constant-one

pub vertex_factor_zero : (q : ℕ) (b : Polynomial) → vertex_factor q b 0 ≡ one
vertex_factor_zero q b = ap (λ x. times x one) scale_one ∙ times-one one

whole_one : whole 1 ≡ one
whole_one = ap constant (add_zero one_fraction) ∙ constant-one

pub vertex_factor_one : (b : Polynomial) → vertex_factor 1 b 1 ≡ b
vertex_factor_one b =
    ap₂ (λ x y. times x (times one (minus (times y b) (whole 0)))) scale_one whole_one
    ∙ ap (λ z. times one (times one (minus (times one b) z))) constant-zero
    ∙ Solve.ring polynomials (b ∷ []) (unity ⊗ (unity ⊗ (unity ⊗ at 0 ⊖ num (pos 0)))) (at 0) refl

-- for degree 0 the local function is 1
pub degree_zero : (v : Simplex) (weights : List ℕ) → degree_of weights ≡ 0 → local_function v weights ≡ one
unfolding local_function
degree_zero v weights h = go (degree_of weights) 0 weights h
  where
    go : (q j : ℕ) (ws : List ℕ) → degree_of ws ≡ 0 → vertex_factors q v j ws ≡ one
    go q j [] h = refl
    go q j (zero ∷ ws) h = ap₂ times (vertex_factor_zero q (barycentric v j)) (go q (suc j) ws (no_more (degree_of ws) h)) ∙ times-one one
      where
        no_more : (n : ℕ) → 0 + n ≡ 0 → n ≡ 0
        no_more n e = omega arith
    go q j (suc a ∷ ws) h = absurd (impossible a (degree_of ws) h)
      where
        impossible : (a n : ℕ) → suc a + n ≡ 0 → ⊥
        impossible a n e = omega arith

-- the linear functions of an interval
pub linear_first : (u w : Point Fraction) → local_function (u ∷ w ∷ []) (1 ∷ 0 ∷ []) ≡ barycentric (u ∷ w ∷ []) 0
unfolding local_function
linear_first u w =
    ap₂ times (vertex_factor_one (barycentric (u ∷ w ∷ []) 0)) (ap (λ x. times x one) (vertex_factor_zero 1 (barycentric (u ∷ w ∷ []) 1)) ∙ times-one one) ∙ times-one _

pub linear_second : (u w : Point Fraction) → local_function (u ∷ w ∷ []) (0 ∷ 1 ∷ []) ≡ barycentric (u ∷ w ∷ []) 1
unfolding local_function
linear_second u w =
    ap₂ times (vertex_factor_zero 1 (barycentric (u ∷ w ∷ []) 0)) (ap (λ x. times x one) (vertex_factor_one (barycentric (u ∷ w ∷ []) 1)) ∙ times-one _) ∙ L.one-mul polynomials _
