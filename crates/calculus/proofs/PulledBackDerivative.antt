-- A derivative after the affine map, by the derivatives on the reference cell
use Rattle.std.proofs.Common.{◌≡◌, ℕ, zero, suc, ◌+◌, ◌*◌, true, false, refl, sym, ◌∙◌, ap, ap₂, List, [], ◌∷◌, pos}
use Rattle.algebra.specs.RingLaws as L
use Rattle.algebra.specs.Solver.{Expr, at, num, ◌⊕◌, ◌⊗◌, ◌⊖◌, unity, minus as opposite}
use Rattle.algebra.specs.Sound as Solve
use Rattle.algebra.specs.Fraction.{Fraction, fractions, add, mul, inverse, mul_inverse, is_zero_fraction, negative as minus_fraction}
use Rattle.calculus.specs.Point.{Point}
use Rattle.calculus.specs.Powers.{delta}
use Rattle.calculus.specs.Polynomial.{Polynomial, nil, one, plus, times, negative, minus, constant, coordinate, derivative, composed, whole, polynomials, plus-nil, times_assoc, times_comm}
use Rattle.calculus.specs.Simplex.{Simplex, IsCell, dimension, volume, affine, image, edges, along_axis, is_less}
use Rattle.calculus.specs.Integral.{sum_below}
use Rattle.calculus.specs.Jacobian.{cofactor, inverse_jacobian}
use Rattle.calculus.proofs.PolynomialLaws.{constant-one, constant-zero, constant-add, constant-mul, constant-negative, derivative-plus, derivative-times, derivative-constant, derivative-coordinate, chain}
use Rattle.calculus.proofs.Barycentric.{volume_constant}
use Rattle.calculus.proofs.Linear.{sum_below-same, sum_below-scaled}

derivative-nil : (a : ℕ) → derivative a nil ≡ nil
derivative-nil a = ap (derivative a) (sym constant-zero) ∙ derivative-constant a fractions.zero

-- a variable times a constant
derivative-slope : (a k : ℕ) (c : Fraction) → derivative a (times (coordinate k) (constant c)) ≡ times (whole (delta k a)) (constant c)
derivative-slope a k c =
    derivative-times a (coordinate k) (constant c)
    ∙ ap₂ plus (ap (λ x. times x (constant c)) (derivative-coordinate a k)) (ap (times (coordinate k)) (derivative-constant a c) ∙ L.mul-zero polynomials (coordinate k))
    ∙ plus-nil _

-- the slopes of the edges in direction a, from variable k on
abbrev slopes : ℕ → ℕ → Point Fraction → ℕ → Simplex → Polynomial
slopes a i u k [] = nil
slopes a i u k (v ∷ vs) = plus (times (whole (delta k a)) (constant (add (along_axis i v) (minus_fraction (along_axis i u))))) (slopes a i u (suc k) vs)

derivative-edges : (a i : ℕ) (u : Point Fraction) (k : ℕ) (vs : Simplex) → derivative a (edges i u k vs) ≡ slopes a i u k vs
derivative-edges a i u k [] = derivative-nil a
derivative-edges a i u k (v ∷ vs) = derivative-plus a _ _ ∙ ap₂ plus (derivative-slope a k _) (derivative-edges a i u (suc k) vs)

derivative-image : (a i : ℕ) (u : Point Fraction) (vs : Simplex) → derivative a (image (u ∷ vs) i) ≡ slopes a i u 0 vs
derivative-image a i u vs = derivative-plus a _ _ ∙ ap₂ plus (derivative-constant a _) (derivative-edges a i u 0 vs) ∙ L.zero-add polynomials _

zeros_and_ones : (f : Polynomial → Polynomial → Polynomial) → f (whole 0) (whole 1) ≡ f nil one
zeros_and_ones f = ap₂ f constant-zero (ap constant (fractions.add_zero fractions.one) ∙ constant-one)

abbrev κ : Fraction → Polynomial
κ a = constant a

-- a constant difference, and a minor, spelt out
less : (a b : Fraction) → κ (add b (minus_fraction a)) ≡ minus (κ b) (κ a)
less a b = constant-add b (minus_fraction a) ∙ ap (plus (κ b)) (constant-negative a)

minor : (a b c e : Fraction) {p q r s : Polynomial} → κ a ≡ p → κ b ≡ q → κ c ≡ r → κ e ≡ s → κ (add (mul a b) (minus_fraction (mul c e))) ≡ minus (times p q) (times r s)
minor a b c e ha hb hc he = less (mul c e) (mul a b) ∙ ap₂ (λ x y. minus x y) (constant-mul a b ∙ ap₂ times ha hb) (constant-mul c e ∙ ap₂ times hc he)

-- ---- intervals
line_slope : (u w : Point Fraction) → derivative 0 (affine (u ∷ w ∷ []) 0) ≡ minus (κ w.x) (κ u.x)
unfolding affine
line_slope u w =
    derivative-image 0 0 u (w ∷ [])
    ∙ zeros_and_ones (λ o e. plus (times e (κ (add w.x (minus_fraction u.x)))) nil)
    ∙ ap (λ x. plus (times one x) nil) (less u.x w.x)
    ∙ Solve.ring polynomials (κ u.x ∷ κ w.x ∷ []) (unity ⊗ (at 1 ⊖ at 0) ⊕ num (pos 0)) (at 1 ⊖ at 0) refl

-- ---- triangles
plane_slope : (i a : ℕ) (u v w : Point Fraction) (x : Polynomial)
    → plus (times (whole (delta 0 a)) (minus (κ (along_axis i v)) (κ (along_axis i u)))) (plus (times (whole (delta 1 a)) (minus (κ (along_axis i w)) (κ (along_axis i u)))) nil) ≡ x
    → derivative a (image (u ∷ v ∷ w ∷ []) i) ≡ x
plane_slope i a u v w x h =
    derivative-image a i u (v ∷ w ∷ [])
    ∙ ap₂ (λ y z. plus (times (whole (delta 0 a)) y) (plus (times (whole (delta 1 a)) z) nil)) (less _ _) (less _ _)
    ∙ h

first_of_two : (p q : Polynomial) → plus (times (whole 1) p) (plus (times (whole 0) q) nil) ≡ p
first_of_two p q = zeros_and_ones (λ o e. plus (times e p) (plus (times o q) nil)) ∙ Solve.ring polynomials (p ∷ q ∷ []) (unity ⊗ at 0 ⊕ (num (pos 0) ⊗ at 1 ⊕ num (pos 0))) (at 0) refl

second_of_two : (p q : Polynomial) → plus (times (whole 0) p) (plus (times (whole 1) q) nil) ≡ q
second_of_two p q = zeros_and_ones (λ o e. plus (times o p) (plus (times e q) nil)) ∙ Solve.ring polynomials (p ∷ q ∷ []) (num (pos 0) ⊗ at 0 ⊕ (unity ⊗ at 1 ⊕ num (pos 0))) (at 1) refl

-- ---- the chain rule for an affine map
still : (a k : ℕ) → delta k a ≡ 0 → derivative a (coordinate k) ≡ nil
still a k h = derivative-coordinate a k ∙ ap whole h ∙ constant-zero

mapped : (s : ℕ → Polynomial) (a : ℕ) (x y z : Polynomial) → derivative a (s 0) ≡ x → derivative a (s 1) ≡ y → derivative a (s 2) ≡ z
    → ((i : ℕ) → derivative a (s (suc (suc (suc i)))) ≡ nil) → (p : Polynomial)
    → derivative a (composed s p) ≡ plus (times (composed s (derivative 0 p)) x) (plus (times (composed s (derivative 1 p)) y) (times (composed s (derivative 2 p)) z))
mapped s a x y z hx hy hz h p =
    chain s a h p
    ∙ ap₂ plus (ap (times (composed s (derivative 0 p))) hx) (ap₂ plus (ap (times (composed s (derivative 1 p))) hy) (ap (times (composed s (derivative 2 p))) hz))

-- the derivative in direction i after the map, times the volume factor
abbrev Scaled : Simplex → ℕ → Polynomial → Type 0
Scaled v i p = times (constant (volume v)) (composed (affine v) (derivative i p)) ≡ sum_below (dimension v) (λ a. times (constant (cofactor v i a)) (derivative a (composed (affine v) p)))

line_scaled : (u w : Point Fraction) (p : Polynomial) → Scaled (u ∷ w ∷ []) 0 p
unfolding cofactor
line_scaled u w p =
    ap (λ x. times x (composed (affine (u ∷ w ∷ [])) (derivative 0 p))) (volume_constant (u ∷ w ∷ []))
    ∙ Solve.ring polynomials (κ u.x ∷ κ w.x ∷ composed (affine (u ∷ w ∷ [])) (derivative 0 p) ∷ composed (affine (u ∷ w ∷ [])) (derivative 1 p) ∷ composed (affine (u ∷ w ∷ [])) (derivative 2 p) ∷ [])
    ((at 1 ⊖ at 0) ⊗ at 2) (num (pos 0) ⊕ unity ⊗ (at 2 ⊗ (at 1 ⊖ at 0) ⊕ (at 3 ⊗ num (pos 0) ⊕ at 4 ⊗ num (pos 0)))) refl
    ∙ ap₂ (λ x y. plus nil (times x y)) (sym constant-one)
    (sym (mapped (affine (u ∷ w ∷ [])) 0 _ nil nil (line_slope u w) (unfold affine in still 0 1 refl) (unfold affine in still 0 2 refl) (λ i. unfold affine in still 0 (suc (suc (suc i))) refl) p))

module _ (u v w : Point Fraction) (p : Polynomial) where
  abbrev s₂ : ℕ → Polynomial
  s₂ = affine (u ∷ v ∷ w ∷ [])

  abbrev plane_atoms : List Polynomial
  plane_atoms = κ u.x ∷ κ u.y ∷ κ v.x ∷ κ v.y ∷ κ w.x ∷ κ w.y ∷ composed s₂ (derivative 0 p) ∷ composed s₂ (derivative 1 p) ∷ composed s₂ (derivative 2 p) ∷ []

  plane_first : derivative 0 (composed s₂ p)
      ≡ plus (times (composed s₂ (derivative 0 p)) (minus (κ v.x) (κ u.x))) (plus (times (composed s₂ (derivative 1 p)) (minus (κ v.y) (κ u.y))) (times (composed s₂ (derivative 2 p)) nil))
  unfolding affine
  plane_first =
      mapped s₂ 0 _ _ nil (plane_slope 0 0 u v w _ (first_of_two _ _)) (plane_slope 1 0 u v w _ (first_of_two _ _)) (still 0 2 refl) (λ i. still 0 (suc (suc (suc i))) refl) p

  plane_second : derivative 1 (composed s₂ p)
      ≡ plus (times (composed s₂ (derivative 0 p)) (minus (κ w.x) (κ u.x))) (plus (times (composed s₂ (derivative 1 p)) (minus (κ w.y) (κ u.y))) (times (composed s₂ (derivative 2 p)) nil))
  unfolding affine
  plane_second =
      mapped s₂ 1 _ _ nil (plane_slope 0 1 u v w _ (second_of_two _ _)) (plane_slope 1 1 u v w _ (second_of_two _ _)) (still 1 2 refl) (λ i. still 1 (suc (suc (suc i))) refl) p

  by_first : Expr
  by_first = at 6 ⊗ (at 2 ⊖ at 0) ⊕ (at 7 ⊗ (at 3 ⊖ at 1) ⊕ at 8 ⊗ num (pos 0))

  by_second : Expr
  by_second = at 6 ⊗ (at 4 ⊖ at 0) ⊕ (at 7 ⊗ (at 5 ⊖ at 1) ⊕ at 8 ⊗ num (pos 0))

  area : Expr
  area = (at 2 ⊖ at 0) ⊗ (at 5 ⊖ at 1) ⊖ (at 4 ⊖ at 0) ⊗ (at 3 ⊖ at 1)

  plane_sum : {c₀ c₁ x y : Polynomial} → c₀ ≡ x → c₁ ≡ y
      → plus (plus nil (times x (plus (times (composed s₂ (derivative 0 p)) (minus (κ v.x) (κ u.x))) (plus (times (composed s₂ (derivative 1 p)) (minus (κ v.y) (κ u.y))) (times (composed s₂ (derivative 2 p)) nil)))))
      (times y (plus (times (composed s₂ (derivative 0 p)) (minus (κ w.x) (κ u.x))) (plus (times (composed s₂ (derivative 1 p)) (minus (κ w.y) (κ u.y))) (times (composed s₂ (derivative 2 p)) nil))))
      ≡ plus (plus nil (times c₀ (derivative 0 (composed s₂ p)))) (times c₁ (derivative 1 (composed s₂ p)))
  plane_sum hx hy = sym (ap₂ (λ f g. plus (plus nil f) g) (ap₂ times hx plane_first) (ap₂ times hy plane_second))

  plane_scaled_first : Scaled (u ∷ v ∷ w ∷ []) 0 p
  unfolding cofactor by_first by_second area
  plane_scaled_first =
      ap (λ x. times x (composed s₂ (derivative 0 p))) (volume_constant (u ∷ v ∷ w ∷ []))
      ∙ Solve.ring polynomials plane_atoms (area ⊗ at 6) ((num (pos 0) ⊕ (at 5 ⊖ at 1) ⊗ by_first) ⊕ opposite (at 3 ⊖ at 1) ⊗ by_second) refl
      ∙ plane_sum (less u.y w.y) (constant-negative _ ∙ ap negative (less u.y v.y))

  plane_scaled_second : Scaled (u ∷ v ∷ w ∷ []) 1 p
  unfolding cofactor by_first by_second area
  plane_scaled_second =
      ap (λ x. times x (composed s₂ (derivative 1 p))) (volume_constant (u ∷ v ∷ w ∷ []))
      ∙ Solve.ring polynomials plane_atoms (area ⊗ at 7) ((num (pos 0) ⊕ opposite (at 4 ⊖ at 0) ⊗ by_first) ⊕ (at 2 ⊖ at 0) ⊗ by_second) refl
      ∙ plane_sum (constant-negative _ ∙ ap negative (less u.x w.x)) (less u.x v.x)

-- ---- tetrahedra
abbrev three : Polynomial → Polynomial → Polynomial → ℕ → Polynomial
three p q r a = plus (times (whole (delta 0 a)) p) (plus (times (whole (delta 1 a)) q) (plus (times (whole (delta 2 a)) r) nil))

three_first : (p q r : Polynomial) → three p q r 0 ≡ p
three_first p q r =
    zeros_and_ones (λ o e. plus (times e p) (plus (times o q) (plus (times o r) nil)))
    ∙ Solve.ring polynomials (p ∷ q ∷ r ∷ []) (unity ⊗ at 0 ⊕ (num (pos 0) ⊗ at 1 ⊕ (num (pos 0) ⊗ at 2 ⊕ num (pos 0)))) (at 0) refl

three_second : (p q r : Polynomial) → three p q r 1 ≡ q
three_second p q r =
    zeros_and_ones (λ o e. plus (times o p) (plus (times e q) (plus (times o r) nil)))
    ∙ Solve.ring polynomials (p ∷ q ∷ r ∷ []) (num (pos 0) ⊗ at 0 ⊕ (unity ⊗ at 1 ⊕ (num (pos 0) ⊗ at 2 ⊕ num (pos 0)))) (at 1) refl

three_third : (p q r : Polynomial) → three p q r 2 ≡ r
three_third p q r =
    zeros_and_ones (λ o e. plus (times o p) (plus (times o q) (plus (times e r) nil)))
    ∙ Solve.ring polynomials (p ∷ q ∷ r ∷ []) (num (pos 0) ⊗ at 0 ⊕ (num (pos 0) ⊗ at 1 ⊕ (unity ⊗ at 2 ⊕ num (pos 0)))) (at 2) refl

space_slope : (i a : ℕ) (u v w t : Point Fraction) (x : Polynomial)
    → three (minus (κ (along_axis i v)) (κ (along_axis i u))) (minus (κ (along_axis i w)) (κ (along_axis i u))) (minus (κ (along_axis i t)) (κ (along_axis i u))) a ≡ x
    → derivative a (image (u ∷ v ∷ w ∷ t ∷ []) i) ≡ x
space_slope i a u v w t x h =
    derivative-image a i u (v ∷ w ∷ t ∷ [])
    ∙ ap₂ (λ y z. plus (times (whole (delta 0 a)) y) z) (less _ _) (ap₂ (λ y z. plus (times (whole (delta 1 a)) y) (plus (times (whole (delta 2 a)) z) nil)) (less _ _) (less _ _))
    ∙ h

module _ (u v w t : Point Fraction) (p : Polynomial) where
  abbrev s₃ : ℕ → Polynomial
  s₃ = affine (u ∷ v ∷ w ∷ t ∷ [])

  abbrev along : Point Fraction → Polynomial
  along e =
      plus (times (composed s₃ (derivative 0 p)) (minus (κ e.x) (κ u.x)))
      (plus (times (composed s₃ (derivative 1 p)) (minus (κ e.y) (κ u.y))) (times (composed s₃ (derivative 2 p)) (minus (κ e.z) (κ u.z))))

  space_first : derivative 0 (composed s₃ p) ≡ along v
  unfolding affine
  space_first =
      mapped s₃ 0 _ _ _ (space_slope 0 0 u v w t _ (three_first _ _ _)) (space_slope 1 0 u v w t _ (three_first _ _ _)) (space_slope 2 0 u v w t _ (three_first _ _ _))
      (λ i. still 0 (suc (suc (suc i))) refl) p

  space_second : derivative 1 (composed s₃ p) ≡ along w
  unfolding affine
  space_second =
      mapped s₃ 1 _ _ _ (space_slope 0 1 u v w t _ (three_second _ _ _)) (space_slope 1 1 u v w t _ (three_second _ _ _)) (space_slope 2 1 u v w t _ (three_second _ _ _))
      (λ i. still 1 (suc (suc (suc i))) refl) p

  space_third : derivative 2 (composed s₃ p) ≡ along t
  unfolding affine
  space_third =
      mapped s₃ 2 _ _ _ (space_slope 0 2 u v w t _ (three_third _ _ _)) (space_slope 1 2 u v w t _ (three_third _ _ _)) (space_slope 2 2 u v w t _ (three_third _ _ _))
      (λ i. still 2 (suc (suc (suc i))) refl) p

  abbrev space_atoms : List Polynomial
  space_atoms =
      κ u.x ∷ κ u.y ∷ κ u.z ∷ κ v.x ∷ κ v.y ∷ κ v.z ∷ κ w.x ∷ κ w.y ∷ κ w.z ∷ κ t.x ∷ κ t.y ∷ κ t.z
      ∷ composed s₃ (derivative 0 p) ∷ composed s₃ (derivative 1 p) ∷ composed s₃ (derivative 2 p) ∷ []

  -- entry i of column a of the Jacobian, and its minors
  entry : ℕ → ℕ → Expr
  entry i a = at (3 * suc a + i) ⊖ at i

  minor_at : (i a j b : ℕ) → Expr
  minor_at i a j b = entry i a ⊗ entry j b ⊖ entry i b ⊗ entry j a

  volume_form : Expr
  volume_form = (entry 0 0 ⊗ (entry 1 1 ⊗ entry 2 2 ⊖ entry 1 2 ⊗ entry 2 1) ⊖ entry 0 1 ⊗ (entry 1 0 ⊗ entry 2 2 ⊖ entry 1 2 ⊗ entry 2 0)) ⊕ entry 0 2 ⊗ (entry 1 0 ⊗ entry 2 1 ⊖ entry 1 1 ⊗ entry 2 0)

  column : ℕ → Expr
  column a = at 12 ⊗ entry 0 a ⊕ (at 13 ⊗ entry 1 a ⊕ at 14 ⊗ entry 2 a)

  space_sum : {c₀ c₁ c₂ x y z : Polynomial} → c₀ ≡ x → c₁ ≡ y → c₂ ≡ z
      → plus (plus (plus nil (times x (along v))) (times y (along w))) (times z (along t))
      ≡ plus (plus (plus nil (times c₀ (derivative 0 (composed s₃ p)))) (times c₁ (derivative 1 (composed s₃ p)))) (times c₂ (derivative 2 (composed s₃ p)))
  space_sum hx hy hz = sym (ap₂ (λ f g. plus f g) (ap₂ (λ f g. plus (plus nil f) g) (ap₂ times hx space_first) (ap₂ times hy space_second)) (ap₂ times hz space_third))

  space_scaled_first : Scaled (u ∷ v ∷ w ∷ t ∷ []) 0 p
  unfolding cofactor entry minor_at volume_form column
  space_scaled_first =
      ap (λ x. times x (composed s₃ (derivative 0 p))) (volume_constant (u ∷ v ∷ w ∷ t ∷ []))
      ∙ Solve.ring polynomials space_atoms (volume_form ⊗ at 12)
      (((num (pos 0) ⊕ minor_at 1 1 2 2 ⊗ column 0) ⊕ minor_at 1 2 2 0 ⊗ column 1) ⊕ minor_at 1 0 2 1 ⊗ column 2) refl
      ∙ space_sum (minor _ _ _ _ (less _ _) (less _ _) (less _ _) (less _ _)) (minor _ _ _ _ (less _ _) (less _ _) (less _ _) (less _ _)) (minor _ _ _ _ (less _ _) (less _ _) (less _ _) (less _ _))

  space_scaled_second : Scaled (u ∷ v ∷ w ∷ t ∷ []) 1 p
  unfolding cofactor entry minor_at volume_form column
  space_scaled_second =
      ap (λ x. times x (composed s₃ (derivative 1 p))) (volume_constant (u ∷ v ∷ w ∷ t ∷ []))
      ∙ Solve.ring polynomials space_atoms (volume_form ⊗ at 13)
      (((num (pos 0) ⊕ minor_at 2 1 0 2 ⊗ column 0) ⊕ minor_at 2 2 0 0 ⊗ column 1) ⊕ minor_at 2 0 0 1 ⊗ column 2) refl
      ∙ space_sum (minor _ _ _ _ (less _ _) (less _ _) (less _ _) (less _ _)) (minor _ _ _ _ (less _ _) (less _ _) (less _ _) (less _ _)) (minor _ _ _ _ (less _ _) (less _ _) (less _ _) (less _ _))

  space_scaled_third : Scaled (u ∷ v ∷ w ∷ t ∷ []) 2 p
  unfolding cofactor entry minor_at volume_form column
  space_scaled_third =
      ap (λ x. times x (composed s₃ (derivative 2 p))) (volume_constant (u ∷ v ∷ w ∷ t ∷ []))
      ∙ Solve.ring polynomials space_atoms (volume_form ⊗ at 14)
      (((num (pos 0) ⊕ minor_at 0 1 1 2 ⊗ column 0) ⊕ minor_at 0 2 1 0 ⊗ column 1) ⊕ minor_at 0 0 1 1 ⊗ column 2) refl
      ∙ space_sum (minor _ _ _ _ (less _ _) (less _ _) (less _ _) (less _ _)) (minor _ _ _ _ (less _ _) (less _ _) (less _ _) (less _ _)) (minor _ _ _ _ (less _ _) (less _ _) (less _ _) (less _ _))

-- ---- any cell, in each of its directions
pub scaled_law : (v : Simplex) → IsCell v → (i : ℕ) → is_less i (dimension v) ≡ true → (p : Polynomial) → Scaled v i p
scaled_law [] c i h p = absurd c
scaled_law (u ∷ []) c i h p = absurd c
scaled_law (u ∷ v ∷ []) c zero h p = line_scaled u v p
scaled_law (u ∷ v ∷ []) c (suc i) h p = cc
scaled_law (u ∷ v ∷ w ∷ []) c zero h p = plane_scaled_first u v w p
scaled_law (u ∷ v ∷ w ∷ []) c (suc zero) h p = plane_scaled_second u v w p
scaled_law (u ∷ v ∷ w ∷ []) c (suc (suc i)) h p = cc
scaled_law (u ∷ v ∷ w ∷ t ∷ []) c zero h p = space_scaled_first u v w t p
scaled_law (u ∷ v ∷ w ∷ t ∷ []) c (suc zero) h p = space_scaled_second u v w t p
scaled_law (u ∷ v ∷ w ∷ t ∷ []) c (suc (suc zero)) h p = space_scaled_third u v w t p
scaled_law (u ∷ v ∷ w ∷ t ∷ []) c (suc (suc (suc i))) h p = cc
scaled_law (u ∷ v ∷ w ∷ t ∷ e ∷ vs) c i h p = absurd c

-- the derivative along axis i, after the map of a cell that is not flat
pub derivative_law : (v : Simplex) → IsCell v → is_zero_fraction (volume v) ≡ false → (i : ℕ) → is_less i (dimension v) ≡ true → (p : Polynomial)
    → composed (affine v) (derivative i p) ≡ sum_below (dimension v) (λ a. times (constant (inverse_jacobian v a i)) (derivative a (composed (affine v) p)))
unfolding inverse_jacobian
derivative_law v c apart i h p =
    Solve.ring_from polynomials (P ∷ constant (inverse (volume v)) ∷ constant (volume v) ∷ []) (at 0) (at 1 ⊗ (at 2 ⊗ at 0)) (opposite (at 0)) (at 2 ⊗ at 1) unity
    (sym (constant-mul (volume v) (inverse (volume v))) ∙ ap constant (mul_inverse (volume v) apart) ∙ constant-one) refl
    ∙ ap (times (constant (inverse (volume v)))) (scaled_law v c i h p)
    ∙ sym (sum_below-scaled (dimension v) (constant (inverse (volume v))) (λ a. times (constant (cofactor v i a)) (derivative a (composed (affine v) p))))
    ∙ sum_below-same (dimension v) _ _
    (λ a. sym (times_assoc _ _ _) ∙ ap (λ x. times x (derivative a (composed (affine v) p))) (times_comm _ _ ∙ sym (constant-mul (cofactor v i a) (inverse (volume v)))))
  where
    P : Polynomial
    P = composed (affine v) (derivative i p)
