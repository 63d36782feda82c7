-- The local function of a node is 1 at that node and 0 at the others of its degree
use Rattle.std.proofs.Common.{◌≡◌, ◌≢◌, ℕ, zero, suc, ◌+◌, ◌<◌, inl, inr, true, false, refl, subst, sym, ◌∙◌, ap, ap₂, List, [], ◌∷◌, arith, length}
use Rattle.algebra.specs.Ring.{natural}
use Rattle.algebra.specs.RingLaws as L
use Rattle.algebra.specs.IntegerMap.{natural-add}
use Rattle.algebra.specs.Solver.{at, ◌⊕◌, ◌⊗◌, ◌⊖◌, unity}
use Rattle.algebra.specs.Sound as Solve
use Rattle.algebra.specs.Fraction.{Fraction, fractions, zero_fraction, one_fraction, add, mul, mul_comm, mul_one, mul_add, inverse, mul_inverse, is_zero_fraction, negative as minus_fraction}
use Rattle.calculus.specs.Rational.{natural_apart}
use Rattle.calculus.specs.Polynomial.{Polynomial, one, times, coordinate, composed, value, whole}
use Rattle.calculus.specs.Simplex.{Simplex, IsCell, dimension, volume, affine, is_less}
use Rattle.calculus.specs.LocalFunction.{factorial, degree_of, falling, vertex_factor, local_function, weight_at, node_point, node_in}
use Rattle.calculus.proofs.PolynomialLaws.{value-plus, value-times, value-constant, value-coordinate, value-negative, constant-one, constant-zero, polynomial_ind, composed-plus, composed-times, composed-constant, composed-coordinate}
use Rattle.calculus.proofs.Barycentric.{basis_coordinate, coordinate_sum}
use Rattle.calculus.proofs.LocalFunctions.{factors_of, basis_function, basis_function_of}
use Rattle.calculus.proofs.FallingProducts as N
use Rattle.calculus.proofs.FallingProducts.{SomeBelow, same_or_below, falling_own, falling_below}
use Rattle.std.proofs.Math.Nat.{le_of_eq}
use native.Mathlib.Nat as M
use Prim.Native.Nat.{suc-le-suc}

value-one : (s : ℕ → Fraction) → value s one ≡ one_fraction
value-one s = ap (value s) (sym constant-one) ∙ value-constant s one_fraction

value-falling : (s : ℕ → Fraction) (x : Polynomial) (a : ℕ) → value s (falling x a) ≡ N.falling fractions (value s x) a
value-falling s x zero = value-one s
value-falling s x (suc a) =
    value-times s _ _ ∙ ap₂ mul (value-falling s x a) (value-plus s x _ ∙ ap (add (value s x)) (value-negative s (whole a) ∙ ap minus_fraction (value-constant s (natural fractions a))))

-- the factor of a vertex with weight a, where the point has the weight m there
factor_at : ℕ → ℕ → Fraction
factor_at a m = mul (inverse (natural fractions (factorial a))) (N.falling fractions (natural fractions m) a)

value-vertex_factor : (s : ℕ → Fraction) (q : ℕ) (b : Polynomial) (a m : ℕ) → mul (natural fractions q) (value s b) ≡ natural fractions m → value s (vertex_factor q b a) ≡ factor_at a m
unfolding factor_at
value-vertex_factor s q b a m h =
    value-times s _ _
    ∙ ap₂ mul (value-constant s _)
    (value-falling s (times (whole q) b) a
    ∙ ap (λ x. N.falling fractions x a) (value-times s (whole q) b ∙ ap (λ x. mul x (value s b)) (value-constant s (natural fractions q)) ∙ h))

pub factorial_positive : (a : ℕ) → 0 < factorial a
factorial_positive zero = M.zero-lt-suc 0
factorial_positive (suc a) = M.mul-pos (M.zero-lt-suc a) (factorial_positive a)

not_nought : (n : ℕ) → 0 < n → is_zero_fraction (natural fractions n) ≡ false
not_nought zero h = absurd (M.not-suc-le-zero h)
not_nought (suc n) h = natural_apart n

factor_own : (a : ℕ) → factor_at a a ≡ one_fraction
unfolding factor_at
factor_own a =
    ap (mul (inverse (natural fractions (factorial a)))) (falling_own fractions a)
    ∙ mul_comm _ _
    ∙ mul_inverse (natural fractions (factorial a)) (not_nought (factorial a) (factorial_positive a))

factor_below : (a m : ℕ) → m < a → factor_at a m ≡ zero_fraction
unfolding factor_at
factor_below a m h = ap (mul (inverse (natural fractions (factorial a)))) (falling_below fractions m a h) ∙ L.mul-zero fractions _

-- the product over the vertices of the weights of a node, at the weights of another
factors_at : List ℕ → List ℕ → Fraction
factors_at [] ms = one_fraction
factors_at (a ∷ as') [] = one_fraction
factors_at (a ∷ as') (m ∷ ms) = mul (factor_at a m) (factors_at as' ms)

factors_own : (ws : List ℕ) → factors_at ws ws ≡ one_fraction
unfolding factors_at
factors_own [] = refl
factors_own (a ∷ ws) = ap₂ mul (factor_own a) (factors_own ws) ∙ mul_one one_fraction

factors_other : (ws ms : List ℕ) → SomeBelow ws ms → factors_at ws ms ≡ zero_fraction
unfolding factors_at
factors_other [] ms h = absurd h
factors_other (a ∷ ws) [] h = absurd h
factors_other (a ∷ ws) (m ∷ ms) (inl h) = ap (λ x. mul x (factors_at ws ms)) (factor_below a m h) ∙ L.zero-mul fractions _
factors_other (a ∷ ws) (m ∷ ms) (inr h) = ap (mul (factor_at a m)) (factors_other ws ms h) ∙ L.mul-zero fractions _

one_on : (j k : ℕ) → suc j + k ≡ j + suc k
one_on j k = omega arith

-- at a point whose coordinate b j is the weight of vertex j over the degree
value-factors : (s : ℕ → Fraction) (q : ℕ) (b : ℕ → Polynomial) (j : ℕ) (ws ms : List ℕ) → length ws ≡ length ms
    → ((k : ℕ) → k < length ms → mul (natural fractions q) (value s (b (j + k))) ≡ natural fractions (weight_at ms k)) → value s (factors_of q b j ws) ≡ factors_at ws ms
unfolding factors_at
value-factors s q b j [] ms l h = value-one s
value-factors s q b j (a ∷ ws) [] l h = absurd (M.suc-ne-zero (length ws) l)
value-factors s q b j (a ∷ ws) (m ∷ ms) l h =
    value-times s _ _
    ∙ ap₂ mul (value-vertex_factor s q (b j) a m (ap (λ n. mul (natural fractions q) (value s (b n))) (sym (M.add-zero j)) ∙ h 0 (M.zero-lt-suc (length ms))))
    (value-factors s q b (suc j) ws ms (omega arith) (λ k less. ap (λ n. mul (natural fractions q) (value s (b n))) (one_on j k) ∙ h (suc k) (suc-le-suc less)))

-- ---- the reference cell
abbrev sum_first : ℕ → (ℕ → ℕ) → ℕ
sum_first zero f = 0
sum_first (suc n) f = sum_first n f + f n

sum_first-shift : (n : ℕ) (f : ℕ → ℕ) → sum_first (suc n) f ≡ f 0 + sum_first n (λ i. f (suc i))
sum_first-shift zero f = omega arith
sum_first-shift (suc n) f = let ih : sum_first n f + f n ≡ f 0 + sum_first n (λ i. f (suc i)) = sum_first-shift n f in omega arith

degree_is : (ms : List ℕ) → degree_of ms ≡ sum_first (length ms) (weight_at ms)
degree_is [] = refl
degree_is (a ∷ ms) = ap (λ n. a + n) (degree_is ms) ∙ sym (sum_first-shift (length ms) (weight_at (a ∷ ms)))

is_less_where : (i d : ℕ) → i < d → is_less i d ≡ true
is_less_where i zero h = absurd (M.not-suc-le-zero h)
is_less_where zero (suc d) h = refl
is_less_where (suc i) (suc d) h = is_less_where i d (M.le_of_suc-le-suc h)

module _ (ms : List ℕ) (positive : 0 < degree_of ms) where
  abbrev q : Fraction
  q = natural fractions (degree_of ms)

  abbrev s : ℕ → Fraction
  s = node_point ms

  at_coordinate : (i : ℕ) → mul q (value s (coordinate i)) ≡ natural fractions (weight_at ms (suc i))
  at_coordinate i =
      ap (mul q) (value-coordinate s i)
      ∙ Solve.ring_from fractions (q ∷ natural fractions (weight_at ms (suc i)) ∷ inverse q ∷ []) (at 0 ⊗ (at 1 ⊗ at 2)) (at 1) (at 1) (at 0 ⊗ at 2) unity (mul_inverse q (not_nought (degree_of ms) positive)) refl

  at_sum : (d : ℕ) → mul q (value s (coordinate_sum d)) ≡ natural fractions (sum_first d (λ i. weight_at ms (suc i)))
  at_sum zero = ap (mul q) (ap (value s) (sym constant-zero) ∙ value-constant s zero_fraction) ∙ L.mul-zero fractions q
  at_sum (suc d) =
      ap (mul q) (value-plus s (coordinate_sum d) (coordinate d)) ∙ mul_add q _ _
      ∙ ap₂ add (at_sum d) (at_coordinate d) ∙ sym (natural-add fractions _ _)

  at_vertex : (d : ℕ) → length ms ≡ suc d → (k : ℕ) → k < length ms → mul q (value s (basis_coordinate d k)) ≡ natural fractions (weight_at ms k)
  at_vertex d l zero h =
      ap (mul q) (value-plus s one _ ∙ ap₂ add (value-one s) (value-negative s (coordinate_sum d)))
      ∙ Solve.ring_from fractions (q ∷ value s (coordinate_sum d) ∷ natural fractions (sum_first d (λ i. weight_at ms (suc i))) ∷ natural fractions (weight_at ms 0) ∷ [])
      (at 0 ⊗ (unity ⊖ at 1)) (at 3) unity (at 0 ⊖ at 0 ⊗ at 1) (at 3) whole_degree refl
    where
      whole_degree : add (natural fractions (degree_of ms)) (minus_fraction (mul (natural fractions (degree_of ms)) (value (node_point ms) (coordinate_sum d)))) ≡ natural fractions (weight_at ms 0)
      whole_degree =
          ap₂ (λ x y. add x (minus_fraction y))
          (ap (natural fractions) (degree_is ms ∙ ap (λ n. sum_first n (weight_at ms)) l ∙ sum_first-shift d (weight_at ms)) ∙ natural-add fractions (weight_at ms 0) (sum_first d (λ i. weight_at ms (suc i))))
          (at_sum d)
          ∙ Solve.ring fractions (natural fractions (weight_at ms 0) ∷ natural fractions (sum_first d (λ i. weight_at ms (suc i))) ∷ []) ((at 0 ⊕ at 1) ⊖ at 1) (at 0) refl
  at_vertex d l (suc i) h =
      ap (λ b. mul q (value s (elim b [ true ↦ coordinate i | false ↦ one ]))) (is_less_where i d (M.le_of_suc-le-suc (subst (λ n. suc i < n) l h))) ∙ at_coordinate i

  at_node : (d : ℕ) → length ms ≡ suc d → (ws : List ℕ) → length ws ≡ length ms → degree_of ws ≡ degree_of ms → value s (basis_function d ws) ≡ factors_at ws ms
  at_node d l ws lw e =
      ap (λ n. value s (factors_of n (basis_coordinate d) 0 ws)) e
      ∙ value-factors s (degree_of ms) (basis_coordinate d) 0 ws ms lw (λ k h. ap (λ n. mul q (value s (basis_coordinate d n))) (M.zero-add k) ∙ at_vertex d l k h)

-- ---- any cell
value-composed : (s : ℕ → Fraction) (t : ℕ → Polynomial) (p : Polynomial) → value (λ i. value s (t i)) p ≡ value s (composed t p)
value-composed s t =
    polynomial_ind (λ p. value (λ i. value s (t i)) p ≡ value s (composed t p)) (λ p. fractions.is_set _ _)
    (λ c. value-constant _ c ∙ sym (ap (value s) (composed-constant t c) ∙ value-constant s c))
    (λ i. value-coordinate _ i ∙ ap (value s) (sym (composed-coordinate t i)))
    (λ p q hp hq. value-plus _ p q ∙ ap₂ add hp hq ∙ sym (ap (value s) (composed-plus t p q) ∙ value-plus s _ _))
    (λ p q hp hq. value-times _ p q ∙ ap₂ mul hp hq ∙ sym (ap (value s) (composed-times t p q) ∙ value-times s _ _))

vertices : (v : Simplex) → IsCell v → length v ≡ suc (dimension v)
vertices [] c = absurd c
vertices (a ∷ []) c = absurd c
vertices (a ∷ b ∷ []) c = refl
vertices (a ∷ b ∷ d ∷ []) c = refl
vertices (a ∷ b ∷ d ∷ e ∷ []) c = refl
vertices (a ∷ b ∷ d ∷ e ∷ f ∷ vs) c = absurd c

at_node_of : (v : Simplex) → IsCell v → is_zero_fraction (volume v) ≡ false → (ms ws : List ℕ) → length ms ≡ length v → length ws ≡ length v → 0 < degree_of ms → degree_of ws ≡ degree_of ms
    → value (node_in v ms) (local_function v ws) ≡ factors_at ws ms
at_node_of v c h ms ws lm lw positive e =
    value-composed (node_point ms) (affine v) (local_function v ws)
    ∙ ap (value (node_point ms)) (basis_function_of v c h ws)
    ∙ at_node ms positive (dimension v) (lm ∙ vertices v c) ws (lw ∙ sym lm) e

-- a local function is 1 at its own node
pub own_node : (v : Simplex) → IsCell v → is_zero_fraction (volume v) ≡ false → (weights : List ℕ) → length weights ≡ length v → 0 < degree_of weights
    → value (node_in v weights) (local_function v weights) ≡ one_fraction
own_node v c h ms l positive = at_node_of v c h ms ms l l positive refl ∙ factors_own ms

-- and 0 at the other nodes of its degree
pub other_node : (v : Simplex) → IsCell v → is_zero_fraction (volume v) ≡ false → (weights others : List ℕ) → length weights ≡ length v → length others ≡ length v
    → 0 < degree_of weights → degree_of others ≡ degree_of weights → others ≢ weights → value (node_in v others) (local_function v weights) ≡ zero_fraction
other_node v c h ws ms lw lm positive e apart =
    at_node_of v c h ms ws lm lw (subst (λ n. 0 < n) (sym e) positive) (sym e)
    ∙ elim (same_or_below ws ms (lw ∙ sym lm) (le_of_eq e)) [ inl p ↦ absurd (apart (sym p.0)) | inr k ↦ factors_other ws ms k ]
