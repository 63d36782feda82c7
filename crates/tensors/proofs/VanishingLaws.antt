-- Functions of a part are 0 where they are derived more often than the part's degree
use Rattle.std.proofs.Common.{◌≡◌, ℕ, zero, suc, ◌+◌, ◌-◌, ◌<◌, ◌≤◌, ◌⊎◌, inl, inr, List, [], ◌∷◌, length, get_or, refl, sym, ap, ap₂, ◌∙◌, subst, arith}
use Rattle.std.proofs.lemmas.List.{get_or_past}
use Rattle.algebra.specs.RingLaws as L
use Rattle.algebra.specs.Fraction.{Fraction, one_fraction}
use Rattle.calculus.specs.Polynomial.{Polynomial, nil, one, plus, times, negative, constant, coordinate, derivative, whole, polynomials, plus-nil}
use Rattle.calculus.specs.Simplex.{reference}
use Rattle.calculus.specs.LocalFunction.{falling, vertex_factor, local_function, degree_of}
use Rattle.calculus.proofs.Barycentric.{coordinate_sum, basis_coordinate}
use Rattle.calculus.proofs.LocalFunctions.{factors_of}
use Rattle.calculus.proofs.PolynomialLaws.{constant-zero, constant-one, derivative-plus, derivative-times, derivative-constant, derivative-coordinate, derivative-negative}
use Rattle.polyalg.proofs.DerivedLaws.{derivative-nil}
use Rattle.spaces.specs.declared.cell.Cell.{Cell}
use Rattle.spaces.specs.declared.parts.Part.{Part}
use Rattle.spaces.specs.Cell.{dimension}
use Rattle.spaces.specs.Nodes.{nodes_of}
use Rattle.spaces.proofs.NodeLaws.{node_at, node_number}
use Rattle.lagrange.proofs.FactorLaws.{within_is, beyond_is}
use Rattle.lagrange.proofs.NodeLaws.{on_reference}
use Rattle.refint.specs.Local.{cell_in, node_function}
use Rattle.refint.specs.Reference.{along_all}
use Rattle.basis_products.proofs.FunctionLaws.{dimension_in}

-- ---- polynomials of a degree of at most n
pub data HasDegree : ℕ → Polynomial → Type 0 where
  fixed : (c : Fraction) → HasDegree 0 (constant c)
  axis : (i : ℕ) → HasDegree 1 (coordinate i)
  opposite : {n : ℕ} {p : Polynomial} → HasDegree n p → HasDegree n (negative p)
  sum : {n : ℕ} {p q : Polynomial} → HasDegree n p → HasDegree n q → HasDegree n (plus p q)
  product : {n m : ℕ} {p q : Polynomial} → HasDegree n p → HasDegree m q → HasDegree (n + m) (times p q)
  within : {n m : ℕ} {p : Polynomial} → n ≤ m → HasDegree n p → HasDegree m p

degree_nil : (n : ℕ) → HasDegree n nil
degree_nil n = within (omega arith) (subst (HasDegree 0) constant-zero (fixed _))

degree_one : (n : ℕ) → HasDegree n one
degree_one n = within (omega arith) (subst (HasDegree 0) constant-one (fixed one_fraction))

-- ---- of a derivative
derived : (i n : ℕ) (p : Polynomial) → HasDegree n p → (n ≡ 0 → derivative i p ≡ nil) × HasDegree (n - 1) (derivative i p)
derived i _ _ (fixed c) = ((λ e. derivative-constant i c), subst (HasDegree (0 - 1)) (sym (derivative-constant i c)) (degree_nil (0 - 1)))
derived i _ _ (axis j) = ((λ e. absurd (omega arith)), within (omega arith) (subst (HasDegree 0) (sym (derivative-coordinate i j)) (fixed _)))
derived i n _ (opposite {p = p} h) =
    let r = derived i n p h in
    ((λ e. derivative-negative i p ∙ ap negative (r.0 e) ∙ L.neg-zero polynomials), subst (HasDegree (n - 1)) (sym (derivative-negative i p)) (opposite r.1))
derived i n _ (sum {p = p} {q = q} h g) =
    let r = derived i n p h in
    let s = derived i n q g in
    ((λ e. derivative-plus i p q ∙ ap₂ plus (r.0 e) (s.0 e) ∙ plus-nil nil), subst (HasDegree (n - 1)) (sym (derivative-plus i p q)) (sum r.1 s.1))
derived i _ _ (product {n = n} {m = m} {p = p} {q = q} h g) =
    let r = derived i n p h in
    let s = derived i m q g in (
      (λ e.
          derivative-times i p q
          ∙ ap₂ plus (ap (λ x. times x q) (r.0 (omega arith)) ∙ L.zero-mul polynomials q) (ap (times p) (s.0 (omega arith)) ∙ L.mul-zero polynomials p)
          ∙ plus-nil nil),
      subst (HasDegree (n + m - 1)) (sym (derivative-times i p q)) (sum (left n refl r) (right m refl s)),
    )
  where
    left : (k : ℕ) → n ≡ k → (n ≡ 0 → derivative i p ≡ nil) × HasDegree (n - 1) (derivative i p) → HasDegree (n + m - 1) (times (derivative i p) q)
    left zero e r = subst (HasDegree (n + m - 1)) (sym (ap (λ x. times x q) (r.0 e) ∙ L.zero-mul polynomials q)) (degree_nil (n + m - 1))
    left (suc k) e r = within (omega arith) (product r.1 g)

    right : (k : ℕ) → m ≡ k → (m ≡ 0 → derivative i q ≡ nil) × HasDegree (m - 1) (derivative i q) → HasDegree (n + m - 1) (times p (derivative i q))
    right zero e s = subst (HasDegree (n + m - 1)) (sym (ap (times p) (s.0 e) ∙ L.mul-zero polynomials p)) (degree_nil (n + m - 1))
    right (suc k) e s = within (omega arith) (product h s.1)
derived i _ p (within {n = n} {m = m} l h) =
    let r = derived i n p h in
    ((λ e. r.0 (omega arith)), within (omega arith) r.1)

pub along_nil : (ds : List ℕ) → along_all ds nil ≡ nil
along_nil [] = refl
along_nil (i ∷ is) = ap (derivative i) (along_nil is) ∙ derivative-nil i

along_degree : (ds : List ℕ) (n : ℕ) (p : Polynomial) → HasDegree n p → (n < length ds → along_all ds p ≡ nil) × HasDegree (n - length ds) (along_all ds p)
along_degree [] n p h = ((λ l. absurd (omega arith)), within (omega arith) h)
along_degree (i ∷ is) n p h =
    let r = along_degree is n p h in
    let s = derived i (n - length is) (along_all is p) r.1 in
    ((λ l. cases l r.0 s.0), within (omega arith) s.1)
  where
    either : (n k : ℕ) → n < suc k → (n < k) ⊎ (n ≡ k)
    either n k h = grind arith

    cases : n < suc (length is) → (n < length is → along_all is p ≡ nil) → (n - length is ≡ 0 → derivative i (along_all is p) ≡ nil) → derivative i (along_all is p) ≡ nil
    cases l f g = elim (either n (length is) l) [
      | inl k ↦ ap (derivative i) (f k) ∙ derivative-nil i
      | inr k ↦ g (omega arith)
    ]

-- ---- of the functions of a node
falling_degree : (x : Polynomial) (a : ℕ) → HasDegree 1 x → HasDegree a (falling x a)
falling_degree x zero h = degree_one 0
falling_degree x (suc a) h = within (omega arith) (product (falling_degree x a h) (sum h (opposite (within (omega arith) (fixed _)))))

vertex_degree : (q : ℕ) (b : Polynomial) (a : ℕ) → HasDegree 1 b → HasDegree a (vertex_factor q b a)
vertex_degree q b a h = within (omega arith) (product (fixed _) (falling_degree (times (whole q) b) a (within (omega arith) (product (fixed _) h))))

factors_degree : (q : ℕ) (b : ℕ → Polynomial) → ((j : ℕ) → HasDegree 1 (b j)) → (j : ℕ) (ws : List ℕ) → HasDegree (degree_of ws) (factors_of q b j ws)
factors_degree q b h j [] = degree_one 0
factors_degree q b h j (a ∷ ws) = product (vertex_degree q (b j) a (h j)) (factors_degree q b h (suc j) ws)

sum_degree : (d : ℕ) → HasDegree 1 (coordinate_sum d)
sum_degree zero = degree_nil 1
sum_degree (suc d) = sum (sum_degree d) (axis d)

basis_degree : (d j : ℕ) → HasDegree 1 (basis_coordinate d j)
basis_degree d zero = sum (degree_one 1) (opposite (sum_degree d))
basis_degree d (suc k) = elim (either k d) [
  | inl h ↦ subst (HasDegree 1) (sym (within_is d (suc k) (omega arith) (omega arith))) (axis (suc k - 1))
  | inr h ↦ subst (HasDegree 1) (sym (beyond_is d (suc k) (omega arith))) (degree_one 1)
]
  where
    either : (k d : ℕ) → (k < d) ⊎ (d ≤ k)
    either k d = grind arith

weights_few : (c : Cell) (q j : ℕ) → q ≤ 3 → degree_of (get_or (nodes_of c q) j []) ≤ q
weights_few c q j h = elim (either j (length (nodes_of c q))) [
  | inl k ↦ omega (arith, (node_at c q j h (omega (arith, node_number c q h))).sum)
  | inr k ↦ omega (arith, ap degree_of (get_or_past (nodes_of c q) j [] k))
]
  where
    either : (j n : ℕ) → (j < n) ⊎ (n ≤ j)
    either j n = grind arith

function_degree : (d : ℕ) (p : Part) (j : ℕ) → 1 ≤ d → d ≤ 3 → p.degree ≤ 3 → HasDegree p.degree (node_function d (reference d) p j)
function_degree d p j h g k =
    let w = get_or (nodes_of (cell_in d) p.degree) j [] in
    subst (HasDegree p.degree) (on_reference (cell_in d) w ∙ ap (λ n. local_function (reference n) w) (dimension_in d h g))
    (within (weights_few (cell_in d) p.degree j k) (factors_degree (degree_of w) (basis_coordinate (dimension (cell_in d))) (basis_degree (dimension (cell_in d))) 0 w))

pub exhausted : (d : ℕ) (p : Part) (j : ℕ) (ds : List ℕ) → 1 ≤ d → d ≤ 3 → p.degree ≤ 3 → p.degree < length ds → along_all ds (node_function d (reference d) p j) ≡ nil
exhausted d p j ds h g k l = (along_degree ds p.degree (node_function d (reference d) p j) (function_degree d p j h g k)).0 l
