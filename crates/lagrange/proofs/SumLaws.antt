-- The basis functions of all nodes of a degree add up to 1
use Rattle.std.proofs.Common.{◌≡◌, ℕ, zero, suc, ◌+◌, Bool, true, false, if◌then◌else◌, List, [], ◌∷◌, ◌++◌, refl, sym, ap, ap₂, ◌∙◌, pos, arith}
use Rattle.algebra.specs.RingLaws as L
use Rattle.algebra.specs.Solver.{at, num, ◌⊕◌, ◌⊖◌, unity}
use Rattle.algebra.specs.Sound as Solve
use Rattle.calculus.specs.Polynomial.{Polynomial, nil, one, plus, times, coordinate, whole, polynomials, times-one, plus-nil, plus_assoc, times-plus}
use Rattle.calculus.specs.Simplex.{reference}
use Rattle.calculus.specs.LocalFunction.{degree_of, local_function, vertex_factor}
use Rattle.calculus.proofs.Barycentric.{basis_coordinate}
use Rattle.calculus.proofs.LocalFunctions.{factors_of}
use Rattle.spaces.specs.declared.cell.Cell.{Cell}
use Rattle.spaces.specs.declared.cell.Cell.TheVariants.{Interval, Triangle, Tetrahedron}
use Rattle.spaces.specs.Cell.{dimension}
use Rattle.spaces.specs.Nodes.{each_with, with_first, choices, rank, is_before, put, in_order, nodes_of}
use Rattle.lagrange.specs.Sums.{sum_over}
use Rattle.lagrange.proofs.Binomials.{binomial, binomial_zero, binomial_nil, binomial_own, convolution, vandermonde}
use Rattle.lagrange.proofs.NodeLaws.{on_reference}

-- ---- sums over lists
sum_over-append : (f : List ℕ → Polynomial) (ws vs : List (List ℕ)) → sum_over f (ws ++ vs) ≡ plus (sum_over f ws) (sum_over f vs)
sum_over-append f [] vs = sym (L.zero-add polynomials (sum_over f vs))
sum_over-append f (w ∷ ws) vs = ap (plus (f w)) (sum_over-append f ws vs) ∙ sym (plus_assoc (f w) (sum_over f ws) (sum_over f vs))

sum_over-put : (f : List ℕ → Polynomial) (w : List ℕ) (vs : List (List ℕ)) → sum_over f (put w vs) ≡ plus (f w) (sum_over f vs)
sum_over-put f w [] = refl
sum_over-put f w (v ∷ vs) = go (is_before (rank w) (rank v)) (sum_over-put f w vs)
  where
    go : (b : Bool) → sum_over f (put w vs) ≡ plus (f w) (sum_over f vs) → sum_over f (if b then w ∷ v ∷ vs else v ∷ put w vs) ≡ plus (f w) (plus (f v) (sum_over f vs))
    go true ih = refl
    go false ih = ap (plus (f v)) ih ∙ Solve.ring polynomials (f v ∷ f w ∷ sum_over f vs ∷ []) (at 0 ⊕ (at 1 ⊕ at 2)) (at 1 ⊕ (at 0 ⊕ at 2)) refl

sum_over-in_order : (f : List ℕ → Polynomial) (ws : List (List ℕ)) → sum_over f (in_order ws) ≡ sum_over f ws
sum_over-in_order f [] = refl
sum_over-in_order f (w ∷ ws) = sum_over-put f w (in_order ws) ∙ ap (plus (f w)) (sum_over-in_order f ws)

-- ---- what holds of each list
abbrev Each : (List ℕ → Type 0) → List (List ℕ) → Type 0
Each P [] = Unit {0}
Each P (w ∷ ws) = P w × Each P ws

sum_same : (f g : List ℕ → Polynomial) (ws : List (List ℕ)) → Each (λ w. f w ≡ g w) ws → sum_over f ws ≡ sum_over g ws
sum_same f g [] h = refl
sum_same f g (w ∷ ws) h = ap₂ plus h.0 (sum_same f g ws h.1)

each-append : (P : List ℕ → Type 0) (ws vs : List (List ℕ)) → Each P ws → Each P vs → Each P (ws ++ vs)
each-append P [] vs h g = g
each-append P (w ∷ ws) vs h g = (h.0, each-append P ws vs h.1 g)

each_change : (P Q : List ℕ → Type 0) → ((w : List ℕ) → P w → Q w) → (ws : List (List ℕ)) → Each P ws → Each Q ws
each_change P Q f [] h = tt
each_change P Q f (w ∷ ws) h = (f w h.0, each_change P Q f ws h.1)

each_more : (a b k : ℕ) (ws : List (List ℕ)) → a + b ≡ k → Each (λ w. degree_of w ≡ b) ws → Each (λ w. degree_of w ≡ k) (each_with a ws)
each_more a b k [] e h = tt
each_more a b k (w ∷ ws) e h = (omega (arith, h.0), each_more a b k ws e h.1)

firsts_sum : (rest : ℕ → List (List ℕ)) → ((b : ℕ) → Each (λ w. degree_of w ≡ b) (rest b)) → (a b k : ℕ) → a + b ≡ k → Each (λ w. degree_of w ≡ k) (with_first rest a b)
firsts_sum rest h zero b k e = each_more 0 b k (rest b) e (h b)
firsts_sum rest h (suc a) b k e =
    each-append (λ w. degree_of w ≡ k) (each_with (suc a) (rest b)) (with_first rest a (suc b)) (each_more (suc a) b k (rest b) e (h b)) (firsts_sum rest h a (suc b) k (omega arith))

choices_sum : (n k : ℕ) → Each (λ w. degree_of w ≡ k) (choices n k)
choices_sum zero zero = (refl, tt)
choices_sum zero (suc k) = tt
choices_sum (suc n) k = firsts_sum (λ b. choices n b) (λ b. choices_sum n b) k 0 k (omega arith)

-- ---- all choices of weights
abbrev sum_from : (ℕ → Polynomial) → ℕ → ℕ → Polynomial
sum_from b j zero = nil
sum_from b j (suc n) = plus (b j) (sum_from b (suc j) n)

sum_over-each_with : (q : ℕ) (b : ℕ → Polynomial) (j a : ℕ) (ws : List (List ℕ))
    → sum_over (factors_of q b j) (each_with a ws) ≡ times (vertex_factor q (b j) a) (sum_over (factors_of q b (suc j)) ws)
sum_over-each_with q b j a [] = sym (L.mul-zero polynomials (vertex_factor q (b j) a))
sum_over-each_with q b j a (w ∷ ws) =
    ap (plus (times (vertex_factor q (b j) a) (factors_of q b (suc j) w))) (sum_over-each_with q b j a ws)
    ∙ sym (times-plus (vertex_factor q (b j) a) (factors_of q b (suc j) w) (sum_over (factors_of q b (suc j)) ws))

sum_over-with_first : (q : ℕ) (b : ℕ → Polynomial) (j : ℕ) (rest : ℕ → List (List ℕ)) (y : Polynomial) → ((c : ℕ) → sum_over (factors_of q b (suc j)) (rest c) ≡ binomial y c)
    → (a c : ℕ) → sum_over (factors_of q b j) (with_first rest a c) ≡ convolution (times (whole q) (b j)) y a c
sum_over-with_first q b j rest y h zero c = sum_over-each_with q b j 0 (rest c) ∙ ap (times (vertex_factor q (b j) 0)) (h c)
sum_over-with_first q b j rest y h (suc a) c =
    sum_over-append (factors_of q b j) (each_with (suc a) (rest c)) (with_first rest a (suc c))
    ∙ ap₂ plus (sum_over-each_with q b j (suc a) (rest c) ∙ ap (times (vertex_factor q (b j) (suc a))) (h c)) (sum_over-with_first q b j rest y h a (suc c))

sum_over-choices : (q : ℕ) (b : ℕ → Polynomial) (n j k : ℕ) → sum_over (factors_of q b j) (choices n k) ≡ binomial (times (whole q) (sum_from b j n)) k
sum_over-choices q b zero j zero = plus-nil one ∙ sym (binomial_zero (times (whole q) nil))
sum_over-choices q b zero j (suc k) = sym (binomial_nil (times (whole q) nil) (L.mul-zero polynomials (whole q)) k)
sum_over-choices q b (suc n) j k =
    sum_over-with_first q b j (λ c. choices n c) (times (whole q) (sum_from b (suc j) n)) (λ c. sum_over-choices q b n (suc j) c) k 0
    ∙ vandermonde (times (whole q) (b j)) (times (whole q) (sum_from b (suc j) n)) k
    ∙ ap (λ x. binomial x k) (sym (times-plus (whole q) (b j) (sum_from b (suc j) n)))

-- ---- on the reference cells
coordinates_sum : (c : Cell) → sum_from (basis_coordinate (dimension c)) 0 (suc (dimension c)) ≡ one
coordinates_sum Interval = Solve.ring polynomials (coordinate 0 ∷ []) ((unity ⊖ (num (pos 0) ⊕ at 0)) ⊕ (at 0 ⊕ num (pos 0))) unity refl
coordinates_sum Triangle =
    Solve.ring polynomials (coordinate 0 ∷ coordinate 1 ∷ []) ((unity ⊖ ((num (pos 0) ⊕ at 0) ⊕ at 1)) ⊕ (at 0 ⊕ (at 1 ⊕ num (pos 0)))) unity refl
coordinates_sum Tetrahedron =
    Solve.ring polynomials (coordinate 0 ∷ coordinate 1 ∷ coordinate 2 ∷ [])
    ((unity ⊖ (((num (pos 0) ⊕ at 0) ⊕ at 1) ⊕ at 2)) ⊕ (at 0 ⊕ (at 1 ⊕ (at 2 ⊕ num (pos 0))))) unity refl

pub sum_of_basis : (c : Cell) (q : ℕ) → sum_over (local_function (reference (dimension c))) (nodes_of c q) ≡ one
sum_of_basis c q =
    let d = dimension c in
    let ws = choices (suc d) q in
    sum_over-in_order (local_function (reference d)) ws
    ∙ sum_same (local_function (reference d)) (factors_of q (basis_coordinate d) 0) ws
    (each_change (λ w. degree_of w ≡ q) (λ w. local_function (reference d) w ≡ factors_of q (basis_coordinate d) 0 w)
    (λ w e. sym (on_reference c w) ∙ ap (λ k. factors_of k (basis_coordinate d) 0 w) e) ws (choices_sum (suc d) q))
    ∙ sum_over-choices q (basis_coordinate d) (suc d) 0 q
    ∙ ap (λ x. binomial x q) (ap (times (whole q)) (coordinates_sum c) ∙ times-one (whole q))
    ∙ binomial_own q
