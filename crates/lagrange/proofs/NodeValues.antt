-- The values of basis functions at nodes
use Rattle.std.proofs.Common.{◌≡◌, ◌≢◌, ℕ, zero, suc, ◌<◌, ◌≤◌, Bool, true, false, ◌&&◌, ◌||◌, ◌==◌, nat_lt, List, [], ◌∷◌, length, get_or, refl, sym, ap, ap₂, ◌∙◌, arith}
use Rattle.algebra.specs.Fraction.{Fraction, fractions, zero_fraction, one_fraction, is_zero_fraction}
use Rattle.calculus.specs.Polynomial.{Polynomial, composed, value}
use Rattle.calculus.specs.Simplex.{IsCell, volume, reference, affine}
use Rattle.calculus.specs.LocalFunction.{local_function, node_point, node_in}
use Rattle.calculus.proofs.PolynomialLaws.{value-plus, value-times, value-constant, value-coordinate, polynomial_ind, composed-plus, composed-times, composed-constant, composed-coordinate}
use Rattle.calculus.proofs.LocalFunctions.{reference_itself, reference_is_not_flat}
use Rattle.calculus.proofs.Nodes.{own_node, other_node}
use Rattle.algebra.specs.Fraction.{add, mul}
use Rattle.spaces.specs.declared.cell.Cell.{Cell}
use Rattle.spaces.specs.declared.cell.Cell.TheVariants.{Interval, Triangle, Tetrahedron}
use Rattle.spaces.specs.Cell.{dimension}
use Rattle.spaces.specs.Family.{node_count}
use Rattle.spaces.specs.Nodes.{rank, nodes_of, comes_before, before_all, in_strict_order}
use Rattle.spaces.proofs.NodeLaws.{both_true, node_number, node_at}
use Rattle.spaces.proofs.AllNodes.{strict_order}

-- ---- no node stands twice
not_less : (x : ℕ) → nat_lt x x ≡ false
not_less x = grind arith

neither : (b : Bool) → (false || (b && false)) ≡ false
neither true = refl
neither false = refl

not_before_itself : (xs : List ℕ) → comes_before xs xs ≡ false
not_before_itself [] = refl
not_before_itself (x ∷ xs) = ap₂ (λ a b. a || (x == x && b)) (not_less x) (not_before_itself xs) ∙ neither (x == x)

before_at : (w : List ℕ) (vs : List (List ℕ)) (k : ℕ) → before_all w vs ≡ true → k < length vs → comes_before (rank w) (rank (get_or vs k [])) ≡ true
before_at w [] k h g = absurd (omega arith)
before_at w (v ∷ vs) zero h g = (both_true (comes_before (rank w) (rank v)) (before_all w vs) h).0
before_at w (v ∷ vs) (suc k) h g = before_at w vs k (both_true (comes_before (rank w) (rank v)) (before_all w vs) h).1 (omega arith)

contrary : (b : Bool) → b ≡ true → b ≡ false → ⊥
contrary true h g = cc
contrary false h g = cc

apart_from : (w : List ℕ) (vs : List (List ℕ)) (k : ℕ) → before_all w vs ≡ true → k < length vs → w ≡ get_or vs k [] → ⊥
apart_from w vs k h g e = contrary (comes_before (rank w) (rank (get_or vs k []))) (before_at w vs k h g) (ap (λ v. comes_before (rank w) (rank v)) (sym e) ∙ not_before_itself (rank w))

distinct : (ws : List (List ℕ)) (i j : ℕ) → in_strict_order ws ≡ true → i < length ws → j < length ws → (i ≡ j → ⊥) → get_or ws i [] ≡ get_or ws j [] → ⊥
distinct [] i j o h g n e = absurd (omega (arith, h))
distinct (w ∷ ws) zero zero o h g n e = n refl
distinct (w ∷ ws) zero (suc j) o h g n e = apart_from w ws j (both_true (before_all w ws) (in_strict_order ws) o).0 (omega (arith, g)) e
distinct (w ∷ ws) (suc i) zero o h g n e = apart_from w ws i (both_true (before_all w ws) (in_strict_order ws) o).0 (omega (arith, h)) (sym e)
distinct (w ∷ ws) (suc i) (suc j) o h g n e =
    distinct ws i j (both_true (before_all w ws) (in_strict_order ws) o).1 (omega (arith, h)) (omega (arith, g)) (λ k. n (ap suc k)) e

-- ---- the reference cell is its own image
value-composed : (s : ℕ → Fraction) (t : ℕ → Polynomial) (p : Polynomial) → value (λ i. value s (t i)) p ≡ value s (composed t p)
value-composed s t =
    polynomial_ind (λ p. value (λ i. value s (t i)) p ≡ value s (composed t p)) (λ p. fractions.is_set _ _)
    (λ c. value-constant _ c ∙ sym (ap (value s) (composed-constant t c) ∙ value-constant s c))
    (λ i. value-coordinate _ i ∙ ap (value s) (sym (composed-coordinate t i)))
    (λ p q hp hq. value-plus _ p q ∙ ap₂ add hp hq ∙ sym (ap (value s) (composed-plus t p q) ∙ value-plus s _ _))
    (λ p q hp hq. value-times _ p q ∙ ap₂ mul hp hq ∙ sym (ap (value s) (composed-times t p q) ∙ value-times s _ _))

itself : (c : Cell) (p : Polynomial) → composed (affine (reference (dimension c))) p ≡ p
itself Interval p = reference_itself 0 p
itself Triangle p = reference_itself 1 p
itself Tetrahedron p = reference_itself 2 p

at_point : (c : Cell) (w : List ℕ) (p : Polynomial) → value (node_in (reference (dimension c)) w) p ≡ value (node_point w) p
at_point c w p = value-composed (node_point w) (affine (reference (dimension c))) p ∙ ap (value (node_point w)) (itself c p)

lawful : (c : Cell) → IsCell (reference (dimension c))
lawful Interval = tt
lawful Triangle = tt
lawful Tetrahedron = tt

not_flat : (c : Cell) → is_zero_fraction (volume (reference (dimension c))) ≡ false
not_flat Interval = reference_is_not_flat 0
not_flat Triangle = reference_is_not_flat 1
not_flat Tetrahedron = reference_is_not_flat 2

vertex_number : (c : Cell) → length (reference (dimension c)) ≡ suc (dimension c)
vertex_number Interval = refl
vertex_number Triangle = refl
vertex_number Tetrahedron = refl

-- ---- 1 at the node
pub own_value : (c : Cell) (q n : ℕ) (p : Polynomial) → q ≤ 3 → n < node_count c q → p ≡ local_function (reference (dimension c)) (get_or (nodes_of c q) n []) → 0 < q
    → value (node_point (get_or (nodes_of c q) n [])) p ≡ one_fraction
own_value c q n p h g e positive =
    let w = get_or (nodes_of c q) n [] in
    let node = node_at c q n h g in
    sym (at_point c w p) ∙ ap (value (node_in (reference (dimension c)) w)) e
    ∙ own_node (reference (dimension c)) (lawful c) (not_flat c) w (node.vertices ∙ sym (vertex_number c)) (omega (arith, node.sum))

-- 0 at the others
single_node : (c : Cell) → node_count c 0 ≡ 1
single_node Interval = refl
single_node Triangle = refl
single_node Tetrahedron = refl

pub other_value : (c : Cell) (q n k : ℕ) (p : Polynomial) → q ≤ 3 → n < node_count c q → p ≡ local_function (reference (dimension c)) (get_or (nodes_of c q) n [])
    → k < node_count c q → k ≢ n → value (node_point (get_or (nodes_of c q) k [])) p ≡ zero_fraction
other_value c zero n k p h g e l apart = absurd (apart (omega (arith, single_node c)))
other_value c (suc q) n k p h g e l apart =
    let w = get_or (nodes_of c (suc q)) n [] in
    let v = get_or (nodes_of c (suc q)) k [] in
    let own = node_at c (suc q) n h g in
    let other = node_at c (suc q) k h l in
    let number = node_number c (suc q) h in
    sym (at_point c v p) ∙ ap (value (node_in (reference (dimension c)) v)) e
    ∙ other_node (reference (dimension c)) (lawful c) (not_flat c) w v (own.vertices ∙ sym (vertex_number c)) (other.vertices ∙ sym (vertex_number c))
    (omega (arith, own.sum)) (other.sum ∙ sym own.sum) (distinct (nodes_of c (suc q)) k n (strict_order c (suc q) h) (omega (arith, number)) (omega (arith, number)) apart)
