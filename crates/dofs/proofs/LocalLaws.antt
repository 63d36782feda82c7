-- The labels of the local nodes from the tables of weights
use Rattle.std.proofs.Common.{◌≡◌, ℕ, zero, suc, ◌+◌, ◌-◌, ◌<◌, ◌≤◌, Bool, true, false, ◌&&◌, ◌==◌, List, [], ◌∷◌, ◌++◌, length, map, get_or, take, refl, ap, ap₂, ◌∙◌, arith}
use Rattle.std.specs.List.{list_all, AllByRecursion}
use Rattle.std.proofs.lemmas.Bool.Decides.{nat_tests}
use Rattle.std.proofs.lemmas.List.{take_all, length-map}
use Rattle.calculus.specs.LocalFunction.{degree_of}
use Rattle.spaces.specs.declared.cell.Cell.{Cell}
use Rattle.spaces.specs.declared.family.Family.{Family}
use Rattle.spaces.specs.declared.parts.Part.{Part}
use Rattle.spaces.specs.Cell.{dimension}
use Rattle.spaces.specs.Family.{node_count}
use Rattle.spaces.specs.Scalar.{Scalar, scalar_of}
use Rattle.spaces.specs.Nodes.{nodes_of, padded, zeros}
use Rattle.spaces.proofs.NodeLaws.{is_node, all_nodes, node_number, node_at, entry_at, padded_sum}
use Rattle.dofs.specs.declared.key.Key.{Key}
use Rattle.dofs.specs.Label.{Weighted, put, weighted, node_label, vertices_of, weights_of, cell_in_label}
use Rattle.dofs.specs.Arrays.{key_of}
use Rattle.dofs.specs.Parts.{IsOn}
use Rattle.dofs.specs.Rows.{part_labels}

pub both_true : (a b : Bool) → (a && b) ≡ true → (a ≡ true) × (b ≡ true)
both_true true b h = (refl, h)
both_true false b h = cc

number_equal : (m n : ℕ) → (m == n) ≡ true → m ≡ n
number_equal m n h = grind (arith, nat_tests)

-- a weight for each vertex
pub node_vertices : (c : Cell) (q : ℕ) (w : List ℕ) → is_node c q w ≡ true → length w ≡ suc (dimension c)
node_vertices c q w h = number_equal (length w) (suc (dimension c)) (both_true (length w == suc (dimension c)) (degree_of w == q) h).0

pub node_sum : (c : Cell) (q : ℕ) (w : List ℕ) → is_node c q w ≡ true → degree_of w ≡ q
node_sum c q w h = number_equal (degree_of w) q (both_true (length w == suc (dimension c)) (degree_of w == q) h).1

pub first_node : (c : Cell) (q : ℕ) (w : List ℕ) (ws : List (List ℕ)) → list_all (is_node c q) (w ∷ ws) ≡ true → (is_node c q w ≡ true) × (list_all (is_node c q) ws ≡ true)
first_node c q w ws h = both_true (is_node c q w) (list_all (is_node c q) ws) h

-- weights behind those of the vertices don't count
weighted-behind : (vs ws zs : List ℕ) → length vs ≤ length ws → weighted vs (ws ++ zs) ≡ weighted vs ws
weighted-behind [] ws zs h = refl
weighted-behind (v ∷ vs) [] zs h = absurd (omega arith)
weighted-behind (v ∷ vs) (zero ∷ ws) zs h = weighted-behind vs ws zs (omega arith)
weighted-behind (v ∷ vs) (suc a ∷ ws) zs h = ap (put (record { vertex = v; weight = suc a })) (weighted-behind vs ws zs (omega arith))

-- the weights of a table add up to the degree
pub table_sum : (c : Cell) (q i : ℕ) (ws : List (List ℕ)) → q ≤ 3 → ws ≡ map padded (nodes_of c q) → i < length ws → degree_of (get_or ws i []) ≤ 3
table_sum c q i ws few e lt =
    let here : i < node_count c q = omega (arith, ap length e, length-map (nodes_of c q) padded, node_number c q few) in
    omega (arith, ap degree_of (entry_at c q i ws [] few here e), padded_sum c q (get_or (nodes_of c q) i []) (node_at c q i few here))

same_labels : (c : Cell) (q j : ℕ) (f : Family) (k : ℕ) (vs : List ℕ) (ns : List (List ℕ)) → length vs ≡ suc (dimension c) → list_all (is_node c q) ns ≡ true
    → map (λ w. key_of (node_label j f k vs w)) (map padded ns) ≡ map key_of (map (node_label j f k vs) ns)
same_labels c q j f k vs [] size all = refl
same_labels c q j f k vs (w ∷ ns) size all =
    let here = first_node c q w ns all in
    let e : weighted vs (padded w) ≡ weighted vs w = weighted-behind vs w (zeros (4 - length w)) (omega (arith, size, node_vertices c q w here.0)) in
    ap₂ (λ (ps : List Weighted) (ks : List Key). key_of (record { part = j; cell = cell_in_label f k; vertices = vertices_of ps; weights = weights_of ps }) ∷ ks) e (same_labels c q j f k vs ns size here.1)

-- the labels of a part, from its table
pub table_labels : (c : Cell) (j : ℕ) (s : Scalar) (k i : ℕ) (vs : List ℕ) (ws : List (List ℕ)) → s.degree ≤ 3 → length vs ≡ dimension c + 1 → ws ≡ map padded (nodes_of c s.degree) → length ws ≤ i
    → map (λ w. key_of (node_label j s.family k vs w)) (take i ws) ≡ map key_of (part_labels c j s k vs)
table_labels c j s k i vs ws few size e all =
    ap (map (λ w. key_of (node_label j s.family k vs w))) (take_all i ws all ∙ e)
    ∙ same_labels c s.degree j s.family k vs (nodes_of c s.degree) (omega arith) (all_nodes c s.degree few)

-- one of the parts
pub part_on : (c : Cell) (ps : List Part) (i : ℕ) (d : Part) → AllByRecursion (IsOn c) (map scalar_of ps) → i < length ps → IsOn c (scalar_of (get_or ps i d))
part_on c [] i d all lt = absurd (omega arith)
part_on c (p ∷ ps) zero d all lt = all.0
part_on c (p ∷ ps) (suc i) d all lt = part_on c ps i d all.1 (omega arith)
