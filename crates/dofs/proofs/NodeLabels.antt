-- The labels of the local nodes of a cell: their functions are those of the nodes, no two are equal, and no other label has a function there
use Rattle.std.proofs.Common.{◌≡◌, ◌≢◌, ℕ, suc, ◌≤◌, Bool, true, false, ◌&&◌, ◌||◌, ◌==◌, List, [], ◌∷◌, length, map, nat_lt, if◌then◌else◌, refl, sym, ap, ap₂, ◌∙◌, subst, arith, eq-eqb, true≢false}
use Rattle.std.specs.List.{AllByRecursion, list_all}
use Rattle.std.proofs.lemmas.Bool.Decides.{nat_tests}
use Rattle.calculus.specs.Polynomial.{nil, one}
use Rattle.calculus.specs.Simplex.{Simplex}
use Rattle.calculus.specs.LocalFunction.{degree_of, lies_on, weights_of, local_function, label_function}
use Rattle.calculus.proofs.LocalFunctions.{degree_zero}
use Rattle.spaces.specs.declared.cell.Cell.{Cell}
use Rattle.spaces.specs.declared.family.Family.{Family}
use Rattle.spaces.specs.declared.family.Family.TheVariants.{Lagrange, Dg, Real}
use Rattle.spaces.specs.Cell.{dimension}
use Rattle.spaces.specs.Scalar.{Scalar}
use Rattle.spaces.specs.Nodes.{nodes_of, rank, comes_before, before_all, in_strict_order}
use Rattle.spaces.proofs.NodeLaws.{is_node, all_nodes}
use Rattle.spaces.proofs.AllNodes.{complete, strict_order}
use Rattle.dofs.specs.Label.{Label, Weighted, weighted, node_label, cell_in_label, vertices_of, weights_of as weights_in}
use Rattle.dofs.specs.Parts.{IsOn}
use Rattle.dofs.specs.Rows.{part_labels, local_labels}
use Rattle.dofs.proofs.LocalLaws.{both_true, first_node, node_vertices}
use Rattle.dofs.proofs.SetLaws.{Member, all_append}
use Rattle.dofs.specs.Basis.{CellOf, pairs, is_on, function_on}
use Rattle.dofs.proofs.Lists.{member_map, IsDistinct, distinct_map, distinct_append}
use Rattle.dofs.proofs.Supports.{IsSupport, pair_of, weighted_lies_on, round_trip, back_again, sum_weighted, pairs_back, length-weights_of}

-- ---- the function of a local node
pub on_own_cell : (f : Family) (k : ℕ) → is_on (cell_in_label f k) k ≡ true
on_own_cell Lagrange k = refl
on_own_cell Dg k = eq-eqb k k refl
on_own_cell Real k = refl

label_function_is : (vs ws : List ℕ) (v : Simplex) → IsDistinct vs → length ws ≡ length vs → label_function (map pair_of (weighted vs ws)) vs v ≡ local_function v ws
unfolding label_function
label_function_is vs ws v d e =
    ap (λ t. elim t [ true ↦ local_function v (weights_of (map pair_of (weighted vs ws)) vs) | false ↦ nil ]) (weighted_lies_on vs ws)
    ∙ ap (local_function v) (round_trip vs ws d e)

pub function_of_node : (j : ℕ) (f : Family) (k : ℕ) (vs ws : List ℕ) (v : Simplex) → IsDistinct vs → length ws ≡ length vs
    → function_on (node_label j f k vs ws) (record { number = k; vertices = vs; corners = v }) ≡ local_function v ws
function_of_node j f k vs ws v d e =
    ap₂ (λ t L. if t then label_function L vs v else nil) (on_own_cell f k) (pairs_back (weighted vs ws)) ∙ label_function_is vs ws v d e

-- a label without vertices, which those of degree 0 are, has the function 1 where it lives
no_weights : (vs : List ℕ) → degree_of (weights_of [] vs) ≡ 0
no_weights [] = refl
no_weights (v ∷ vs) = omega (arith, no_weights vs)

pub constant_function : (l : Label) (k : CellOf) → l.vertices ≡ [] → is_on l.cell k.number ≡ true → function_on l k ≡ one
unfolding label_function
constant_function l k none on =
    ap₂ (λ t (us : List ℕ). if t then label_function (pairs us l.weights) k.vertices k.corners else nil) on none
    ∙ degree_zero k.corners (weights_of [] k.vertices) (no_weights k.vertices)

-- no label has a function on another cell than its own, nor one where a vertex isn't the cell's
pub other_cell : (l : Label) (k : CellOf) → is_on l.cell k.number ≡ false → function_on l k ≡ nil
other_cell l k off = ap (λ t. if t then label_function (pairs l.vertices l.weights) k.vertices k.corners else nil) off

pub other_vertex : (l : Label) (k : CellOf) → lies_on (pairs l.vertices l.weights) k.vertices ≡ false → function_on l k ≡ nil
unfolding label_function
other_vertex l k off =
    ap (λ p. if is_on l.cell k.number then p else nil) (ap (λ t. elim t [ true ↦ local_function k.corners (weights_of (pairs l.vertices l.weights) k.vertices) | false ↦ nil ]) off)
    ∙ either (is_on l.cell k.number)
  where
    either : (t : Bool) → (if t then nil else nil) ≡ nil
    either true = refl
    either false = refl

-- ---- no two nodes of a part are equal
before_itself : (xs : List ℕ) → comes_before xs xs ≡ false
before_itself [] = refl
before_itself (x ∷ xs) = ap₂ (λ a b. a || (x == x && b)) (itself x) (before_itself xs) ∙ either (x == x)
  where
    itself : (x : ℕ) → nat_lt x x ≡ false
    itself x = grind (arith, nat_tests)

    either : (t : Bool) → (false || (t && false)) ≡ false
    either true = refl
    either false = refl

before_others : (w : List ℕ) (vs : List (List ℕ)) → before_all w vs ≡ true → AllByRecursion (λ v. w ≢ v) vs
before_others w [] h = tt
before_others w (v ∷ vs) h =
    let both = both_true (comes_before (rank w) (rank v)) (before_all w vs) h in
    (λ e. true≢false (sym both.0 ∙ ap (λ u. comes_before (rank w) (rank u)) (sym e) ∙ before_itself (rank w)), before_others w vs both.1)

distinct_in_order : (ws : List (List ℕ)) → in_strict_order ws ≡ true → IsDistinct ws
distinct_in_order [] h = tt
distinct_in_order (w ∷ ws) h = let both = both_true (before_all w ws) (in_strict_order ws) h in (before_others w ws both.0, distinct_in_order ws both.1)

pub distinct_nodes : (c : Cell) (q : ℕ) → q ≤ 3 → IsDistinct (nodes_of c q)
distinct_nodes c q few = distinct_in_order (nodes_of c q) (strict_order c q few)

-- ---- nor are two labels of a cell
pub record IsCellOf (c : Cell) (vs : List ℕ) : Type 0 where
  pub size : length vs ≡ suc (dimension c)
  pub distinct : IsDistinct vs

pub sizes : (c : Cell) (q : ℕ) (vs : List ℕ) (ns : List (List ℕ)) → IsCellOf c vs → list_all (is_node c q) ns ≡ true → AllByRecursion (λ w. length w ≡ length vs) ns
sizes c q vs [] is all = tt
sizes c q vs (w ∷ ns) is all = let both = first_node c q w ns all in (node_vertices c q w both.0 ∙ sym is.size, sizes c q vs ns is both.1)

-- the weights come back from the label
label_back : (j : ℕ) (f : Family) (k : ℕ) (vs ws : List ℕ) → IsDistinct vs → length ws ≡ length vs → weights_of (pairs (node_label j f k vs ws).vertices (node_label j f k vs ws).weights) vs ≡ ws
label_back j f k vs ws d e = ap (λ L. weights_of L vs) (pairs_back (weighted vs ws)) ∙ round_trip vs ws d e

pub same_node : (j : ℕ) (f : Family) (k : ℕ) (vs ws us : List ℕ) → IsDistinct vs → length ws ≡ length vs → length us ≡ length vs → node_label j f k vs ws ≡ node_label j f k vs us → ws ≡ us
same_node j f k vs ws us d a b e = sym (label_back j f k vs ws d a) ∙ ap (λ (l : Label). weights_of (pairs l.vertices l.weights) vs) e ∙ label_back j f k vs us d b

pub distinct_part : (c : Cell) (j : ℕ) (s : Scalar) (k : ℕ) (vs : List ℕ) → s.degree ≤ 3 → IsCellOf c vs → IsDistinct (part_labels c j s k vs)
distinct_part c j s k vs few is =
    distinct_map (λ w. length w ≡ length vs) (node_label j s.family k vs) (λ w u a b. same_node j s.family k vs w u is.distinct a b)
    (nodes_of c s.degree) (sizes c s.degree vs (nodes_of c s.degree) is (all_nodes c s.degree few)) (distinct_nodes c s.degree few)

pub parts_are : (f : Family) (j k : ℕ) (vs : List ℕ) (ns : List (List ℕ)) → AllByRecursion (λ (l : Label). l.part ≡ j) (map (node_label j f k vs) ns)
parts_are f j k vs [] = tt
parts_are f j k vs (w ∷ ns) = (refl, parts_are f j k vs ns)

pub parts_from : (c : Cell) (j : ℕ) (ss : List Scalar) (k : ℕ) (vs : List ℕ) → AllByRecursion (λ (l : Label). j ≤ l.part) (local_labels c j ss k vs)
parts_from c j [] k vs = tt
parts_from c j (s ∷ ss) k vs =
    all_append (λ (l : Label). j ≤ l.part) (part_labels c j s k vs) (local_labels c (suc j) ss k vs)
    (weaker (part_labels c j s k vs) (parts_are s.family j k vs (nodes_of c s.degree))) (less (local_labels c (suc j) ss k vs) (parts_from c (suc j) ss k vs))
  where
    weaker : (ls : List Label) → AllByRecursion (λ (l : Label). l.part ≡ j) ls → AllByRecursion (λ (l : Label). j ≤ l.part) ls
    weaker [] all = tt
    weaker (l ∷ ls) all = (omega (arith, all.0), weaker ls all.1)

    less : (ls : List Label) → AllByRecursion (λ (l : Label). suc j ≤ l.part) ls → AllByRecursion (λ (l : Label). j ≤ l.part) ls
    less [] all = tt
    less (l ∷ ls) all = (omega (arith, all.0), less ls all.1)

-- distinct local nodes have distinct labels
pub distinct_local : (c : Cell) (j : ℕ) (ss : List Scalar) (k : ℕ) (vs : List ℕ) → AllByRecursion (IsOn c) ss → IsCellOf c vs → IsDistinct (local_labels c j ss k vs)
distinct_local c j [] k vs on is = tt
distinct_local c j (s ∷ ss) k vs on is =
    distinct_append (λ (l : Label). l.part ≡ j) (λ (l : Label). suc j ≤ l.part) (λ l m a b e. absurd (omega (arith, a, b, ap (λ (n : Label). n.part) e)))
    (part_labels c j s k vs) (local_labels c (suc j) ss k vs) (parts_are s.family j k vs (nodes_of c s.degree)) (parts_from c (suc j) ss k vs)
    (distinct_part c j s k vs on.0.degree is) (distinct_local c (suc j) ss k vs on.1 is)

-- ---- a label of a part that lives on a cell is that of a local node
-- that of a node of some cell
pub record IsNodeLabel (s : Scalar) (l : Label) : Type 0 where
  pub support : List Weighted
  pub sound : IsSupport support
  pub vertices : l.vertices ≡ vertices_of support
  pub weights : l.weights ≡ weights_in support
  pub sum : degree_of (weights_in support) ≡ s.degree
  pub cell : (k : ℕ) → is_on l.cell k ≡ true → cell_in_label s.family k ≡ l.cell

pub label_here : (s : Scalar) (l : Label) (k : ℕ) (vs : List ℕ) → IsNodeLabel s l → IsDistinct vs → is_on l.cell k ≡ true → lies_on (pairs l.vertices l.weights) vs ≡ true
    → (ws : List ℕ) × (length ws ≡ length vs) × (degree_of ws ≡ s.degree) × (node_label l.part s.family k vs ws ≡ l)
label_here s l k vs n d on lies =
    let same : pairs l.vertices l.weights ≡ map pair_of n.support = ap₂ pairs n.vertices n.weights ∙ pairs_back n.support in
    let ws = weights_of (map pair_of n.support) vs in
    let back : weighted vs ws ≡ n.support = back_again n.support vs n.sound d (ap (λ L. lies_on L vs) (sym same) ∙ lies) in
    let size : length ws ≡ length vs = length-weights_of (map pair_of n.support) vs in (
      ws,
      size,
      sym (sum_weighted vs ws size) ∙ ap (λ ps. degree_of (weights_in ps)) back ∙ n.sum,
      λ i. record {
        part = l.part;
        cell = n.cell k on i;
        vertices = (ap vertices_of back ∙ sym n.vertices) i;
        weights = (ap weights_in back ∙ sym n.weights) i;
      },
    )

pub among_nodes : (c : Cell) (s : Scalar) (l : Label) (k : ℕ) (vs : List ℕ) → IsNodeLabel s l → IsCellOf c vs → is_on l.cell k ≡ true → lies_on (pairs l.vertices l.weights) vs ≡ true
    → Member l (part_labels c l.part s k vs)
among_nodes c s l k vs n is on lies =
    let h = label_here s l k vs n is.distinct on lies in
    let at = complete c s.degree h.0 (h.1 ∙ is.size) h.2 in
    subst (λ m. Member m (part_labels c l.part s k vs)) h.3 (member_map (node_label l.part s.family k vs) (nodes_of c s.degree) at.0 h.0 [] at.1 at.2)
