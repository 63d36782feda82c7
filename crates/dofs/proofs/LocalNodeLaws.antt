-- Local nodes: where their labels occur, their rows, and their functions
use Rattle.std.proofs.Common.{◌≡◌, ◌≢◌, ◌⊎◌, inl, inr, ℕ, zero, suc, ◌+◌, ◌<◌, ◌==◌, Bool, true, false, List, [], ◌∷◌, ◌++◌, length, map, get_or, slice_get, Option, None, Some, if◌then◌else◌, refl, sym, ap, ap₂, subst, ◌∙◌, arith, add-zero, zero-add, eq-eqb}
use Rattle.std.specs.Prelude.{◌↔◌}
use Rattle.std.specs.List.{AllByRecursion, Contains}
use Rattle.std.specs.List.Sorted.{IsStrictlySortedBy}
use Rattle.std.proofs.lemmas.List.{map-append}
use Rattle.std.proofs.lemmas.Bool.{ne_eqb}
use Rattle.algebra.specs.Fraction.{Fraction}
use Rattle.ratio.specs.declared.reduced.Ratio.{Ratio}
use Rattle.calculus.specs.Polynomial.{nil, one}
use Rattle.calculus.specs.LocalFunction.{local_function, lies_on}
use Rattle.spaces.specs.declared.cell.Cell.{Cell}
use Rattle.spaces.specs.declared.family.Family.{Family}
use Rattle.spaces.specs.declared.family.Family.TheVariants.{Lagrange, Dg, Real}
use Rattle.spaces.specs.Scalar.{Scalar}
use Rattle.spaces.specs.Space.{Space, IsLawful, cell_of, scalars}
use Rattle.spaces.specs.Nodes.{nodes_of}
use Rattle.spaces.proofs.NodeLaws.{all_nodes}
use Rattle.mesh_in.specs.MeshData.{MeshData, IsMesh, fractions}
use Rattle.dofs.specs.Label.{Label, node_label}
use Rattle.dofs.specs.Order.{label_cmp, place}
use Rattle.dofs.specs.Parts.{IsOn}
use Rattle.dofs.specs.Basis.{CellOf, pairs, is_on, function_on, basis_value}
use Rattle.dofs.specs.LocalNodes.{LocalNode, node_of, nodes_from, local_nodes, label_on, Occurs, HasRow}
use Rattle.dofs.specs.Rows.{Numbering, constant_label, constant, constants, part_labels, local_labels, labels_from, occurring, rows_of, cell_rows, numbering}
use Rattle.dofs.proofs.SetLaws.{Member, member_from_contains, contains_from_member, all_append, all_weaker}
use Rattle.dofs.proofs.RowLaws.{rows_in_order, has_row, row_occurs, is_at}
use Rattle.dofs.proofs.NumberingLaws.{on_space}
use Rattle.dofs.proofs.Lists.{same_some, suc-moves, member_at, member_get, member_left, member_right, member_all, all_members, all_at, one_place, unmapped}
use Rattle.dofs.proofs.NodeLabels.{IsCellOf, sizes, constant_function, function_of_node, other_cell, other_vertex, distinct_local}
use Rattle.dofs.proofs.OccurringLabels.{IsPart, HasPart, of_rows, no_component, only_local, part_in_local}
use Rattle.dofs.proofs.Elements.{lawful_parts, mesh_cells}

-- ---- lists
mapped : {A B : Type 0} (f : A → B) (xs : List A) (n : ℕ) (x : A) → slice_get xs n ≡ Some x → slice_get (map f xs) n ≡ Some (f x)
mapped f [] n x h = cc
mapped f (y ∷ xs) zero x h = ap (λ z. Some (f z)) (same_some y x h)
mapped f (y ∷ xs) (suc n) x h = mapped f xs n x h

get_some : {A : Type 0} (xs : List A) (n : ℕ) (d : A) → n < length xs → slice_get xs n ≡ Some (get_or xs n d)
get_some [] n d lt = absurd (omega arith)
get_some (x ∷ xs) zero d lt = refl
get_some (x ∷ xs) (suc n) d lt = get_some xs n d (omega arith)

member_either : {A : Type 0} (x : A) (xs ys : List A) → Member x (xs ++ ys) → Member x xs ⊎ Member x ys
member_either x [] ys m = inr m
member_either x (y ∷ xs) ys (inl e) = inl (inl e)
member_either x (y ∷ xs) ys (inr m) = elim (member_either x xs ys m) [ inl k ↦ inl (inr k) | inr k ↦ inr k ]

-- ---- local labels are those of local nodes
part_labels_are : (k : ℕ) (vs : List ℕ) (j : ℕ) (f : Family) (ws : List (List ℕ)) → map (node_label j f k vs) ws ≡ map (label_on k vs) (map (node_of j f) ws)
part_labels_are k vs j f [] = refl
part_labels_are k vs j f (w ∷ ws) = ap (λ ls. node_label j f k vs w ∷ ls) (part_labels_are k vs j f ws)

labels_of_nodes : (c : Cell) (j : ℕ) (ss : List Scalar) (k : ℕ) (vs : List ℕ) → local_labels c j ss k vs ≡ map (label_on k vs) (nodes_from c j ss)
labels_of_nodes c j [] k vs = refl
labels_of_nodes c j (s ∷ ss) k vs =
    ap₂ (λ a b. a ++ b) (part_labels_are k vs j s.family (nodes_of c s.degree)) (labels_of_nodes c (suc j) ss k vs)
    ∙ sym (map-append (label_on k vs) (map (node_of j s.family) (nodes_of c s.degree)) (nodes_from c (suc j) ss))

label_at : (c : Cell) (ss : List Scalar) (k : ℕ) (vs : List ℕ) (a : ℕ) (node : LocalNode) → slice_get (nodes_from c zero ss) a ≡ Some node
    → slice_get (local_labels c zero ss k vs) a ≡ Some (label_on k vs node)
label_at c ss k vs a node h = ap (λ ls. slice_get ls a) (labels_of_nodes c zero ss k vs) ∙ mapped (label_on k vs) (nodes_from c zero ss) a node h

-- ---- of the cells
in_cells : (c : Cell) (ss : List Scalar) (j k : ℕ) (cells : List (List ℕ)) (vs : List ℕ) (l : Label) → slice_get cells k ≡ Some vs → Member l (local_labels c zero ss (j + k) vs)
    → Member l (labels_from c ss j cells)
in_cells c ss j k [] vs l h m = cc
in_cells c ss j zero (us ∷ cells) vs l h m =
    member_left l (local_labels c zero ss j us) (labels_from c ss (suc j) cells)
    (subst (λ v. Member l (local_labels c zero ss j v)) (sym (same_some us vs h)) (subst (λ n. Member l (local_labels c zero ss n vs)) (add-zero j) m))
in_cells c ss j (suc k) (us ∷ cells) vs l h m =
    member_right l (local_labels c zero ss j us) (labels_from c ss (suc j) cells)
    (in_cells c ss (suc j) k cells vs l h (subst (λ n. Member l (local_labels c zero ss n vs)) (sym (suc-moves j k)) m))

record InCell (c : Cell) (ss : List Scalar) (j : ℕ) (cells : List (List ℕ)) (l : Label) : Type 0 where
  cell : ℕ
  vertices : List ℕ
  at : slice_get cells cell ≡ Some vertices
  member : Member l (local_labels c zero ss (j + cell) vertices)

from_cells : (c : Cell) (ss : List Scalar) (j : ℕ) (cells : List (List ℕ)) (l : Label) → Member l (labels_from c ss j cells) → InCell c ss j cells l
from_cells c ss j [] l m = absurd m
from_cells c ss j (vs ∷ cells) l m = elim (member_either l (local_labels c zero ss j vs) (labels_from c ss (suc j) cells) m) [
  | inl here ↦ record { cell = zero; vertices = vs; at = refl; member = subst (λ n. Member l (local_labels c zero ss n vs)) (sym (add-zero j)) here }
  | inr later ↦
      let r = from_cells c ss (suc j) cells l later in
      record { cell = suc r.cell; vertices = r.vertices; at = r.at; member = subst (λ n. Member l (local_labels c zero ss n r.vertices)) (suc-moves j r.cell) r.member }
]

-- ---- constants
to_constants : (j : ℕ) (ss : List Scalar) (i : ℕ) (s : Scalar) → slice_get ss i ≡ Some s → s.family ≡ Real → Member (constant_label (j + i)) (constants j ss)
to_constants j [] i s h real = cc
to_constants j (t ∷ ss) zero s h real =
    member_left (constant_label (j + zero)) (constant j t.family) (constants (suc j) ss)
    (subst (λ f. Member (constant_label (j + zero)) (constant j f)) (sym (ap (λ (r : Scalar). r.family) (same_some t s h) ∙ real)) (inl (ap constant_label (add-zero j))))
to_constants j (t ∷ ss) (suc i) s h real =
    member_right (constant_label (j + suc i)) (constant j t.family) (constants (suc j) ss)
    (subst (λ n. Member (constant_label n) (constants (suc j) ss)) (suc-moves j i) (to_constants (suc j) ss i s h real))

record FromConstant (j : ℕ) (ss : List Scalar) (l : Label) : Type 0 where
  part : ℕ
  scalar : Scalar
  at : slice_get ss part ≡ Some scalar
  real : scalar.family ≡ Real
  label : l ≡ constant_label (j + part)

from_constant : (j : ℕ) (f : Family) (l : Label) → Member l (constant j f) → (f ≡ Real) × (l ≡ constant_label j)
from_constant j Lagrange l m = absurd m
from_constant j Dg l m = absurd m
from_constant j Real l (inl e) = (refl, e)
from_constant j Real l (inr m) = absurd m

from_constants : (j : ℕ) (ss : List Scalar) (l : Label) → Member l (constants j ss) → FromConstant j ss l
from_constants j [] l m = absurd m
from_constants j (s ∷ ss) l m = elim (member_either l (constant j s.family) (constants (suc j) ss) m) [
  | inl here ↦
      let r = from_constant j s.family l here in
      record { part = zero; scalar = s; at = refl; real = r.0; label = r.1 ∙ ap constant_label (sym (add-zero j)) }
  | inr later ↦
      let r = from_constants (suc j) ss l later in
      record { part = suc r.part; scalar = r.scalar; at = r.at; real = r.real; label = r.label ∙ ap constant_label (suc-moves j r.part) }
]

-- ---- the rows are the labels that occur
occurs_from : {A : Type 0} (m : MeshData A) (s : Space) (l : Label) → Member l (occurring m.kind (scalars s) m.cells) → Occurs m s l
occurs_from m s l h = elim (member_either l (constants zero (scalars s)) (labels_from m.kind (scalars s) zero m.cells) h) [
  | inl here ↦
      let r = from_constants zero (scalars s) l here in
      inr (record { part = r.part; scalar = r.scalar; is_part = r.at; is_real = r.real; label = r.label ∙ ap constant_label (zero-add r.part) })
  | inr later ↦
      let r = from_cells m.kind (scalars s) zero m.cells l later in
      let at = member_get (local_labels m.kind zero (scalars s) (zero + r.cell) r.vertices) l r.member in
      let node = unmapped (label_on (zero + r.cell) r.vertices) (local_nodes m.kind s) at.0 l
      (ap (λ ls. slice_get ls at.0) (sym (labels_of_nodes m.kind zero (scalars s) (zero + r.cell) r.vertices)) ∙ at.1) in
      inl (record {
        cell = r.cell;
        vertices = r.vertices;
        number = at.0;
        node = node.0;
        is_cell = r.at;
        is_node = node.1;
        label = sym node.2 ∙ ap (λ k. label_on k r.vertices node.0) (zero-add r.cell);
      })
]

node_occurs : {A : Type 0} (m : MeshData A) (s : Space) (k : ℕ) (vs : List ℕ) (a : ℕ) (l : Label) → slice_get m.cells k ≡ Some vs
    → slice_get (local_labels m.kind zero (scalars s) k vs) a ≡ Some l → Member l (occurring m.kind (scalars s) m.cells)
node_occurs m s k vs a l here at =
    member_right l (constants zero (scalars s)) (labels_from m.kind (scalars s) zero m.cells)
    (in_cells m.kind (scalars s) zero k m.cells vs l here
    (subst (λ n. Member l (local_labels m.kind zero (scalars s) n vs)) (sym (zero-add k)) (member_at (local_labels m.kind zero (scalars s) k vs) a l at)))

occurs_to : {A : Type 0} (m : MeshData A) (s : Space) (l : Label) → Occurs m s l → Member l (occurring m.kind (scalars s) m.cells)
occurs_to m s l (inl h) =
    subst (λ n. Member n (occurring m.kind (scalars s) m.cells)) (sym h.label)
    (node_occurs m s h.cell h.vertices h.number (label_on h.cell h.vertices h.node) h.is_cell (label_at m.kind (scalars s) h.cell h.vertices h.number h.node h.is_node))
occurs_to m s l (inr h) =
    member_left l (constants zero (scalars s)) (labels_from m.kind (scalars s) zero m.cells)
    (subst (λ n. Member n (constants zero (scalars s))) (ap constant_label (zero-add h.part) ∙ sym h.label) (to_constants zero (scalars s) h.part h.scalar h.is_part h.is_real))

pub in_order : {A : Type 0} (m : MeshData A) (s : Space) → IsStrictlySortedBy label_cmp (numbering m s).labels
unfolding numbering
in_order m s = rows_in_order m.kind (scalars s) m.cells

pub rows_are : {A : Type 0} (m : MeshData A) (s : Space) (l : Label) → Contains (numbering m s).labels l ↔ Occurs m s l
unfolding numbering
rows_are m s l = (
  λ h. occurs_from m s l (member_from_contains (occurring m.kind (scalars s) m.cells) l (row_occurs m.kind (scalars s) m.cells l h)),
  λ h. has_row m.kind (scalars s) m.cells l (contains_from_member (occurring m.kind (scalars s) m.cells) l (occurs_to m s l h)),
)

-- ---- the rows of local nodes
cell_row : (c : Cell) (ss : List Scalar) (ms : List Label) (j k : ℕ) (cells : List (List ℕ)) (vs : List ℕ) → slice_get cells k ≡ Some vs
    → slice_get (cell_rows c ss ms j cells) k ≡ Some (map (λ l. place label_cmp l ms) (local_labels c zero ss (j + k) vs))
cell_row c ss ms j k [] vs h = cc
cell_row c ss ms j zero (us ∷ cells) vs h = ap₂ (λ n v. Some (map (λ l. place label_cmp l ms) (local_labels c zero ss n v))) (sym (add-zero j)) (same_some us vs h)
cell_row c ss ms j (suc k) (us ∷ cells) vs h = cell_row c ss ms (suc j) k cells vs h ∙ ap (λ n. Some (map (λ l. place label_cmp l ms) (local_labels c zero ss n vs))) (suc-moves j k)

row_of_label : {A : Type 0} (m : MeshData A) (s : Space) (k : ℕ) (vs : List ℕ) (a : ℕ) (l : Label) → slice_get m.cells k ≡ Some vs
    → slice_get (local_labels m.kind zero (scalars s) k vs) a ≡ Some l → HasRow (numbering m s) k a l
unfolding numbering
row_of_label m s k vs a l here at =
    let ss = scalars s in
    let ms = rows_of m.kind ss m.cells in
    let found = is_at l ms (rows_in_order m.kind ss m.cells) (has_row m.kind ss m.cells l (contains_from_member (occurring m.kind ss m.cells) l (node_occurs m s k vs a l here at))) in
    record {
      rows = map (λ l. place label_cmp l ms) (local_labels m.kind zero ss k vs);
      row = place label_cmp l ms;
      of_cell = cell_row m.kind ss ms zero k m.cells vs here ∙ ap (λ n. Some (map (λ l. place label_cmp l ms) (local_labels m.kind zero ss n vs))) (zero-add k);
      of_node = mapped (λ l. place label_cmp l ms) (local_labels m.kind zero ss k vs) a l at;
      label = get_some ms (place label_cmp l ms) l found.below ∙ ap Some (found.label l);
    }

-- each local label of a cell is that of a row
local_rows : (m : MeshData Fraction) (s : Space) (k : ℕ) (vs : List ℕ) → slice_get m.cells k ≡ Some vs → AllByRecursion (Contains (rows_of m.kind (scalars s) m.cells)) (local_labels m.kind zero (scalars s) k vs)
local_rows m s k vs here =
    all_weaker (λ l. Member l (local_labels m.kind zero (scalars s) k vs)) (Contains (rows_of m.kind (scalars s) m.cells))
    (λ l member. let at = member_get (local_labels m.kind zero (scalars s) k vs) l member in
    has_row m.kind (scalars s) m.cells l (contains_from_member (occurring m.kind (scalars s) m.cells) l (node_occurs m s k vs at.0 l here at.1)))
    (local_labels m.kind zero (scalars s) k vs) (all_members (local_labels m.kind zero (scalars s) k vs))

pub row_of_node : {A : Type 0} (m : MeshData A) (s : Space) (k : ℕ) (vs : List ℕ) (a : ℕ) (node : LocalNode) → slice_get m.cells k ≡ Some vs → slice_get (local_nodes m.kind s) a ≡ Some node
    → HasRow (numbering m s) k a (label_on k vs node)
row_of_node m s k vs a node here is = row_of_label m s k vs a (label_on k vs node) here (label_at m.kind (scalars s) k vs a node is)

pub same_rows : (m : MeshData Ratio) (s : Space) → numbering (fractions m) s ≡ numbering m s
unfolding numbering
same_rows m s = refl

row_is_one : (n : Numbering) (k a : ℕ) (l r : Label) → HasRow n k a l → HasRow n k a r → l ≡ r
row_is_one n k a l r g h =
    let rows = same_some g.rows h.rows (sym g.of_cell ∙ h.of_cell) in
    let row = same_some g.row h.row (sym g.of_node ∙ ap (λ rs. slice_get rs a) rows ∙ h.of_node) in
    same_some l r (sym g.label ∙ ap (slice_get n.labels) row ∙ h.label)

-- ---- no two local nodes of a cell share a row
row_label : (ms ls : List Label) (a n : ℕ) (l : Label) → IsStrictlySortedBy label_cmp ms → AllByRecursion (Contains ms) ls → slice_get (map (λ l. place label_cmp l ms) ls) a ≡ Some n → slice_get ms n ≡ Some l
    → slice_get ls a ≡ Some l
row_label ms ls a n l up all of_node label =
    let p = unmapped (λ l. place label_cmp l ms) ls a n of_node in
    let found = is_at p.0 ms up (all_at (Contains ms) ls a p.0 all p.1) in
    let same : p.0 ≡ l = same_some p.0 l (sym (get_some ms (place label_cmp p.0 ms) p.0 found.below ∙ ap Some (found.label p.0)) ∙ ap (slice_get ms) p.2 ∙ label) in
    p.1 ∙ ap Some same

no_row : (c : Cell) (ss : List Scalar) (ms : List Label) (j k : ℕ) (cells : List (List ℕ)) → slice_get cells k ≡ None → slice_get (cell_rows c ss ms j cells) k ≡ None
no_row c ss ms j k [] h = refl
no_row c ss ms j zero (us ∷ cells) h = cc
no_row c ss ms j (suc k) (us ∷ cells) h = no_row c ss ms (suc j) k cells h

-- the local label of a row
record IsLocal (m : MeshData Fraction) (s : Space) (k a : ℕ) (l : Label) : Type 0 where
  vertices : List ℕ
  here : slice_get m.cells k ≡ Some vertices
  at : slice_get (local_labels m.kind zero (scalars s) k vertices) a ≡ Some l

local_of_row : (m : MeshData Fraction) (s : Space) (k a : ℕ) (l : Label) → HasRow (numbering m s) k a l → IsLocal m s k a l
unfolding numbering
local_of_row m s k a l h = go (slice_get m.cells k) refl
  where
    ss : List Scalar
    ss = scalars s

    ms : List Label
    ms = rows_of m.kind ss m.cells

    go : (o : Option (List ℕ)) → slice_get m.cells k ≡ o → IsLocal m s k a l
    go None e = let impossible : Some h.rows ≡ None = sym h.of_cell ∙ no_row m.kind ss ms zero k m.cells e in cc
    go (Some vs) e =
        let rows : h.rows ≡ map (λ l. place label_cmp l ms) (local_labels m.kind zero ss k vs) =
        same_some h.rows _ (sym h.of_cell ∙ cell_row m.kind ss ms zero k m.cells vs e ∙ ap (λ n. Some (map (λ l. place label_cmp l ms) (local_labels m.kind zero ss n vs))) (zero-add k)) in
        record {
          vertices = vs;
          here = e;
          at = row_label ms (local_labels m.kind zero ss k vs) a h.row l (rows_in_order m.kind ss m.cells) (local_rows m s k vs e) (ap (λ rs. slice_get rs a) (sym rows) ∙ h.of_node) h.label;
        }

on_mesh : (m : MeshData Fraction) (s : Space) → IsLawful s → m.kind ≡ cell_of s → AllByRecursion (IsPart m.kind) (scalars s)
on_mesh m s lawful e = subst (λ c. AllByRecursion (IsPart c) (scalars s)) (sym e) (lawful_parts s lawful)

on_cells : (m : MeshData Fraction) (s : Space) → IsLawful s → m.kind ≡ cell_of s → AllByRecursion (IsOn m.kind) (scalars s)
on_cells m s lawful e = subst (λ c. AllByRecursion (IsOn c) (scalars s)) (sym e) (on_space s lawful)

pub one_row : (m : MeshData Fraction) (s : Space) → IsMesh m → IsLawful s → m.kind ≡ cell_of s → (k a b : ℕ) (l : Label) → HasRow (numbering m s) k a l → HasRow (numbering m s) k b l → a ≡ b
one_row m s mesh lawful e k a b l g h =
    let first = local_of_row m s k a l g in
    let second = local_of_row m s k b l h in
    let same : second.vertices ≡ first.vertices = same_some second.vertices first.vertices (sym second.here ∙ first.here) in
    one_place (local_labels m.kind zero (scalars s) k first.vertices) a b l
    (distinct_local m.kind zero (scalars s) k first.vertices (on_cells m s lawful e) (all_at (IsCellOf m.kind) m.cells k first.vertices (mesh_cells m mesh) first.here))
    first.at (ap (λ vs. slice_get (local_labels m.kind zero (scalars s) k vs) b) (sym same) ∙ second.at)

-- ---- functions on cells
part_sizes : (j : ℕ) (f : Family) (vs : List ℕ) (ws : List (List ℕ)) → AllByRecursion (λ w. length w ≡ length vs) ws → AllByRecursion (λ (n : LocalNode). length n.weights ≡ length vs) (map (node_of j f) ws)
part_sizes j f vs [] all = tt
part_sizes j f vs (w ∷ ws) all = (all.0, part_sizes j f vs ws all.1)

node_sizes : (c : Cell) (j : ℕ) (ss : List Scalar) (vs : List ℕ) → AllByRecursion (IsOn c) ss → IsCellOf c vs → AllByRecursion (λ (n : LocalNode). length n.weights ≡ length vs) (nodes_from c j ss)
node_sizes c j [] vs on is = tt
node_sizes c j (s ∷ ss) vs on is =
    all_append (λ (n : LocalNode). length n.weights ≡ length vs) (map (node_of j s.family) (nodes_of c s.degree)) (nodes_from c (suc j) ss)
    (part_sizes j s.family vs (nodes_of c s.degree) (sizes c s.degree vs (nodes_of c s.degree) is (all_nodes c s.degree on.0.degree))) (node_sizes c (suc j) ss vs on.1 is)

pub function_is : (m : MeshData Fraction) (s : Space) → IsMesh m → IsLawful s → m.kind ≡ cell_of s → (k : CellOf) (a : ℕ) (node : LocalNode) (l : Label) → slice_get m.cells k.number ≡ Some k.vertices
    → slice_get (local_nodes m.kind s) a ≡ Some node → HasRow (numbering m s) k.number a l → (i : ℕ) → basis_value l k i ≡ (if node.part == i then local_function k.corners node.weights else nil)
function_is m s mesh lawful e k a node l here is h i =
    let cell = all_at (IsCellOf m.kind) m.cells k.number k.vertices (mesh_cells m mesh) here in
    let size = all_at (λ (n : LocalNode). length n.weights ≡ length k.vertices) (local_nodes m.kind s) a node (node_sizes m.kind zero (scalars s) k.vertices (on_cells m s lawful e) cell) is in
    ap (λ r. basis_value r k i) (row_is_one (numbering m s) k.number a l (label_on k.number k.vertices node) h (row_of_node m s k.number k.vertices a node here is))
    ∙ ap (λ p. if node.part == i then p else nil) (function_of_node node.part node.family k.number k.vertices node.weights k.corners cell.distinct size)

-- ---- and elsewhere
nil_in_each : (l : Label) (k : CellOf) (i : ℕ) → function_on l k ≡ nil → basis_value l k i ≡ nil
nil_in_each l k i none = go (l.part == i)
  where
    go : (t : Bool) → (if t then function_on l k else nil) ≡ nil
    go true = none
    go false = refl

pub on_other_cell : (l : Label) (k : CellOf) (c i : ℕ) → l.cell ≡ Some c → c ≢ k.number → basis_value l k i ≡ nil
on_other_cell l k c i e other = nil_in_each l k i (other_cell l k (ap (λ o. is_on o k.number) e ∙ ne_eqb c k.number other))

pub without_vertex : (l : Label) (k : CellOf) (i : ℕ) → lies_on (pairs l.vertices l.weights) k.vertices ≡ false → basis_value l k i ≡ nil
without_vertex l k i off = nil_in_each l k i (other_vertex l k off)

part_of : (m : MeshData Fraction) (s : Space) → IsMesh m → IsLawful s → m.kind ≡ cell_of s → (l : Label) → Contains (numbering m s).labels l → HasPart (scalars s) l
unfolding numbering
part_of m s mesh lawful e l h =
    member_all (HasPart (scalars s)) (rows_of m.kind (scalars s) m.cells) l (of_rows m.kind (scalars s) m.cells (on_mesh m s lawful e) (mesh_cells m mesh))
    (member_from_contains (rows_of m.kind (scalars s) m.cells) l h)

pub only_local_rows : (m : MeshData Fraction) (s : Space) → IsMesh m → IsLawful s → m.kind ≡ cell_of s → (k : CellOf) (l : Label) (i : ℕ) → slice_get m.cells k.number ≡ Some k.vertices
    → Contains (numbering m s).labels l → (basis_value l k i ≡ nil) ⊎ ((a : ℕ) × HasRow (numbering m s) k.number a l)
only_local_rows m s mesh lawful e k l i here h = go (slice_get (scalars s) i) refl
  where
    cell : IsCellOf m.kind k.vertices
    cell = all_at (IsCellOf m.kind) m.cells k.number k.vertices (mesh_cells m mesh) here

    part : HasPart (scalars s) l
    part = part_of m s mesh lawful e l h

    go : (o : Option Scalar) → slice_get (scalars s) i ≡ o → (basis_value l k i ≡ nil) ⊎ ((a : ℕ) × HasRow (numbering m s) k.number a l)
    go None none = inl (no_component (scalars s) l k i part none)
    go (Some t) some = elim (only_local m.kind (scalars s) l k i t part cell some) [
      | inl zero_there ↦ inl zero_there
      | inr member ↦
          let at = member_get (local_labels m.kind zero (scalars s) k.number k.vertices) l
          (part_in_local m.kind zero (scalars s) k.number k.vertices i t l some (subst (λ n. Member l (part_labels m.kind n t k.number k.vertices)) (sym (zero-add i)) member)) in
          inr (at.0, row_of_label m s k.number k.vertices at.0 l here at.1)
    ]

-- a label without vertices is the constant 1
pub constant_is_one : (l : Label) (k : CellOf) → l.vertices ≡ [] → is_on l.cell k.number ≡ true → basis_value l k l.part ≡ one
constant_is_one l k none on = ap (λ t. if t then function_on l k else nil) (eq-eqb l.part l.part refl) ∙ constant_function l k none on
