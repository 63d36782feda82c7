-- Each label that occurs is that of a node of its part, and has a function on a cell only where it is one of the cell's local labels
use Rattle.std.proofs.Common.{◌≡◌, ℕ, zero, suc, ◌+◌, ◌⊎◌, inl, inr, Bool, true, false, ◌==◌, List, [], ◌∷◌, map, slice_get, None, Some, if◌then◌else◌, refl, sym, ap, ◌∙◌, subst, eqb-true, add-zero, zero-add}
use Rattle.std.specs.List.{AllByRecursion, list_all}
use Rattle.calculus.specs.Polynomial.{nil}
use Rattle.calculus.specs.LocalFunction.{lies_on}
use Rattle.spaces.specs.declared.cell.Cell.{Cell}
use Rattle.spaces.specs.declared.family.Family.{Family}
use Rattle.spaces.specs.declared.family.Family.TheVariants.{Lagrange, Dg, Real}
use Rattle.spaces.specs.Scalar.{Scalar}
use Rattle.spaces.specs.Nodes.{nodes_of}
use Rattle.spaces.proofs.NodeLaws.{is_node, all_nodes}
use Rattle.dofs.specs.Label.{Label, weighted, node_label, cell_in_label}
use Rattle.dofs.specs.Order.{label_cmp}
use Rattle.dofs.specs.Parts.{IsOn}
use Rattle.dofs.specs.Rows.{part_labels, local_labels, labels_from, constant, constants, occurring, rows_of}
use Rattle.dofs.proofs.LocalLaws.{first_node, node_sum}
use Rattle.dofs.proofs.SetLaws.{Member, all_append, all_sorted_set}
use Rattle.dofs.specs.Basis.{CellOf, pairs, is_on, function_on, basis_value}
use Rattle.dofs.proofs.Lists.{suc-moves, same_some, member_left, member_right}
use Rattle.dofs.proofs.Supports.{weighted_support, sum_weighted}
use Rattle.dofs.proofs.NodeLabels.{IsCellOf, IsNodeLabel, sizes, among_nodes, other_cell, other_vertex}

-- ---- a part has the degree of its family
abbrev pub IsFlat : Family → ℕ → Type 0
IsFlat Lagrange q = Unit {0}
IsFlat Dg q = Unit {0}
IsFlat Real q = q ≡ 0

-- what is true of each part of an element on a cell
pub record IsPart (c : Cell) (s : Scalar) : Type 0 where
  pub on : IsOn c s
  pub flat : IsFlat s.family s.degree

-- the label is that of a node of its part
pub record HasPart (all : List Scalar) (l : Label) : Type 0 where
  pub scalar : Scalar
  pub part : slice_get all l.part ≡ Some scalar
  pub node : IsNodeLabel scalar l

-- ---- where labels come from
own_cell : (f : Family) (m k : ℕ) → is_on (cell_in_label f m) k ≡ true → cell_in_label f k ≡ cell_in_label f m
own_cell Lagrange m k on = refl
own_cell Dg m k on = ap Some (sym (eqb-true m k on))
own_cell Real m k on = refl

of_nodes : (c : Cell) (all : List Scalar) (j : ℕ) (s : Scalar) (k : ℕ) (vs : List ℕ) (ns : List (List ℕ)) → slice_get all j ≡ Some s → IsCellOf c vs → list_all (is_node c s.degree) ns ≡ true
    → AllByRecursion (HasPart all) (map (node_label j s.family k vs) ns)
of_nodes c all j s k vs [] at is nodes = tt
of_nodes c all j s k vs (w ∷ ns) at is nodes =
    let first = first_node c s.degree w ns nodes in (
      record {
        scalar = s;
        part = at;
        node = record {
          support = weighted vs w;
          sound = weighted_support vs w is.distinct;
          vertices = refl;
          weights = refl;
          sum = sum_weighted vs w (sizes c s.degree vs (w ∷ ns) is nodes).0 ∙ node_sum c s.degree w first.0;
          cell = own_cell s.family k;
        };
      },
      of_nodes c all j s k vs ns at is first.1,
    )

-- the parts from number j on
abbrev Are : List Scalar → ℕ → List Scalar → Type 0
Are all j ss = (i : ℕ) → slice_get all (j + i) ≡ slice_get ss i

first_is : (all : List Scalar) (j : ℕ) (s : Scalar) (ss : List Scalar) → Are all j (s ∷ ss) → slice_get all j ≡ Some s
first_is all j s ss are = ap (slice_get all) (sym (add-zero j)) ∙ are 0

rest_are : (all : List Scalar) (j : ℕ) (s : Scalar) (ss : List Scalar) → Are all j (s ∷ ss) → Are all (suc j) ss
rest_are all j s ss are i = ap (slice_get all) (suc-moves j i) ∙ are (suc i)

pub of_local : (c : Cell) (all : List Scalar) (j : ℕ) (ss : List Scalar) (k : ℕ) (vs : List ℕ) → Are all j ss → AllByRecursion (IsPart c) ss → IsCellOf c vs
    → AllByRecursion (HasPart all) (local_labels c j ss k vs)
of_local c all j [] k vs are on is = tt
of_local c all j (s ∷ ss) k vs are on is =
    all_append (HasPart all) (part_labels c j s k vs) (local_labels c (suc j) ss k vs)
    (of_nodes c all j s k vs (nodes_of c s.degree) (first_is all j s ss are) is (all_nodes c s.degree on.0.on.degree))
    (of_local c all (suc j) ss k vs (rest_are all j s ss are) on.1 is)

of_cells : (c : Cell) (ss : List Scalar) (k : ℕ) (cells : List (List ℕ)) → AllByRecursion (IsPart c) ss → AllByRecursion (IsCellOf c) cells → AllByRecursion (HasPart ss) (labels_from c ss k cells)
of_cells c ss k [] on is = tt
of_cells c ss k (vs ∷ cells) on is =
    all_append (HasPart ss) (local_labels c zero ss k vs) (labels_from c ss (suc k) cells) (of_local c ss zero ss k vs (λ i. ap (slice_get ss) (zero-add i)) on is.0) (of_cells c ss (suc k) cells on is.1)

of_constant : (all : List Scalar) (j : ℕ) (s : Scalar) (f : Family) → s.family ≡ f → IsFlat f s.degree → slice_get all j ≡ Some s → AllByRecursion (HasPart all) (constant j f)
of_constant all j s Lagrange e flat at = tt
of_constant all j s Dg e flat at = tt
of_constant all j s Real e flat at = (
  record {
    scalar = s;
    part = at;
    node = record { support = []; sound = tt; vertices = refl; weights = refl; sum = sym flat; cell = λ k on. ap (λ g. cell_in_label g k) e };
  },
  tt,
)

of_constants : (c : Cell) (all : List Scalar) (j : ℕ) (ss : List Scalar) → Are all j ss → AllByRecursion (IsPart c) ss → AllByRecursion (HasPart all) (constants j ss)
of_constants c all j [] are on = tt
of_constants c all j (s ∷ ss) are on =
    all_append (HasPart all) (constant j s.family) (constants (suc j) ss) (of_constant all j s s.family refl on.0.flat (first_is all j s ss are)) (of_constants c all (suc j) ss (rest_are all j s ss are) on.1)

pub of_rows : (c : Cell) (ss : List Scalar) (cells : List (List ℕ)) → AllByRecursion (IsPart c) ss → AllByRecursion (IsCellOf c) cells → AllByRecursion (HasPart ss) (rows_of c ss cells)
of_rows c ss cells on is =
    all_sorted_set (HasPart ss) label_cmp (occurring c ss cells)
    (all_append (HasPart ss) (constants zero ss) (labels_from c ss zero cells) (of_constants c ss zero ss (λ i. ap (slice_get ss) (zero-add i)) on) (of_cells c ss zero cells on is))

-- ---- on one cell
-- a component that isn't there has no function
pub no_component : (ss : List Scalar) (l : Label) (k : CellOf) (i : ℕ) → HasPart ss l → slice_get ss i ≡ None → basis_value l k i ≡ nil
no_component ss l k i h none = go (l.part == i) refl
  where
    go : (t : Bool) → (l.part == i) ≡ t → (if t then function_on l k else nil) ≡ nil
    go true e = let at : Some h.scalar ≡ None = sym h.part ∙ ap (slice_get ss) (eqb-true l.part i e) ∙ none in cc
    go false e = refl

-- and where a label has one on a cell, it is that of a local node there
pub only_local : (c : Cell) (ss : List Scalar) (l : Label) (k : CellOf) (i : ℕ) (s : Scalar) → HasPart ss l → IsCellOf c k.vertices → slice_get ss i ≡ Some s
    → (basis_value l k i ≡ nil) ⊎ Member l (part_labels c i s k.number k.vertices)
only_local c ss l k i s h is at = go (l.part == i) refl
  where
    by_vertices : (t : Bool) → is_on l.cell k.number ≡ true → l.part ≡ i → lies_on (pairs l.vertices l.weights) k.vertices ≡ t → (function_on l k ≡ nil) ⊎ Member l (part_labels c i s k.number k.vertices)
    by_vertices false on e lies = inl (other_vertex l k lies)
    by_vertices true on e lies =
        let part : h.scalar ≡ s = same_some h.scalar s (sym h.part ∙ ap (slice_get ss) e ∙ at) in
        inr (subst (λ j. Member l (part_labels c j s k.number k.vertices)) e
        (among_nodes c s l k.number k.vertices (subst (λ r. IsNodeLabel r l) part h.node) is on lies))

    by_cell : (t : Bool) → is_on l.cell k.number ≡ t → l.part ≡ i → (function_on l k ≡ nil) ⊎ Member l (part_labels c i s k.number k.vertices)
    by_cell false on e = inl (other_cell l k on)
    by_cell true on e = by_vertices (lies_on (pairs l.vertices l.weights) k.vertices) on e refl

    go : (t : Bool) → (l.part == i) ≡ t → ((if t then function_on l k else nil) ≡ nil) ⊎ Member l (part_labels c i s k.number k.vertices)
    go true e = by_cell (is_on l.cell k.number) refl (eqb-true l.part i e)
    go false e = inl refl

-- those of a part are among those of the cell
pub part_in_local : (c : Cell) (j : ℕ) (ss : List Scalar) (k : ℕ) (vs : List ℕ) (i : ℕ) (t : Scalar) (l : Label) → slice_get ss i ≡ Some t → Member l (part_labels c (j + i) t k vs) → Member l (local_labels c j ss k vs)
part_in_local c j [] k vs i t l h m = cc
part_in_local c j (s ∷ ss) k vs zero t l h m =
    member_left l (part_labels c j s k vs) (local_labels c (suc j) ss k vs) (subst (λ r. Member l (part_labels c j r k vs)) (sym (same_some s t h)) (subst (λ n. Member l (part_labels c n t k vs)) (add-zero j) m))
part_in_local c j (s ∷ ss) k vs (suc i) t l h m =
    member_right l (part_labels c j s k vs) (local_labels c (suc j) ss k vs) (part_in_local c (suc j) ss k vs i t l h (subst (λ n. Member l (part_labels c n t k vs)) (sym (suc-moves j i)) m))
