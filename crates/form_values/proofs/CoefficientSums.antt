-- The value of a coefficient on a cell: the sum over all its rows is that over the local nodes, of the data at their rows
use Rattle.std.proofs.Common.{◌≡◌, ℕ, zero, suc, ◌+◌, ◌<◌, ◌⊎◌, List, [], ◌∷◌, length, map, get_or, slice_get, slice_index_or, Option, None, Some, refl, sym, ap, ap₂, ◌∙◌, subst, arith, add_assoc, add-zero, zero-add}
use Rattle.std.specs.List.{AllByRecursion}
use Rattle.std.specs.List.Sorted.{IsStrictlySortedBy}
use Rattle.algebra.specs.Fraction.{Fraction, zero_fraction}
use Rattle.calculus.specs.Polynomial.{Polynomial, nil, plus, times, constant}
use Rattle.calculus.specs.Integral.{sum_below}
use Rattle.spaces.specs.declared.cell.Cell.{Cell}
use Rattle.spaces.specs.declared.parts.Part.{Part}
use Rattle.spaces.specs.Cell.{dimension}
use Rattle.spaces.specs.Scalar.{Scalar, placed}
use Rattle.spaces.specs.Nodes.{nodes_of}
use Rattle.dofs.specs.Label.{Label, node_label}
use Rattle.dofs.specs.Order.{label_cmp, place}
use Rattle.dofs.specs.Rows.{part_labels, local_labels, labels_from, constants, occurring, rows_of}
use Rattle.dofs.proofs.SetLaws.{Member, all_weaker, to_set}
use Rattle.dofs.proofs.RowLaws.{rows_in_order, label_separates}
use Rattle.dofs.specs.Basis.{CellOf, basis_value}
use Rattle.refint.specs.Local.{part_value}
use Rattle.form_values.specs.FormValue.{rows_value}
use Rattle.dofs.proofs.Lists.{suc-moves, member_at, member_all, all_members}
use Rattle.form_values.proofs.Lists.{all_left, all_right, all_mapped}
use Rattle.dofs.proofs.NodeLabels.{IsCellOf, distinct_part}
use Rattle.dofs.proofs.OccurringLabels.{IsPart, HasPart, of_rows, no_component, only_local}
use Rattle.form_values.proofs.RowSums.{sum_rows, sum_labels, sum_nil, sum_local, rows_value_is, sum_first, below_same}
use Rattle.form_values.proofs.LocalPlaces.{is_placed, not_placed, own_label, node_is}

-- ---- the rows of an element, and those of one cell
pub record AreRows (c : Cell) (ss : List Scalar) (k : ℕ) (vs : List ℕ) (ls : List Label) : Type 0 where
  pub order : IsStrictlySortedBy label_cmp ls
  pub local : AllByRecursion (λ l. Member l ls) (local_labels c 0 ss k vs)
  pub parts : AllByRecursion (HasPart ss) ls

in_cell : (P : Label → Type 0) (c : Cell) (ss : List Scalar) (m n : ℕ) (vs : List ℕ) (cells : List (List ℕ)) → slice_get cells n ≡ Some vs → AllByRecursion P (labels_from c ss m cells) → AllByRecursion P (local_labels c 0 ss (m + n) vs)
in_cell P c ss m n vs [] h all = cc
in_cell P c ss m zero vs (us ∷ cells) h all =
    subst (λ k. AllByRecursion P (local_labels c 0 ss k vs)) (sym (add-zero m))
    (subst (λ us. AllByRecursion P (local_labels c 0 ss m us)) (one us vs h) (all_left P (local_labels c zero ss m us) (labels_from c ss (suc m) cells) all))
  where
    one : (us vs : List ℕ) → Some us ≡ Some vs → us ≡ vs
    one us vs e = cc
in_cell P c ss m (suc n) vs (us ∷ cells) h all =
    subst (λ k. AllByRecursion P (local_labels c 0 ss k vs)) (suc-moves m n)
    (in_cell P c ss (suc m) n vs cells h (all_right P (local_labels c zero ss m us) (labels_from c ss (suc m) cells) all))

pub are_rows : (c : Cell) (ss : List Scalar) (k : ℕ) (vs : List ℕ) (cells : List (List ℕ)) → AllByRecursion (IsPart c) ss → AllByRecursion (IsCellOf c) cells → slice_get cells k ≡ Some vs
    → AreRows c ss k vs (rows_of c ss cells)
are_rows c ss k vs cells on is at = record {
  order = rows_in_order c ss cells;
  local = subst (λ n. AllByRecursion (λ l. Member l (rows_of c ss cells)) (local_labels c 0 ss n vs)) (zero-add k)
      (in_cell (λ l. Member l (rows_of c ss cells)) c ss 0 k vs cells at
      (all_right (λ l. Member l (rows_of c ss cells)) (constants zero ss) (labels_from c ss zero cells)
      (all_weaker (λ l. Member l (occurring c ss cells)) (λ l. Member l (rows_of c ss cells)) (λ l m. to_set label_cmp label_separates l (occurring c ss cells) m) (occurring c ss cells) (all_members (occurring c ss cells)))));
  parts = of_rows c ss cells on is;
}

-- ---- a sum over labels as one over the nodes of a part
sum_nodes : (y : Label → Fraction) (f : Label → Polynomial) (g : List ℕ → Label) (ns : List (List ℕ))
    → sum_labels y f (map g ns) ≡ sum_below (length ns) (λ n. times (constant (y (g (get_or ns n [])))) (f (g (get_or ns n []))))
sum_nodes y f g [] = refl
sum_nodes y f g (w ∷ ns) =
    ap (plus (times (constant (y (g w))) (f (g w)))) (sum_nodes y f g ns)
    ∙ sym (sum_first (length ns) (λ n. times (constant (y (g (get_or (w ∷ ns) n [])))) (f (g (get_or (w ∷ ns) n [])))))

-- ---- the value of a component
-- from number `at` on, w has the data at the rows of the cell
abbrev pub HoldsData : Cell → List Scalar → ℕ → List ℕ → List Label → List Fraction → List Fraction → ℕ → Type 0
HoldsData c ss k vs ls xs w at =
    (a : ℕ) (l : Label) → slice_get (local_labels c 0 ss k vs) a ≡ Some l → slice_index_or w (at + a) zero_fraction ≡ slice_index_or xs (place label_cmp l ls) zero_fraction

pub rows_value_local : (c : Cell) (ss : List Scalar) (k : CellOf) (ls : List Label) (xs w : List Fraction) (at i : ℕ) → AllByRecursion (IsPart c) ss → IsCellOf c k.vertices
    → AreRows c ss k.number k.vertices ls → HoldsData c ss k.number k.vertices ls xs w at → rows_value ls xs k i ≡ part_value (dimension c) k.corners w at (slice_get (placed 0 ss) i)
rows_value_local c ss k ls xs w at i on is rows holds = rows_value_is ls xs k i ∙ go (slice_get (placed 0 ss) i) refl
  where
    x : ℕ → Fraction
    x n = slice_index_or xs n zero_fraction

    f : Label → Polynomial
    f l = basis_value l k i

    go : (o : Option Part) → slice_get (placed 0 ss) i ≡ o → sum_rows x f ls ≡ part_value (dimension c) k.corners w at o
    go None e = sum_nil x f ls (all_weaker (HasPart ss) (λ l. f l ≡ nil) (λ l h. no_component ss l k i h (not_placed 0 ss i e)) ls rows.parts)
    go (Some p) e =
        let h = is_placed c 0 0 ss k.number k.vertices i p on e in
        let g = node_label i h.scalar.family k.number k.vertices in
        let ns = nodes_of c h.scalar.degree in
        let found : (n : ℕ) → n < length ns → Member (g (get_or ns n [])) ls =
        λ n lt. member_all (λ l. Member l ls) (local_labels c 0 ss k.number k.vertices) (g (get_or ns n [])) rows.local
        (member_at (local_labels c 0 ss k.number k.vertices) (p.offset + n) (g (get_or ns n [])) (own_label c ss k.number k.vertices i n p h (omega (arith, lt, h.nodes)))) in
        sum_local x f (part_labels c i h.scalar k.number k.vertices) ls rows.order (distinct_part c i h.scalar k.number k.vertices h.few is)
        (all_mapped (λ l. Member l ls) g ns [] found)
        (all_weaker (HasPart ss) (λ l. (f l ≡ nil) ⊎ Member l (part_labels c i h.scalar k.number k.vertices)) (λ l has. only_local c ss l k i h.scalar has is h.part) ls rows.parts)
        ∙ sum_nodes (λ l. x (place label_cmp l ls)) f g ns
        ∙ ap (λ m. sum_below m (λ n. times (constant (x (place label_cmp (g (get_or ns n [])) ls))) (f (g (get_or ns n []))))) h.nodes
        ∙ below_same p.nodes _ _ (λ n lt.
        ap₂ (λ y q. times (constant y) q)
        (sym (ap (λ m. slice_index_or w m zero_fraction) (add_assoc at p.offset n) ∙ holds (p.offset + n) (g (get_or ns n [])) (own_label c ss k.number k.vertices i n p h lt)))
        (node_is c ss k i n p h is lt))
