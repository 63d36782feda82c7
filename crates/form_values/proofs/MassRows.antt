-- The rows of the linear element on intervals are the vertices that occur in some cell, by rising number
use Rattle.std.proofs.Common.{◌≡◌, ℕ, zero, suc, ◌<◌, Bool, true, false, ◌||◌, List, [], ◌∷◌, ◌++◌, map, slice_get, slice_index, None, inl, inr, if◌then◌else◌, refl, sym, ap, ◌∙◌, subst, arith, eqb-true, eq-eqb}
use Rattle.std.specs.Prelude.{◌==◌, Any, Contains}
use Rattle.std.specs.declared.cmp.Ordering.TheVariants.{Less, Equal}
use Rattle.std.specs.Cmp.{nat_cmp_is}
use Rattle.std.specs.Ordering.{ordering_then}
use Rattle.std.specs.List.{AllByRecursion}
use Rattle.std.specs.List.Sorted.{IsStrictlySortedBy}
use Rattle.std.proofs.lemmas.Cmp.{tied_itself}
use Rattle.spaces.specs.declared.cell.Cell.TheVariants.{Interval}
use Rattle.spaces.specs.Scalar.{Scalar}
use Rattle.spaces.specs.Space.{scalars}
use Rattle.mesh_in.specs.MeshData.{IsCell}
use Rattle.dofs.specs.Label.{Label}
use Rattle.dofs.specs.Order.{label_cmp, place}
use Rattle.dofs.specs.Rows.{local_labels, labels_from, occurring, rows_of}
use Rattle.dofs.proofs.Lists.{member_at, member_left, member_right, member_all, unmapped}
use Rattle.dofs.proofs.RowLaws.{label_total, label_separates, rows_in_order}
use Rattle.dofs.proofs.SetLaws.{Member, all_append, all_weaker, contains_from_member, member_from_contains, is_sorted_set}
use Rattle.refint.proofs.Lists.{append_nothing, map_append}
use Rattle.form_values.specs.HatFunctions.{has_vertex, occurs, rows_below}
use Rattle.form_values.specs.MassRuns.{line_element}
use Rattle.form_values.proofs.RowLaws.{row_of, row_found, row_is}
use Rattle.form_values.proofs.IntervalMeshes.{IsMember, all_members, by_ends}
use Rattle.form_values.proofs.Starts.{label_at}

abbrev pub line_parts : List Scalar
line_parts = scalars line_element

-- the label of the node at a vertex
abbrev pub vertex_label : ℕ → Label
vertex_label v = record { part = 0; cell = None; vertices = v ∷ []; weights = 1 ∷ [] }

-- by computation
ends_labels : (k a b : ℕ) → local_labels Interval 0 line_parts k (a ∷ b ∷ []) ≡ vertex_label a ∷ vertex_label b ∷ []
ends_labels k a b = refl

-- ---- the vertices that occur, in order
module _ (cells : List (List ℕ)) where
  record IsRow (n v : ℕ) : Type 0 where
    occurs : occurs cells v ≡ true
    below : v < n

  more : (n v : ℕ) → IsRow n v → IsRow (suc n) v
  more n v h = record { occurs = h.occurs; below = omega (arith, h.below) }

  all_rows : (n : ℕ) → AllByRecursion (IsRow n) (rows_below cells n)
  unfolding rows_below
  all_rows zero = tt
  all_rows (suc n) =
      all_append (IsRow (suc n)) (rows_below cells n) (if occurs cells n then n ∷ [] else [])
      (all_weaker (IsRow n) (IsRow (suc n)) (more n) (rows_below cells n) (all_rows n)) (go (occurs cells n) refl)
    where
      go : (t : Bool) → occurs cells n ≡ t → AllByRecursion (IsRow (suc n)) (if t then n ∷ [] else [])
      go true e = (record { occurs = e; below = omega arith }, tt)
      go false e = tt

abbrev labels_below : List (List ℕ) → ℕ → List Label
labels_below cells n = map vertex_label (rows_below cells n)

below_labels : (v w : ℕ) → v < w → label_cmp (vertex_label v) (vertex_label w) ≡ Less
below_labels v w h = ap (λ o. ordering_then (ordering_then o Equal) Equal) (sym (nat_cmp_is v w Less h))

sorted_nothing : IsStrictlySortedBy label_cmp []
unfolding IsStrictlySortedBy
sorted_nothing = tt

with_last : (ls : List Label) (l : Label) → IsStrictlySortedBy label_cmp ls → AllByRecursion (λ k. label_cmp k l ≡ Less) ls → IsStrictlySortedBy label_cmp (ls ++ l ∷ [])
unfolding IsStrictlySortedBy
with_last [] l up below = (tt, tt)
with_last (k ∷ ls) l up below = (all_append (λ z. label_cmp k z ≡ Less) ls (l ∷ []) up.0 (below.0, tt), with_last ls l up.1 below.1)

all_mapped : (P : Label → Type 0) (Q : ℕ → Type 0) (vs : List ℕ) → ((v : ℕ) → Q v → P (vertex_label v)) → AllByRecursion Q vs → AllByRecursion P (map vertex_label vs)
all_mapped P Q [] f all = tt
all_mapped P Q (v ∷ vs) f all = (f v all.0, all_mapped P Q vs f all.1)

in_order : (cells : List (List ℕ)) (n : ℕ) → IsStrictlySortedBy label_cmp (labels_below cells n)
unfolding rows_below
in_order cells zero = sorted_nothing
in_order cells (suc n) = subst (IsStrictlySortedBy label_cmp) (sym (map_append vertex_label (rows_below cells n) (if occurs cells n then n ∷ [] else []))) (go (occurs cells n) (in_order cells n))
  where
    go : (t : Bool) → IsStrictlySortedBy label_cmp (labels_below cells n) → IsStrictlySortedBy label_cmp (labels_below cells n ++ map vertex_label (if t then n ∷ [] else []))
    go true up = with_last (labels_below cells n) (vertex_label n) up (all_mapped (λ k. label_cmp k (vertex_label n) ≡ Less) (IsRow cells n) (rows_below cells n) (λ v h. below_labels v n h.below) (all_rows cells n))
    go false up = subst (IsStrictlySortedBy label_cmp) (sym (append_nothing (labels_below cells n))) up

-- ---- the labels that occur
-- the label of a vertex that occurs
record OfVertex (cells : List (List ℕ)) (n : ℕ) (l : Label) : Type 0 where
  vertex : ℕ
  row : IsRow cells n vertex
  label : l ≡ vertex_label vertex

has_first : (a b : ℕ) → has_vertex a (a ∷ b ∷ []) ≡ true
has_first a b = ap (λ t. t || ((b == a) || false)) (eq-eqb a a refl)

has_second : (a b : ℕ) → has_vertex b (a ∷ b ∷ []) ≡ true
has_second a b = go (a == b) (ap (λ t. t || false) (eq-eqb b b refl))
  where
    go : (s : Bool) → ((b == b) || false) ≡ true → (s || ((b == b) || false)) ≡ true
    go true h = refl
    go false h = h

of_cells : (all : List (List ℕ)) (n k : ℕ) (cells : List (List ℕ)) → AllByRecursion (IsCell 1 n) cells → AllByRecursion (IsMember all) cells → AllByRecursion (OfVertex all n) (labels_from Interval line_parts k cells)
of_cells all n k [] is members = tt
of_cells all n k (cell ∷ cells) is members =
    all_append (OfVertex all n) (local_labels Interval 0 line_parts k cell) (labels_from Interval line_parts (suc k) cells)
    (by_ends (λ cell. IsMember all cell → AllByRecursion (OfVertex all n) (local_labels Interval 0 line_parts k cell)) n
    (λ a b apart h i member. (
      record { vertex = a; row = record { occurs = member (has_vertex a) (has_first a b); below = h }; label = refl },
      (record { vertex = b; row = record { occurs = member (has_vertex b) (has_second a b); below = i }; label = refl }, tt),
    ))
    cell is.0 members.0)
    (of_cells all n (suc k) cells is.1 members.1)

-- the label of a vertex of a cell is one of its labels
in_cell : (k v a b : ℕ) → has_vertex v (a ∷ b ∷ []) ≡ true → Member (vertex_label v) (local_labels Interval 0 line_parts k (a ∷ b ∷ []))
in_cell k v a b h = go (a == v) refl (b == v) refl h
  where
    go : (s : Bool) → (a == v) ≡ s → (t : Bool) → (b == v) ≡ t → (s || (t || false)) ≡ true → Member (vertex_label v) (vertex_label a ∷ vertex_label b ∷ [])
    go true e t f h = inl (ap vertex_label (sym (eqb-true a v e)))
    go false e true f h = inr (inl (ap vertex_label (sym (eqb-true b v f))))
    go false e false f h = cc

occurring_label : (n k v : ℕ) (cells : List (List ℕ)) → AllByRecursion (IsCell 1 n) cells → occurs cells v ≡ true → Member (vertex_label v) (labels_from Interval line_parts k cells)
occurring_label n k v [] is h = cc
occurring_label n k v (cell ∷ cells) is h = go (has_vertex v cell) refl h (occurring_label n (suc k) v cells is.1)
  where
    go : (t : Bool) → has_vertex v cell ≡ t → (t || occurs cells v) ≡ true → (occurs cells v ≡ true → Member (vertex_label v) (labels_from Interval line_parts (suc k) cells)) → Member (vertex_label v) (labels_from Interval line_parts k (cell ∷ cells))
    go true e h behind =
        member_left (vertex_label v) (local_labels Interval 0 line_parts k cell) (labels_from Interval line_parts (suc k) cells)
        (by_ends (λ cell. has_vertex v cell ≡ true → Member (vertex_label v) (local_labels Interval 0 line_parts k cell)) n (λ a b apart p q e. in_cell k v a b e) cell is.0 e)
    go false e h behind = member_right (vertex_label v) (local_labels Interval 0 line_parts k cell) (labels_from Interval line_parts (suc k) cells) (behind h)

-- ---- the rows
module _ (cells : List (List ℕ)) (n : ℕ) (is : AllByRecursion (IsCell 1 n) cells) where
  mapped_member : (v : ℕ) (vs : List ℕ) → Member v vs → Member (vertex_label v) (map vertex_label vs)
  mapped_member v [] m = absurd m
  mapped_member v (w ∷ vs) (inl e) = inl (ap vertex_label e)
  mapped_member v (w ∷ vs) (inr m) = inr (mapped_member v vs m)

  -- all of them
  kept : (l : Label) → Member l (occurring Interval line_parts cells) → Member l (labels_below cells n)
  kept l m =
      let h = member_all (OfVertex cells n) (labels_from Interval line_parts 0 cells) l (of_cells cells n 0 cells is (all_members cells)) m in
      subst (λ z. Member z (labels_below cells n)) (sym h.label)
      (mapped_member h.vertex (rows_below cells n) (member_at (rows_below cells n) (row_of cells h.vertex) h.vertex (row_found cells n h.vertex h.row.below h.row.occurs)))

  -- and no other
  no_more : (l : Label) → Member l (labels_below cells n) → Member l (occurring Interval line_parts cells)
  no_more l m =
      member_all (λ z. Member z (labels_from Interval line_parts 0 cells)) (labels_below cells n) l
      (all_mapped (λ z. Member z (labels_from Interval line_parts 0 cells)) (IsRow cells n) (rows_below cells n) (λ v h. occurring_label n 0 v cells is h.occurs) (all_rows cells n)) m

  tied : (l : Label) → Contains (labels_below cells n) l → Any (λ y. label_cmp l y ≡ Equal) (labels_below cells n)
  tied l (k, within, here) = (k, l, within, here, tied_itself label_total l)

  pub labels_are : rows_of Interval line_parts cells ≡ labels_below cells n
  labels_are =
      sym (is_sorted_set label_total label_separates (occurring Interval line_parts cells) (labels_below cells n) (in_order cells n)
      (λ l h. tied l (contains_from_member (labels_below cells n) l (kept l (member_from_contains (occurring Interval line_parts cells) l h))))
      (λ l h. contains_from_member (occurring Interval line_parts cells) l (no_more l (member_from_contains (labels_below cells n) l h))))

  -- the row of a vertex that occurs
  pub row_is_place : (v : ℕ) → v < n → occurs cells v ≡ true → place label_cmp (vertex_label v) (rows_of Interval line_parts cells) ≡ row_of cells v
  row_is_place v below here =
      let ls = rows_of Interval line_parts cells in
      let member = subst (Member (vertex_label v)) (sym labels_are) (mapped_member v (rows_below cells n) (member_at (rows_below cells n) (row_of cells v) v (row_found cells n v below here))) in
      let at = label_at (vertex_label v) ls (rows_in_order Interval line_parts cells) member in
      let r = unmapped vertex_label (rows_below cells n) (place label_cmp (vertex_label v) ls) (vertex_label v) (ap (λ ks. slice_get ks (place label_cmp (vertex_label v) ls)) (sym labels_are) ∙ at) in
      row_is cells n (place label_cmp (vertex_label v) ls) r.0 r.1 ∙ ap (row_of cells) (ap (λ (l : Label). slice_index l.vertices 0) r.2)
