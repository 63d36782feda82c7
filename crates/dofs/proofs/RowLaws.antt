-- The rows: each label that occurs once, in order; and each local node at the row that has its label
use Rattle.std.proofs.Common.{◌≡◌, ℕ, zero, suc, ◌+◌, ◌*◌, ◌<◌, List, [], ◌∷◌, ◌++◌, length, map, get_or, take, drop, refl, sym, ap, ap₂, subst, ◌∙◌, arith}
use Rattle.std.specs.declared.cmp.Ordering.TheVariants.{Equal}
use Rattle.std.specs.Ordering.{nat_cmp, ordering_then}
use Rattle.std.specs.Option.{option_cmp}
use Rattle.std.specs.Cmp.{IsTotalOrder}
use Rattle.std.specs.Cmp.Lexicographic.{slice_cmp, options_total}
use Rattle.std.specs.List.{AllByRecursion, Contains}
use Rattle.std.specs.List.Sorted.{IsStrictlySortedBy}
use Rattle.std.proofs.lemmas.Cmp.{nat_cmp_total, nat_list_cmp_total, on_total, then_total, tied_itself}
use Rattle.std.proofs.lemmas.List.Elements.{recursion_from_All, All-contains_itself}
use Rattle.std.proofs.lemmas.List.{get_or_default, length-drop, take-append-drop}
use Rattle.spaces.specs.declared.cell.Cell.{Cell}
use Rattle.spaces.specs.Scalar.{Scalar}
use Rattle.spaces.specs.Space.{Space, scalars}
use Rattle.mesh_in.specs.MeshData.{MeshData, rows}
use Rattle.dofs.specs.Label.{Label}
use Rattle.dofs.specs.Order.{label_cmp, place}
use Rattle.dofs.specs.Rows.{local_labels, labels_from, constants, occurring, rows_of, cell_rows, numbering}
use Rattle.dofs.proofs.SetLaws.{Separates, strict_sorted_set, to_set, from_set, member_from_contains, contains_from_member, place_found, all_append, all_weaker}
use Rattle.dofs.proofs.KeyLaws.{then_equal, nat_equal, option_equal, list_equal}

-- ---- the order of labels
pub label_total : IsTotalOrder label_cmp
label_total =
    then_total (on_total (λ (l : Label). l.part) nat_cmp_total)
    (then_total (on_total (λ (l : Label). l.cell) (options_total nat_cmp_total))
    (then_total (on_total (λ (l : Label). length l.vertices) nat_cmp_total)
    (then_total (on_total (λ (l : Label). l.vertices) nat_list_cmp_total) (on_total (λ (l : Label). l.weights) nat_list_cmp_total))))

pub label_separates : Separates label_cmp
label_separates l m e =
    let lists = ordering_then (slice_cmp nat_cmp l.vertices m.vertices) (slice_cmp nat_cmp l.weights m.weights) in
    let sizes = ordering_then (nat_cmp (length l.vertices) (length m.vertices)) lists in
    let a = then_equal (nat_cmp l.part m.part) (ordering_then (option_cmp nat_cmp l.cell m.cell) sizes) e in
    let b = then_equal (option_cmp nat_cmp l.cell m.cell) sizes a.1 in
    let c = then_equal (nat_cmp (length l.vertices) (length m.vertices)) lists b.1 in
    let d = then_equal (slice_cmp nat_cmp l.vertices m.vertices) (slice_cmp nat_cmp l.weights m.weights) c.1 in
    λ i. record {
      part = nat_equal l.part m.part a.0 i;
      cell = option_equal l.cell m.cell b.0 i;
      vertices = list_equal l.vertices m.vertices d.0 i;
      weights = list_equal l.weights m.weights d.1 i;
    }

-- ---- the list of rows
pub rows_in_order : (kind : Cell) (ss : List Scalar) (cells : List (List ℕ)) → IsStrictlySortedBy label_cmp (rows_of kind ss cells)
rows_in_order kind ss cells = strict_sorted_set label_total (occurring kind ss cells)

pub has_row : (kind : Cell) (ss : List Scalar) (cells : List (List ℕ)) (l : Label) → Contains (occurring kind ss cells) l → Contains (rows_of kind ss cells) l
has_row kind ss cells l h = contains_from_member (rows_of kind ss cells) l (to_set label_cmp label_separates l (occurring kind ss cells) (member_from_contains (occurring kind ss cells) l h))

pub row_occurs : (kind : Cell) (ss : List Scalar) (cells : List (List ℕ)) (l : Label) → Contains (rows_of kind ss cells) l → Contains (occurring kind ss cells) l
row_occurs kind ss cells l h = contains_from_member (occurring kind ss cells) l (from_set label_cmp l (occurring kind ss cells) (member_from_contains (rows_of kind ss cells) l h))

-- ---- the place of a label
pub record IsAt (l : Label) (ls : List Label) (n : ℕ) : Type 0 where
  pub below : n < length ls
  pub label : (d : Label) → get_or ls n d ≡ l

pub is_at : (l : Label) (ls : List Label) → IsStrictlySortedBy label_cmp ls → Contains ls l → IsAt l ls (place label_cmp l ls)
is_at l ls up (i, lt, e) =
    let here : (d : Label) → get_or ls i d ≡ l = λ d. get_or_default ls i d l lt ∙ e in
    let tie : (d : Label) → label_cmp (get_or ls i d) l ≡ Equal = λ d. ap (λ m. label_cmp m l) (here d) ∙ tied_itself label_total l in
    subst (λ n. IsAt l ls n) (place_found label_total l ls i up lt tie) (record { below = lt; label = here })

-- ---- the rows of the cells
all_left : {K : Type 0} (P : K → Type 0) (xs ys : List K) → AllByRecursion P (xs ++ ys) → AllByRecursion P xs
all_left P [] ys all = tt
all_left P (x ∷ xs) ys all = (all.0, all_left P xs ys all.1)

all_right : {K : Type 0} (P : K → Type 0) (xs ys : List K) → AllByRecursion P (xs ++ ys) → AllByRecursion P ys
all_right P [] ys all = all
all_right P (x ∷ xs) ys all = all_right P xs ys all.1

all_have_rows : (kind : Cell) (ss : List Scalar) (cells : List (List ℕ)) → AllByRecursion (Contains (rows_of kind ss cells)) (labels_from kind ss zero cells)
all_have_rows kind ss cells =
    all_right (Contains (rows_of kind ss cells)) (constants zero ss) (labels_from kind ss zero cells)
    (all_weaker (Contains (occurring kind ss cells)) (Contains (rows_of kind ss cells)) (has_row kind ss cells) (occurring kind ss cells)
    (recursion_from_All (Contains (occurring kind ss cells)) (occurring kind ss cells) (All-contains_itself (occurring kind ss cells))))

below_row : (ms : List Label) → IsStrictlySortedBy label_cmp ms → (ls : List Label) → AllByRecursion (Contains ms) ls → AllByRecursion (λ n. n < length ms) (map (λ l. place label_cmp l ms) ls)
below_row ms up [] all = tt
below_row ms up (l ∷ ls) all = ((is_at l ms up all.0).below, below_row ms up ls all.1)

below_rows : (kind : Cell) (ss : List Scalar) (ms : List Label) → IsStrictlySortedBy label_cmp ms → (k : ℕ) (cells : List (List ℕ)) → AllByRecursion (Contains ms) (labels_from kind ss k cells)
    → AllByRecursion (λ row. AllByRecursion (λ n. n < length ms) row) (cell_rows kind ss ms k cells)
below_rows kind ss ms up k [] all = tt
below_rows kind ss ms up k (vs ∷ cells) all = (
  below_row ms up (local_labels kind zero ss k vs) (all_left (Contains ms) (local_labels kind zero ss k vs) (labels_from kind ss (suc k) cells) all),
  below_rows kind ss ms up (suc k) cells (all_right (Contains ms) (local_labels kind zero ss k vs) (labels_from kind ss (suc k) cells) all),
)

-- each row number is one
pub all_below : (kind : Cell) (ss : List Scalar) (cells : List (List ℕ)) → AllByRecursion (λ row. AllByRecursion (λ n. n < length (rows_of kind ss cells)) row) (cell_rows kind ss (rows_of kind ss cells) zero cells)
all_below kind ss cells = below_rows kind ss (rows_of kind ss cells) (rows_in_order kind ss cells) zero cells (all_have_rows kind ss cells)

row_labels : (ms : List Label) (d : Label) → IsStrictlySortedBy label_cmp ms → (ls : List Label) → AllByRecursion (Contains ms) ls → map (λ n. get_or ms n d) (map (λ l. place label_cmp l ms) ls) ≡ ls
row_labels ms d up [] all = refl
row_labels ms d up (l ∷ ls) all = ap₂ (λ m ns. m ∷ ns) ((is_at l ms up all.0).label d) (row_labels ms d up ls all.1)

-- the labels of the local nodes of each cell, from cell k on
abbrev pub cell_labels : Cell → List Scalar → ℕ → List (List ℕ) → List (List Label)
cell_labels kind ss k [] = []
cell_labels kind ss k (vs ∷ cells) = local_labels kind zero ss k vs ∷ cell_labels kind ss (suc k) cells

all_row_labels : (kind : Cell) (ss : List Scalar) (ms : List Label) (d : Label) → IsStrictlySortedBy label_cmp ms → (k : ℕ) (cells : List (List ℕ)) → AllByRecursion (Contains ms) (labels_from kind ss k cells)
    → map (map (λ n. get_or ms n d)) (cell_rows kind ss ms k cells) ≡ cell_labels kind ss k cells
all_row_labels kind ss ms d up k [] all = refl
all_row_labels kind ss ms d up k (vs ∷ cells) all =
    ap₂ (λ ls rest. ls ∷ rest)
    (row_labels ms d up (local_labels kind zero ss k vs) (all_left (Contains ms) (local_labels kind zero ss k vs) (labels_from kind ss (suc k) cells) all))
    (all_row_labels kind ss ms d up (suc k) cells (all_right (Contains ms) (local_labels kind zero ss k vs) (labels_from kind ss (suc k) cells) all))

-- the row of a local node has the node's label
pub labels_of_rows : {A : Type 0} (m : MeshData A) (s : Space) (d : Label) → map (map (λ n. get_or (numbering m s).labels n d)) (numbering m s).cells ≡ cell_labels m.kind (scalars s) zero m.cells
unfolding numbering
labels_of_rows m s d =
    all_row_labels m.kind (scalars s) (rows_of m.kind (scalars s) m.cells) d (rows_in_order m.kind (scalars s) m.cells) zero m.cells (all_have_rows m.kind (scalars s) m.cells)

-- ---- the numbers in one list
empty : {K : Type 0} (xs : List K) → length xs ≡ 0 → xs ≡ []
empty [] none = refl
empty (x ∷ xs) none = absurd (omega arith)

pub all_flat : {K : Type 0} (P : K → Type 0) (width count : ℕ) (xs : List K) → length xs ≡ count * width → AllByRecursion (AllByRecursion P) (rows width count xs) → AllByRecursion P xs
unfolding rows
all_flat P width zero xs fit all = subst (AllByRecursion P) (sym (empty xs (omega arith))) tt
all_flat P width (suc count) xs fit all =
    subst (AllByRecursion P) (take-append-drop width xs)
    (all_append P (take width xs) (drop width xs) all.0 (all_flat P width count (drop width xs) (omega (arith, length-drop width xs, next width count)) all.1))
  where
    next : (width count : ℕ) → width + count * width ≡ suc count * width
    next width count = grind arith
