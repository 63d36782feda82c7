-- The shares of cells
use Rattle.std.proofs.Common.{◌≡◌, ℕ, zero, suc, ◌+◌, ◌<◌, ◌≤◌, ◌==◌, ◌&&◌, Bool, true, false, not, List, [], ◌∷◌, ◌++◌, Option, if◌then◌else◌, refl, sym, ◌∙◌, ap, ap₂, arith, subst, length, get_or, map, drop, take, filter, append_assoc, ◌⊎◌}
use Rattle.std.proofs.lemmas.Bool.Decides.{nat_tests}
use Rattle.std.proofs.lemmas.List.{map-append}
use Rattle.std.proofs.lemmas.List.Elements.{filter-append}
use Rattle.std.specs.Ordering.{nat_cmp, ordering_then, is_lt}
use Rattle.std.specs.declared.cmp.Ordering.{Ordering}
use Rattle.std.specs.List.Sorted.{IsSortedByKey, IsStableByKey, ties}
use Rattle.algebra.specs.Fraction.{Fraction, is_zero_fraction}
use Rattle.ratio.specs.Value.{fraction_of}
use Rattle.ratio.specs.declared.reduced.Ratio.{Ratio}
use Rattle.assembly.specs.Sums.{Entry, values_at}
use Rattle.assembly.specs.Kept.{seen}
use Rattle.assembly.specs.Local.{row_entries, local_entries}
use Rattle.dofs.specs.Rows.{Numbering}
use Rattle.assembly.specs.Assembly.{Assembly, argument_rows, cell_entries, tensor_on}
use Rattle.assembly.specs.Shares.{nonzero_entries, AreByPlace, AreShown, IsShare, AreSharesFrom}
use Rattle.assembly.specs.declared.shares.CellShare.{CellShare}
use Rattle.assembly.specs.declared.triple.Triple.{Triple}
use Rattle.assembly.proofs.AddsLaws.{entries_here, rows_here}

-- ---- sorted by place

abbrev pub pair_cmp : ℕ × ℕ → ℕ × ℕ → Ordering
pair_cmp a b = ordering_then (nat_cmp a.0 b.0) (nat_cmp a.1 b.1)

abbrev pub place_of : Triple → ℕ × ℕ
place_of t = (t.row, t.col)

less_pair : (a b c d : ℕ) → is_lt (ordering_then (nat_cmp a c) (nat_cmp b d)) ≡ false → (c < a) ⊎ ((c ≡ a) × (d ≤ b))
less_pair a b c d h = grind (arith, nat_tests)

by_place : (ts : List Triple) → IsSortedByKey place_of pair_cmp ts → AreByPlace (map seen ts)
by_place [] h = tt
by_place (t ∷ []) h = tt
by_place (t ∷ u ∷ ts) h = (
  less_pair u.row u.col t.row t.col (h 0 t (omega arith) (omega arith)),
  by_place (u ∷ ts) (λ k d a b. ap (λ n. is_lt (pair_cmp (place_of (get_or (t ∷ u ∷ ts) n d)) (place_of (get_or (u ∷ ts) k d)))) (one_more k) ∙ h (suc k) d (omega arith) (omega arith)),
)
  where
    one_more : (k : ℕ) → suc (k + 1) ≡ suc k + 1
    one_more k = omega arith

-- ---- stable: the values of one place in their order

tied : (row col r c : ℕ) → (not (is_lt (ordering_then (nat_cmp row r) (nat_cmp col c))) && not (is_lt (ordering_then (nat_cmp r row) (nat_cmp c col)))) ≡ ((r == row) && (c == col))
tied row col r c = grind (arith, nat_tests)

abbrev tied_to : Triple → Triple → Bool
tied_to = ties (λ a b. is_lt (pair_cmp (place_of a) (place_of b)))

one_value : (f : List Fraction) (t : Triple) (ts : List Triple) (a b : Bool) → a ≡ b → map (λ (u : Triple). fraction_of u.value) ts ≡ f
    → map (λ (u : Triple). fraction_of u.value) (if a then t ∷ ts else ts) ≡ (if b then fraction_of t.value ∷ f else f)
one_value f t ts true true e g = ap (λ (xs : List Fraction). fraction_of t.value ∷ xs) g
one_value f t ts false false e g = g
one_value f t ts true false e g = absurd (cc)
one_value f t ts false true e g = absurd (cc)

tied_values : (x : Triple) (ts : List Triple) → map (λ (u : Triple). fraction_of u.value) (filter (tied_to x) ts) ≡ values_at (map seen ts) x.row x.col
tied_values x [] = refl
tied_values x (t ∷ ts) = one_value (values_at (map seen ts) x.row x.col) t (filter (tied_to x) ts) _ _ (tied x.row x.col t.row t.col) (tied_values x ts)

stable_at : (x : Triple) (xs ys : List Triple) → IsStableByKey place_of pair_cmp xs ys → values_at (map seen ys) x.row x.col ≡ values_at (map seen xs) x.row x.col
stable_at x xs ys h = sym (tied_values x ys) ∙ ap (map (λ (u : Triple). fraction_of u.value)) (h x) ∙ tied_values x xs

stable_values : (xs ys : List Triple) → length ys ≡ length xs → IsStableByKey place_of pair_cmp xs ys → (row col : ℕ) → values_at (map seen ys) row col ≡ values_at (map seen xs) row col
stable_values [] [] e h row col = refl
stable_values [] (y ∷ ys) e h row col = absurd (omega (arith, e))
stable_values (x ∷ xs) ys e h row col = stable_at (record { row = row; col = col; value = x.value }) (x ∷ xs) ys h

pub shown : (values : List Entry) (xs ys : List Triple) → map seen xs ≡ nonzero_entries values → length ys ≡ length xs → IsSortedByKey place_of pair_cmp ys → IsStableByKey place_of pair_cmp xs ys
    → AreShown values (map seen ys)
shown values xs ys e l s h = record {
  sorted = by_place ys s;
  exact = λ row col. stable_values xs ys l h row col ∙ ap (λ es. values_at es row col) e;
}

-- ---- one value more

pub row_shown : (row : ℕ) (cols : List ℕ) (values : List Ratio) (i : ℕ) (v : Ratio) → i < length cols → i < length values → v ≡ get_or values i v
    → nonzero_entries (row_entries row (drop i cols) (map fraction_of (drop i values)))
    ≡ (if not (is_zero_fraction (fraction_of v))
    then record { row = row; col = get_or cols i 0; value = fraction_of v } ∷ nonzero_entries (row_entries row (drop (i + 1) cols) (map fraction_of (drop (i + 1) values)))
    else nonzero_entries (row_entries row (drop (i + 1) cols) (map fraction_of (drop (i + 1) values))))
row_shown row cols values i v p q e = ap nonzero_entries (entries_here row cols values i v p q e)

pub row_pushed : (row : ℕ) (cols : List ℕ) (values : List Ratio) (i : ℕ) (v : Ratio) (old new : List Triple) (whole : List Entry) → i < length cols → i < length values → v ≡ get_or values i v → is_zero_fraction (fraction_of v) ≡ false
    → new ≡ old ++ record { row = row; col = get_or cols i 0; value = v } ∷ [] → map seen old ++ nonzero_entries (row_entries row (drop i cols) (map fraction_of (drop i values))) ≡ whole
    → map seen new ++ nonzero_entries (row_entries row (drop (i + 1) cols) (map fraction_of (drop (i + 1) values))) ≡ whole
row_pushed row cols values i v old new whole p q e z n w =
    let rest = nonzero_entries (row_entries row (drop (i + 1) cols) (map fraction_of (drop (i + 1) values))) in
    let t : Entry = record { row = row; col = get_or cols i 0; value = fraction_of v } in
    ap (λ es. es ++ rest) (ap (map seen) n ∙ map-append seen old (record { row = row; col = get_or cols i 0; value = v } ∷ []))
    ∙ append_assoc (map seen old) (t ∷ []) rest
    ∙ ap (λ es. map seen old ++ es) (sym (row_shown row cols values i v p q e ∙ ap (λ b. if not b then t ∷ rest else rest) z))
    ∙ w

pub row_skipped : (row : ℕ) (cols : List ℕ) (values : List Ratio) (i : ℕ) (v : Ratio) (old new : List Triple) (whole : List Entry) → i < length cols → i < length values → v ≡ get_or values i v → is_zero_fraction (fraction_of v) ≡ true
    → new ≡ old → map seen old ++ nonzero_entries (row_entries row (drop i cols) (map fraction_of (drop i values))) ≡ whole
    → map seen new ++ nonzero_entries (row_entries row (drop (i + 1) cols) (map fraction_of (drop (i + 1) values))) ≡ whole
row_skipped row cols values i v old new whole p q e z n w =
    let rest = nonzero_entries (row_entries row (drop (i + 1) cols) (map fraction_of (drop (i + 1) values))) in
    let t : Entry = record { row = row; col = get_or cols i 0; value = fraction_of v } in
    ap (λ ts. map seen ts ++ rest) n
    ∙ ap (λ es. map seen old ++ es) (sym (row_shown row cols values i v p q e ∙ ap (λ b. if not b then t ∷ rest else rest) z)) ∙ w

-- ---- one row more

pub local_pushed : (rows cols : List ℕ) (values front back : List Ratio) (i : ℕ) (old new : List Triple) (whole : List Entry) → i < length rows → front ≡ take (length cols) values → back ≡ drop (length cols) values
    → map seen new ≡ map seen old ++ nonzero_entries (row_entries (get_or rows i 0) cols (map fraction_of front))
    → map seen old ++ nonzero_entries (local_entries (drop i rows) cols (map fraction_of values)) ≡ whole
    → map seen new ++ nonzero_entries (local_entries (drop (i + 1) rows) cols (map fraction_of back)) ≡ whole
local_pushed rows cols values front back i old new whole p f g n w =
    let first = row_entries (get_or rows i 0) cols (map fraction_of (take (length cols) values)) in
    let rest = local_entries (drop (i + 1) rows) cols (map fraction_of (drop (length cols) values)) in
    ap₂ (λ es (vs : List Ratio). es ++ nonzero_entries (local_entries (drop (i + 1) rows) cols (map fraction_of vs))) n g
    ∙ ap (λ (vs : List Ratio). (map seen old ++ nonzero_entries (row_entries (get_or rows i 0) cols (map fraction_of vs))) ++ nonzero_entries rest) f
    ∙ append_assoc (map seen old) (nonzero_entries first) (nonzero_entries rest)
    ∙ ap (λ es. map seen old ++ es) (sym (ap nonzero_entries (rows_here rows cols values i p) ∙ filter-append (λ (e : Entry). not (is_zero_fraction e.value)) first rest))
    ∙ w

-- ---- one cell more

pub shares_more : (s : Assembly) (k n : ℕ) (cs : List CellShare) (c : CellShare) → n ≡ k + length cs → AreSharesFrom s k cs → IsShare s n c → AreSharesFrom s k (cs ++ c ∷ [])
shares_more s k n [] c e a h = let f : n ≡ k = omega (arith, e) in (subst (λ m. IsShare s m c) f h, tt)
shares_more s k n (d ∷ cs) c e a h = (a.0, shares_more s (suc k) n cs c (omega (arith, e)) a.1 h)

-- the share of a cell is made of its rows, its columns and its local tensor
pub share_is : (s : Assembly) (rows cols : Option Numbering) (tensor : ℕ → List Fraction) (k : ℕ) (c : CellShare) → rows ≡ s.rows → cols ≡ s.cols → tensor k ≡ tensor_on s.runs k → c.cell ≡ k
    → AreShown (cell_entries rows cols tensor k) (map seen c.triples.items) → IsShare s k c
share_is s rows cols tensor k c e f g n h = record {
  cell = n;
  triples = subst (λ es. AreShown es (map seen c.triples.items))
      (ap (λ r. local_entries (argument_rows r k) (argument_rows cols k) (tensor k)) e
      ∙ ap (λ q. local_entries (argument_rows s.rows k) (argument_rows q k) (tensor k)) f
      ∙ ap (local_entries (argument_rows s.rows k) (argument_rows s.cols k)) g)
      h;
}
