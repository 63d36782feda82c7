-- The contraction that is formed of a reference tensor
use Rattle.std.proofs.Common.{◌≡◌, ℕ, zero, suc, ◌*◌, ◌<◌, ◌≤◌, ◌^◌, true, if◌then◌else◌, List, [], ◌∷◌, length, map, get_or, refl, sym, ap, ◌∙◌, subst, arith}
use Rattle.std.specs.List.{AllByRecursion, flat_map}
use Rattle.std.proofs.lemmas.List.{length-map}
use native.Mathlib.Nat as N
use Rattle.algebra.specs.Fraction.{Fraction}
use Rattle.algebra.specs.Over.{Over}
use Rattle.ratio.specs.declared.reduced.Ratio.{Ratio}
use Rattle.ratio.specs.Value.{fraction_of}
use Rattle.monos.specs.declared.layout.Layout.{Layout}
use Rattle.monos.specs.declared.weight.Weight.{Weight}
use Rattle.monos.specs.Layout.{IsLawfulLayout}
use Rattle.monos.specs.Monomial.{Monomial, directions}
use Rattle.weigh.specs.Admitted.{IsAdmitted}
use Rattle.weigh.specs.Lists.{spread}
use Rattle.weigh.specs.Refusals.{lcd}
use Rattle.room.specs.Numbered.{AllOver}
use Rattle.refint.specs.Local.{entries_of}
use Rattle.basis_products.proofs.Lists.{all_weaken}
use Rattle.monomial_weights.specs.Columns.{column_count}
use Rattle.monomial_weights.specs.Weighed.{AreItems, IsWithin, cost_at, item_bound}
use Rattle.tensors.specs.Rows.{fractions_of as row_fractions, rows_of}
use Rattle.tensors.proofs.EntryLaws.{entries_few, entries_some}
use Rattle.tensors.proofs.RowLaws.{rows_counted}
use Rattle.kernel_statements.specs.Counted.{counted_from, counted_rows, first_multiple, is_zero_row, with_row}
use Rattle.kernel_statements.specs.Digits.{coefficient_digits}
use Rattle.kernel_statements.specs.Found.{IsFound}
use Rattle.kernel_statements.specs.declared.contraction.Contraction.{Contraction}
use Rattle.kernel_statements.specs.declared.counted.CountedRows.{CountedRows}
use Rattle.kernel_statements.specs.declared.entries.PlacedEntry.{PlacedEntry}
use Rattle.kernel_statements.proofs.FoundLaws.{all_of, found_count}
use Rattle.kernel_statements.proofs.StandingLaws.{rows_few}
use Rattle.planner.specs.Contractions.{AreRowsBounded, AreStandings, IsContractionOf}
use Rattle.planner.proofs.ContractionLaws.{rows_width}

-- ---- rows that are all zero
zeros_counted : (rows : List (List Fraction)) → AllByRecursion (λ row. is_zero_row row ≡ true) rows → counted_from [] rows ≡ []
zeros_counted [] h = refl
zeros_counted (row ∷ rows) h =
    ap (λ b. counted_from (if b then [] else with_row (first_multiple 0 [] row) [] row) rows) h.0 ∙ zeros_counted rows h.1

empty_zero : (n : ℕ) → n ≡ 0 → (row : List Fraction) → length row ≡ n → is_zero_row row ≡ true
empty_zero n z [] e = refl
empty_zero n z (x ∷ row) e = absurd (omega (arith, e, z))

pub no_columns : (l : Layout) (m : Monomial) → column_count l m.atoms ≡ 0 → counted_rows (rows_of l m) ≡ []
no_columns l m z =
    zeros_counted (rows_of l m)
    (all_weaken (λ row. length row ≡ column_count l m.atoms) (λ row. is_zero_row row ≡ true) (empty_zero (column_count l m.atoms) z) (rows_of l m) (rows_width l m))

pub no_rows : (rows : List (List Fraction)) (c : CountedRows) → IsFound (counted_rows rows) c → length c.leading.items ≡ 0 → counted_rows rows ≡ []
no_rows rows c h z = empty (counted_rows rows) (found_count (counted_rows rows) c h ∙ z)
  where
    empty : (found : List (List Fraction)) → length found ≡ 0 → found ≡ []
    empty [] e = refl
    empty (x ∷ found) e = absurd (omega (arith, e))

-- ---- the rows of a tensor
widths_of : (n : ℕ) (rows : List (List Ratio)) (fs : List (List Fraction)) → row_fractions rows ≡ fs → AllByRecursion (λ row. length row ≡ n) fs
    → AllByRecursion (λ row. length row ≡ n) rows
widths_of n [] fs e h = tt
widths_of n (row ∷ rows) [] e h = absurd (cc)
widths_of n (row ∷ rows) (f ∷ fs) e h = (
  sym (length-map row fraction_of) ∙ ap length (heads (map fraction_of row) f (row_fractions rows) fs e) ∙ h.0,
  widths_of n rows fs (tails (map fraction_of row) f (row_fractions rows) fs e) h.1,
)
  where
    heads : (a b : List Fraction) (us vs : List (List Fraction)) → a ∷ us ≡ b ∷ vs → a ≡ b
    heads a b us vs e = cc

    tails : (a b : List Fraction) (us vs : List (List Fraction)) → a ∷ us ≡ b ∷ vs → us ≡ vs
    tails a b us vs e = cc

module _ (l : Layout) (m : Monomial) (rows : List (List Ratio)) (same : row_fractions rows ≡ rows_of l m) where
  pub tensor_width : AllByRecursion (λ row. length row ≡ column_count l m.atoms) rows
  tensor_width = widths_of (column_count l m.atoms) rows (rows_of l m) same (rows_width l m)

  tensor_long : length rows ≡ entries_of l.rows * entries_of l.cols
  tensor_long = sym (length-map rows (map fraction_of)) ∙ ap length same ∙ rows_counted l m

  pub tensor_few : IsLawfulLayout l → length rows ≤ 1638400
  tensor_few h =
      let test = entries_few h.0 l.rows h.1.rows in
      let trial = entries_few h.0 l.cols h.1.cols in
      let first : entries_of l.rows * entries_of l.cols ≤ 1280 * entries_of l.cols = N.mul-le-mul_right (entries_of l.cols) test in
      let long = tensor_long in
      omega arith

  tensor_some : IsLawfulLayout l → 0 < length rows
  tensor_some h = subst (λ n. 0 < n) (sym tensor_long) (N.mul-pos (entries_some h.0 l.rows h.1.rows) (entries_some h.0 l.cols h.1.cols))

  -- what all rows have as their length
  pub tensor_columns : IsLawfulLayout l → (n : ℕ) → ((k : ℕ) → k < length rows → length (get_or rows k []) ≡ n) → n ≡ column_count l m.atoms
  tensor_columns h n e = sym (e 0 (tensor_some h)) ∙ all_of (λ row. length row ≡ column_count l m.atoms) rows 0 [] tensor_width (tensor_some h)

  -- so many nodes, and so many times the columns
  pub contraction_is : (c : Contraction) (k : CountedRows) (t : ℕ) → c.coefficients.items ≡ coefficient_digits l m.atoms → c.directions.items ≡ flat_map directions m.atoms
      → c.columns ≡ column_count l m.atoms → c.rows ≡ length k.leading.items → (c.rows ≡ 0 → ⊥) → IsFound (counted_rows (row_fractions rows)) k
      → c.items.items ≡ k.items.items → AreStandings (row_fractions rows) c.entries.items → length c.entries.items ≤ t
      → t * column_count l m.atoms ≤ spread (cost_at l) l.d m → IsContractionOf l m c
  contraction_is c k t coefficients dirs columns count some found items entries few within = record {
    coefficients = coefficients;
    directions = dirs;
    columns = columns;
    rows = count ∙ sym (found_count (counted_rows (row_fractions rows)) k found) ∙ ap (λ rs. length (counted_rows rs)) same;
    some = positive c.rows some;
    few = N.le_trans (subst (λ n. length c.entries.items * n ≤ t * column_count l m.atoms) (sym columns) (N.mul-le-mul_right (column_count l m.atoms) few)) within;
    items = ap (map fraction_of) items ∙ found.items ∙ ap (λ rs. flat_map (λ row. row) (counted_rows rs)) same;
    entries = subst (λ rs. AreStandings rs c.entries.items) same entries;
  }
    where
      positive : (n : ℕ) → (n ≡ 0 → ⊥) → 0 < n
      positive zero h = absurd (h refl)
      positive (suc n) h = omega arith

-- as many nodes as fit beside at least one column
pub nodes_few : (l : Layout) (w : Weight) (m : Monomial) (t n : ℕ) → IsAdmitted l.d w → IsWithin l w m → t * n ≤ spread (cost_at l) l.d m → (n ≡ 0 → ⊥) → t ≤ 2 ^ 20
nodes_few l w m t n a h few some =
    N.le_trans (one t n some) (N.le_trans few (N.le_trans (N.le_trans (N.le-add_right (spread (cost_at l) l.d m) 0) h.weighed.sum) a.cost))
  where
    one : (t n : ℕ) → (n ≡ 0 → ⊥) → t ≤ t * n
    one t zero h = absurd (h refl)
    one t (suc n) h = subst (λ k. k ≤ t * suc n) (N.mul-one t) (N.mul-le-mul_left t (first n))
      where
        first : (n : ℕ) → 1 ≤ suc n
        first n = omega arith

-- the columns are within the spread
pub columns_few : (l : Layout) (w : Weight) (m : Monomial) → IsAdmitted l.d w → IsWithin l w m → spread (cost_at l) l.d m ≤ 2 ^ 20
columns_few l w m a h = N.le_trans (N.le_trans (N.le-add_right (spread (cost_at l) l.d m) 0) h.weighed.sum) a.cost

-- ---- bounds of the items
bounds_of : (n b : ℕ) (xs : List Ratio) → AllByRecursion (λ x. Over n b (fraction_of x)) xs → AllOver n b (map fraction_of xs)
bounds_of n b [] h = tt
bounds_of n b (x ∷ xs) h = (h.0, bounds_of n b xs h.1)

all_bounds : (d : ℕ) (w : Weight) (m : Monomial) (rows : List (List Ratio)) → AllByRecursion (AreItems d w m) rows
    → AllByRecursion (AllOver (lcd d w) (item_bound d w m)) (row_fractions rows)
all_bounds d w m [] h = tt
all_bounds d w m (xs ∷ rows) h = (bounds_of (lcd d w) (item_bound d w m) xs h.0, all_bounds d w m rows h.1)

pub rows_bounded : (l : Layout) (w : Weight) (m : Monomial) (rows : List (List Ratio)) → row_fractions rows ≡ rows_of l m → AllByRecursion (AreItems l.d w m) rows → AreRowsBounded l w m
rows_bounded l w m rows same h = subst (AllByRecursion (AllOver (lcd l.d w) (item_bound l.d w m))) same (all_bounds l.d w m rows h)

-- no more counted rows than entries
pub leading_few : (rows : List (List Fraction)) (es : List PlacedEntry) (k : CountedRows) (t n : ℕ) → AreStandings rows es → IsFound (counted_rows rows) k → length es ≤ t → t < n
    → length k.leading.items < n
leading_few rows es k t n h found few below =
    let same = found_count (counted_rows rows) k found in
    let least = rows_few rows h.0 h.1 in
    let placed = ap length h.2 in
    omega (arith, same, least, placed)
