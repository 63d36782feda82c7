-- The contractions of monomials: their rows, their factors, and the buffers that they need
use Rattle.std.proofs.Common.{◌≡◌, ℕ, suc, ◌+◌, ◌*◌, ◌<◌, ◌≤◌, ◌^◌, true, false, List, [], ◌∷◌, length, map, refl, sym, ap, ap₂, ◌∙◌, subst, arith}
use Rattle.std.specs.List.{AllByRecursion, flat_map}
use native.Mathlib.Nat as N
use Rattle.algebra.specs.Fraction.{Fraction}
use Rattle.ratio.specs.declared.reduced.Ratio.{Ratio}
use Rattle.monos.specs.declared.layout.Layout.{Layout}
use Rattle.monos.specs.declared.weight.Weight.{Weight}
use Rattle.monos.specs.Monomial.{Monomial, directions}
use Rattle.weigh.specs.Admitted.{IsAdmitted}
use Rattle.refint.specs.Local.{entries_of, numbers_below}
use Rattle.refint.specs.Reference.{items}
use Rattle.refint.proofs.Lists.{map_map}
use Rattle.basis_products.proofs.Lists.{all_append}
use Rattle.monomial_weights.specs.Weighed.{IsWithin}
use Rattle.monomial_weights.specs.Columns.{column_count}
use Rattle.monomial_weights.proofs.ColumnLaws.{items_counted}
use Rattle.tensors.specs.Rows.{rows_of}
use Rattle.c_unit.specs.Meaning.{fractions_of}
use Rattle.kernel_runs.specs.Strips.{EntriesWithin, factors_in, map_factor}
use Rattle.kernel_runs.specs.Planned.{CountsWithin, counts_after}
use Rattle.kernel_runs.specs.Body.{IsDirected, strip_of}
use Rattle.kernel_runs.specs.declared.digit.Digit.TheVariants.{Growth}
use Rattle.kernel_statements.specs.Counted.{counted_rows, is_zero_row}
use Rattle.kernel_statements.specs.Digits.{coefficient_digits}
use Rattle.kernel_statements.specs.Emitted.{cut}
use Rattle.kernel_statements.specs.Placed.{HasSlot}
use Rattle.kernel_statements.specs.Statements.{FitsBuffers, factor_strips, row_list}
use Rattle.kernel_statements.specs.declared.contraction.Contraction.{Contraction}
use Rattle.kernel_statements.specs.declared.slots.Buffers.{Buffers}
use Rattle.kernel_statements.proofs.CountedLaws.{counted_nonzero}
use Rattle.kernel_statements.proofs.StandingLaws.{counted_each, cut_joined, entries_within, joined_length, placed_slots, rows_few}
use Rattle.planner.specs.Contractions.{IsContractionOf}
use Rattle.planner.proofs.FactorLaws.{at_most, columns_product, counts_are, counts_product, digits_directed, directions_below, factors_mapped, within_all}

-- ---- rows
all_mapped : {A B : Type 0} (P : B → Type 0) (f : A → B) → ((x : A) → P (f x)) → (xs : List A) → AllByRecursion P (map f xs)
all_mapped P f h [] = tt
all_mapped P f h (x ∷ xs) = (h x, all_mapped P f h xs)

all_flat : {A B : Type 0} (P : B → Type 0) (f : A → List B) → ((x : A) → AllByRecursion P (f x)) → (xs : List A) → AllByRecursion P (flat_map f xs)
all_flat P f h [] = tt
all_flat P f h (x ∷ xs) = all_append P (f x) (flat_map f xs) (h x) (all_flat P f h xs)

pub rows_width : (l : Layout) (m : Monomial) → AllByRecursion (λ row. length row ≡ column_count l m.atoms) (rows_of l m)
unfolding rows_of
rows_width l m =
    all_flat (λ row. length row ≡ column_count l m.atoms) (λ a. map (items l m a) (numbers_below (entries_of l.cols)))
    (λ a. all_mapped (λ row. length row ≡ column_count l m.atoms) (items l m a) (λ b. items_counted l m a b) (numbers_below (entries_of l.cols)))
    (numbers_below (entries_of l.rows))

pub counted_width : (l : Layout) (m : Monomial) → AllByRecursion (λ row. length row ≡ column_count l m.atoms) (counted_rows (rows_of l m))
counted_width l m = counted_each (λ row. length row ≡ column_count l m.atoms) (rows_of l m) (rows_width l m)

ratios_length : (xs : List Ratio) → length (fractions_of xs) ≡ length xs
ratios_length [] = refl
ratios_length (x ∷ xs) = ap suc (ratios_length xs)

some_width : (width : ℕ) (rows : List (List Fraction)) → 0 < length rows → AllByRecursion (λ row. length row ≡ width) rows
    → AllByRecursion (λ row. is_zero_row row ≡ false) rows → 0 < width
some_width width [] h w n = absurd (omega (arith, h))
some_width width ([] ∷ rows) h w n = absurd (apart n.0)
  where
    apart : true ≡ false → ⊥
    apart e = cc
some_width width ((x ∷ xs) ∷ rows) h w n = omega (arith, w.0)

module _ (l : Layout) (m : Monomial) (c : Contraction) (h : IsContractionOf l m c) where
  pub row_list_is : row_list c ≡ counted_rows (rows_of l m)
  row_list_is =
      ap₂ (λ k n. cut k n (fractions_of c.items.items)) h.columns h.rows
      ∙ ap (cut (column_count l m.atoms) (length (counted_rows (rows_of l m)))) h.items
      ∙ cut_joined (column_count l m.atoms) (counted_rows (rows_of l m)) (counted_width l m)

  pub items_length : length c.items.items ≡ c.rows * c.columns
  items_length =
      sym (ratios_length c.items.items) ∙ ap length h.items ∙ joined_length (column_count l m.atoms) (counted_rows (rows_of l m)) (counted_width l m)
      ∙ ap₂ ◌*◌ (sym h.rows) (sym h.columns)

  pub some_columns : 0 < c.columns
  some_columns =
      let some = some_width (column_count l m.atoms) (counted_rows (rows_of l m)) (subst (λ n. 0 < n) h.rows h.some) (counted_width l m) (counted_nonzero (rows_of l m)) in
      subst (λ n. 0 < n) (sym h.columns) some

  -- ---- factors
  strips_are : factor_strips l.d c ≡ factors_in (map (strip_of l.d) (coefficient_digits l m.atoms)) (map (λ i. strip_of l.d (Growth i)) (flat_map directions m.atoms))
  strips_are = ap₂ (λ xs is. factors_in (map (strip_of l.d) xs) (map (λ i. strip_of l.d (Growth i)) is)) h.coefficients h.directions

  pub strips_product : counts_product (factor_strips l.d c) ≡ c.columns
  strips_product = ap counts_product strips_are ∙ columns_product l m.atoms ∙ sym h.columns

  pub strips_count : counts_after 1 (factor_strips l.d c) ≡ c.columns
  strips_count = counts_are 1 (factor_strips l.d c) ∙ ap (λ n. 1 * n) strips_product ∙ one c.columns
    where
      one : (n : ℕ) → 1 * n ≡ n
      one n = omega arith

  pub strips_within : (most : ℕ) → c.columns ≤ most → CountsWithin most 1 (factor_strips l.d c)
  strips_within most k =
      within_all most 1 (factor_strips l.d c) (subst (λ n. 0 < n) (sym strips_product) some_columns) (subst (λ n. n ≤ most) (sym strips_count) k)

  -- the strips of all factors
  pub strips_of : map (map_factor (strip_of l.d)) (factors_in c.coefficients.items (map (λ i. Growth i) c.directions.items)) ≡ factor_strips l.d c
  strips_of =
      factors_mapped (strip_of l.d) c.coefficients.items (map (λ i. Growth i) c.directions.items)
      ∙ ap (λ gs. factors_in (map (strip_of l.d) c.coefficients.items) gs) (map_map (strip_of l.d) (λ i. Growth i) c.directions.items)

  pub coefficients_directed : AllByRecursion IsDirected c.coefficients.items
  coefficients_directed = subst (AllByRecursion IsDirected) (sym h.coefficients) (digits_directed l m.atoms)

  pub directions_few : AllByRecursion (λ i. i < 3) c.directions.items
  directions_few = subst (AllByRecursion (λ i. i < 3)) (sym h.directions) (directions_below m.atoms)

  -- ---- entries
  pub entries_known : EntriesWithin (length (counted_rows (rows_of l m))) h.entries.0
  entries_known = entries_within (rows_of l m) h.entries.0 h.entries.1

  pub rows_least : c.rows ≤ length c.entries.items
  rows_least =
      let few = rows_few (rows_of l m) h.entries.0 h.entries.1 in
      omega (arith, h.rows, ap length h.entries.2)

  -- ---- within a weight
  module _ (w : Weight) (admitted : IsAdmitted l.d w) (within : IsWithin l w m) where
    spread_few : length c.entries.items * c.columns ≤ 2 ^ 20
    spread_few = omega (arith, h.few, within.weighed.sum, admitted.cost)

    entries_small : length c.entries.items ≤ 2 ^ 20
    entries_small = at_most (length c.entries.items) c.columns (2 ^ 20) some_columns spread_few

    items_few : c.rows * c.columns ≤ 2 ^ 20
    items_few =
        let some : c.rows * c.columns ≤ length c.entries.items * c.columns = N.mul-le-mul_right c.columns rows_least in
        let few = spread_few in
        omega arith

    pub rows_small : c.rows ≤ 2 ^ 20
    rows_small = at_most c.rows c.columns (2 ^ 20) some_columns items_few

    pub columns_small : c.columns ≤ 2 ^ 20
    columns_small = at_most c.columns c.rows (2 ^ 20) h.some (subst (λ n. n ≤ 2 ^ 20) (N.mul_comm c.rows c.columns) items_few)

    pub fits_buffers : (b : Buffers) → b.columns ≤ 2 ^ 20 → b.rows ≤ 2 ^ 20 → c.columns ≤ b.columns → c.rows ≤ b.rows → FitsBuffers l.d b c
    fits_buffers b few few_rows wide tall = record {
      columns = few;
      rows = tall;
      few_rows = few_rows;
      some = some_columns;
      wide = wide;
      items = items_length;
      few = items_few;
      coefficients = coefficients_directed;
      directions = directions_few;
      formed = subst (CountsWithin (2 ^ 20) 1) (sym strips_of) (strips_within (2 ^ 20) columns_small);
      slots =
          subst (AllByRecursion (λ e. HasSlot (33 + b.columns + b.columns) e.stands)) (sym h.entries.2)
          (placed_slots (33 + b.columns + b.columns) (length (counted_rows (rows_of l m))) 0 h.entries.0 (omega (arith, h.rows)) entries_known);
      entries = let small = entries_small in omega arith;
    }
