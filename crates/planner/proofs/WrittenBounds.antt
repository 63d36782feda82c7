-- How many statements the text of contractions has
use Rattle.std.proofs.Common.{◌≡◌, ℕ, zero, suc, ◌+◌, ◌-◌, ◌*◌, ◌≤◌, Bool, true, false, nat_le, List, [], ◌∷◌, ◌++◌, length, refl, sym, ap, ap₂, ◌∙◌, subst, lit≤, arith}
use Rattle.std.proofs.lemmas.Bool.Decides.{nat_tests}
use Rattle.algebra.specs.Fraction.{Fraction}
use Rattle.monos.specs.declared.layout.Layout.{Layout}
use Rattle.monos.specs.Monomial.{Monomial}
use Rattle.c_unit.specs.Meaning.{written, written-For, written_list}
use Rattle.kernel_runs.specs.Strips.{Factor, Fastest, Slowest}
use Rattle.kernel_runs.specs.Planned.{columns_code, columns_place, count_after, entry_code, factor_code, first_buffer, first_product, in_t, next_product, next_products, outer_code, row_buffer, rows_code, rows_part, second_buffer, stepped, straight_rows}
use Rattle.kernel_runs.specs.Preamble.{preamble}
use Rattle.kernel_runs.specs.Body.{places_for}
use Rattle.kernel_runs.specs.declared.entry.Entry.{Entry}
use Rattle.kernel_runs.specs.declared.entry.Entry.TheVariants.{NoRow, Counted, Multiple}
use Rattle.kernel_runs.specs.declared.strip.Strip.{Strip}
use Rattle.kernel_statements.specs.Placed.{placed_code}
use Rattle.kernel_statements.specs.Statements.{all_statements, factor_strips, factor_total, is_short, mono_statements, row_list}
use Rattle.kernel_statements.specs.declared.contraction.Contraction.{Contraction}
use Rattle.kernel_statements.specs.declared.entries.PlacedEntry.{PlacedEntry}
use Rattle.kernel_statements.specs.declared.slots.Buffers.{Buffers}
use Rattle.kernel_statements.proofs.LoopLaws.{written_append}
use Rattle.kernel_statements.proofs.RowLaws.{rows_written}
use Rattle.planner.specs.Contractions.{AreContractionsOf, IsContractionOf, more, none, without}
use Rattle.planner.specs.Kernels.{entry_number, text_bound, text_bounds}
use Rattle.planner.proofs.CountBounds.{entries_most, factors_are, strips_length}
use Rattle.planner.proofs.ContractionLaws.{some_columns}

-- ---- columns: two headers and a product for each factor
outer_written : (new : ℕ) (l r : Strip) → written (outer_code new l r) ≡ 3
outer_written new l r = written-For l.count _ ∙ ap (λ n. 1 + (n + 0)) (written-For r.count _)

factor_written : (new cur n : ℕ) (f : Factor Strip) → written (factor_code new cur n f) ≡ 3
factor_written new cur n (Fastest g) = outer_written new (in_t cur n) g
factor_written new cur n (Slowest g) = outer_written new g (in_t cur n)

columns_written : (new next cur n : ℕ) (fs : List (Factor Strip)) → written_list (columns_code new next cur n fs) ≡ 3 * length fs
columns_written new next cur n [] = refl
columns_written new next cur n (f ∷ fs) =
    let one = factor_written new cur n f in
    let all = columns_written next new new (count_after n f) fs in
    omega arith

-- ---- rows with loops
next_written : (scratch row cur t width n : ℕ) → written_list (next_products scratch row cur t width n) ≤ 4
next_written scratch row cur t width zero = omega arith
next_written scratch row cur t width (suc n) =
    let w = written-For (suc n) (next_product (stepped scratch 0 0) (stepped row 1 0) (stepped cur 0 1) t (stepped 1 width 1)) in
    omega (arith, w)

rows_few : (scratch row cur t rows m : ℕ) → written (rows_code scratch row cur t rows m) ≤ 7
rows_few scratch row cur t rows m =
    let first = first_product (stepped scratch 0 0) (stepped row 1 0) (stepped cur 0 0) t (stepped 0 (suc m) 0) in
    let all = written-For rows (first ++ next_products scratch row (cur + 1) t (suc m) m) in
    let both = written_append first (next_products scratch row (cur + 1) t (suc m) m) in
    let next = next_written scratch row (cur + 1) t (suc m) m in
    omega (arith, all, both, next)

-- ---- entries, wherever the values of rows stand
entry_same : (scratch row other e : ℕ) (x : Entry) → written_list (entry_code scratch row e x) ≡ written_list (entry_code scratch other e x)
entry_same scratch row other e NoRow = refl
entry_same scratch row other e (Counted b) = refl
entry_same scratch row other e (Multiple l b) = refl

entry_few : (scratch row e : ℕ) (x : Entry) → written_list (entry_code scratch row e x) ≤ 3
entry_few scratch row e NoRow = lit≤ tt
entry_few scratch row e (Counted b) = lit≤ tt
entry_few scratch row e (Multiple l b) = lit≤ tt

placed_same : (scratch row other : ℕ) (es : List PlacedEntry) → written_list (placed_code scratch row es) ≡ written_list (placed_code scratch other es)
placed_same scratch row other [] = refl
placed_same scratch row other (e ∷ es) =
    written_append (entry_code scratch row e.entry e.stands) (placed_code scratch row es)
    ∙ ap₂ ◌+◌ (entry_same scratch row other e.entry e.stands) (placed_same scratch row other es)
    ∙ sym (written_append (entry_code scratch other e.entry e.stands) (placed_code scratch other es))

placed_few : (scratch row : ℕ) (es : List PlacedEntry) → written_list (placed_code scratch row es) ≤ 3 * length es
placed_few scratch row [] = omega arith
placed_few scratch row (e ∷ es) =
    let one = entry_few scratch row e.entry e.stands in
    let all = placed_few scratch row es in
    let both = written_append (entry_code scratch row e.entry e.stands) (placed_code scratch row es) in
    omega (arith, one, all, both)

-- ---- the rows as they are chosen
le_of : (a b : ℕ) → nat_le a b ≡ true → a ≤ b
le_of a b h = grind (arith, nat_tests)

-- F for the columns; where the sum with rows s and entries e is within the bound, rows are written without loops
chosen : (F s e n E : ℕ) (t : Bool) (scratch row cur table other : ℕ) (rows : List (List Fraction)) → (t ≡ true → 3 * F + s + e ≤ 24 * (F + 1) + 4 * E)
    → written_list (straight_rows scratch row cur table (suc other) 0 rows) ≡ s → e ≤ 3 * n → n ≤ E
    → 3 * F + (written_list (rows_part t scratch row cur table other rows) + e) ≤ 24 * (F + 1) + 4 * E
chosen F s e n E true scratch row cur table other rows h k p q = let few = h refl in omega arith
chosen F s e n E false scratch row cur table other rows h k p q = let few = rows_few scratch row cur table (length rows) other in omega arith

module _ (l : Layout) (m : Monomial) (c : Contraction) (h : IsContractionOf l m c) where
  mono_written : (b : Buffers) (table : ℕ) → written_list (mono_statements l.d b table (entry_number l) c) ≤ text_bound l m
  mono_written b table =
      let columns = columns_code (first_buffer (places_for b.columns)) (second_buffer (places_for b.columns)) 20 1 (factor_strips l.d c) in
      let at = columns_place (places_for b.columns) (factor_strips l.d c) in
      let values = row_buffer (places_for b.columns) in
      let rows = rows_part (is_short (entry_number l) c) 32 values at table (c.columns - 1) (row_list c) in
      let s = written_list (straight_rows 32 0 0 0 c.columns 0 (row_list c)) in
      let e = written_list (placed_code 32 values c.entries.items) in
      let some = some_columns l m c h in
      let wide : suc (c.columns - 1) ≡ c.columns = omega arith in
      let first : written_list columns ≡ 3 * factor_total c =
      columns_written (first_buffer (places_for b.columns)) (second_buffer (places_for b.columns)) 20 1 (factor_strips l.d c) ∙ ap (λ n. 3 * n) (strips_length l.d c) in
      let moved : written_list (straight_rows 32 values at table (suc (c.columns - 1)) 0 (row_list c)) ≡ s =
      rows_written 32 values at table (suc (c.columns - 1)) 0 (row_list c) ∙ sym (rows_written 32 0 0 0 c.columns 0 (row_list c)) in
      let second : 3 * factor_total c + (written_list rows + e) ≤ 24 * (factor_total c + 1) + 4 * entry_number l =
      chosen (factor_total c) s e (length c.entries.items) (entry_number l) (is_short (entry_number l) c) 32 values at table (c.columns - 1) (row_list c)
      (λ t. subst (λ n. 3 * factor_total c + s + n ≤ 24 * (factor_total c + 1) + 4 * entry_number l) (placed_same 32 0 values c.entries.items) (le_of _ _ t))
      moved (placed_few 32 values c.entries.items) (entries_most l m c h) in
      let one = written_append columns (rows ++ placed_code 32 values c.entries.items) in
      let two = written_append rows (placed_code 32 values c.entries.items) in
      let same = factors_are l m c h in
      omega (arith, one, two, first, second, same)

pub texts_few : (l : Layout) (b : Buffers) (table : ℕ) {ms : List Monomial} {cs : List Contraction} → AreContractionsOf l ms cs
    → written_list (all_statements l.d b (entry_number l) table cs) ≤ text_bounds l ms
texts_few l b table none = omega arith
texts_few l b table (without e r) = let all = texts_few l b table r in omega arith
texts_few l b table (more {m = m} {c = c} {cs = cs} h r) =
    let one = mono_written l m c h b table in
    let all = texts_few l b (suc table) r in
    let both = written_append (mono_statements l.d b table (entry_number l) c) (all_statements l.d b (entry_number l) (suc table) cs) in
    omega (arith, one, all, both)

preamble_few : (d : ℕ) → written_list (preamble d) ≤ 52
preamble_few zero = lit≤ tt
preamble_few (suc zero) = lit≤ tt
preamble_few (suc (suc zero)) = lit≤ tt
preamble_few (suc (suc (suc d))) = lit≤ tt

pub body_written : (l : Layout) (b : Buffers) {ms : List Monomial} {cs : List Contraction} → AreContractionsOf l ms cs
    → written_list (preamble l.d ++ all_statements l.d b (entry_number l) 0 cs) ≤ 400 + text_bounds l ms
body_written l b {cs = cs} r =
    let both = written_append (preamble l.d) (all_statements l.d b (entry_number l) 0 cs) in
    let first = preamble_few l.d in
    let all = texts_few l b 0 r in
    omega (arith, both, first, all)
