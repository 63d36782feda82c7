-- What a planned function owes to the laws on runs, and the sizes that it keeps
use Rattle.std.proofs.Common.{◌≡◌, ℕ, zero, suc, ◌+◌, ◌-◌, ◌*◌, ◌<◌, ◌≤◌, ◌^◌, ◌⊎◌, inl, inr, Bool, true, false, ◌&&◌, List, [], ◌∷◌, ◌++◌, length, map, slice_index_or, refl, sym, ap, ap₂, ◌∙◌, subst, append_assoc, arith}
use Rattle.std.specs.List.{AllByRecursion}
use Rattle.std.proofs.lemmas.List.{length-append, length-map}
use native.Mathlib.Nat as N
use Rattle.algebra.specs.Fraction.{Fraction, is_zero_fraction}
use Rattle.calculus.specs.Simplex.{Simplex, dimension}
use Rattle.monos.specs.declared.layout.Layout.{Layout}
use Rattle.monos.specs.declared.weight.Weight.{Weight}
use Rattle.monos.specs.Layout.{IsLawfulLayout}
use Rattle.monos.specs.Monomial.{Monomial}
use Rattle.weigh.specs.Lists.{spread, spreads}
use Rattle.monomial_weights.specs.Weighed.{cost_at}
use Rattle.tensors.specs.Rows.{rows_of}
use Rattle.tensors.proofs.RowLaws.{rows_counted}
use Rattle.c_unit.specs.declared.unit.CFun.{CFun}
use Rattle.c_unit.specs.Meaning.{counted_list, fractions_of, tables_of, written_list}
use Rattle.c_unit.specs.Rules.{KeepAll, KeepTables, KeepsSizes, outside, sizes_of}
use Rattle.kernel_runs.specs.Strips.{EntriesWithin, factors_in, map_plan}
use Rattle.kernel_runs.specs.Planned.{AllPlanned, CountsWithin, IsPlanned, counts_after, monos_code}
use Rattle.kernel_runs.specs.Frame.{AllNonzero, AllOfWidth, HasNonzero}
use Rattle.kernel_runs.specs.Preamble.{preamble}
use Rattle.kernel_runs.specs.Body.{IsBody, places_for, strip_of}
use Rattle.kernel_runs.specs.declared.digit.Digit.TheVariants.{Growth}
use Rattle.kernel_runs.proofs.Directed.{directed_fixed}
use Rattle.kernel_runs.proofs.Tables.{joined, joined_table}
use Rattle.kernel_statements.specs.Counted.{counted_rows, is_zero_row}
use Rattle.kernel_statements.specs.Statements.{FitsBuffers, all_statements, most_columns, most_rows, row_list}
use Rattle.kernel_statements.specs.declared.contraction.Contraction.{Contraction}
use Rattle.kernel_statements.specs.declared.slots.Buffers.{Buffers}
use Rattle.kernel_statements.proofs.BodyLaws.{some_columns as some_buffer}
use Rattle.kernel_statements.proofs.CountedLaws.{counted_nonzero}
use Rattle.kernel_statements.proofs.StandingLaws.{entries_length}
use Rattle.planner.specs.Contractions.{AreContractionsOf, IsContractionOf, IsKernelOf, buffers_for, more, none, without}
use Rattle.planner.specs.Kernels.{AreWithin, HasSizes, IsLoaded, entry_number, kernel_tables, run_bounds, text_bounds}
use Rattle.planner.proofs.FactorLaws.{factors_directed, growths_directed}
use Rattle.planner.proofs.ContractionLaws.{coefficients_directed, directions_few, entries_known, items_length, row_list_is, rows_least, some_columns, strips_count, strips_of, strips_within}
use Rattle.planner.proofs.CountBounds.{body_bound, body_runs, list_length, list_width}
use Rattle.planner.proofs.LoadedLaws.{all_loaded}
use Rattle.planner.proofs.WrittenBounds.{body_written}
use Rattle.planner.proofs.PlanLaws.{plan_of, plans_directed, plans_of, statements_are, tables_are}
use Rattle.planner.proofs.PreambleKeeps.{preamble_keeps}
use Rattle.planner.proofs.KeepLaws.{all_keep}
use Rattle.planner.proofs.KernelKeeps.{all_fit, few_dimensions, monos_keep, most_columns_few, most_rows_few}
use Rattle.planner.proofs.SizeLaws.{all_entries_few}

-- ---- rows of a table
nonzero : (row : List Fraction) → is_zero_row row ≡ false → HasNonzero row
nonzero [] h = cc
nonzero (x ∷ xs) h = go (is_zero_fraction x) refl h (nonzero xs)
  where
    go : (b : Bool) → is_zero_fraction x ≡ b → (b && is_zero_row xs) ≡ false → (is_zero_row xs ≡ false → HasNonzero xs) → (is_zero_fraction x ≡ false) ⊎ HasNonzero xs
    go true e k rest = inr (rest k)
    go false e k rest = inl e

all_nonzero : (rows : List (List Fraction)) → AllByRecursion (λ r. is_zero_row r ≡ false) rows → AllNonzero rows
all_nonzero [] h = tt
all_nonzero (row ∷ rows) h = (nonzero row h.0, all_nonzero rows h.1)

all_wide : (width : ℕ) (rows : List (List Fraction)) → AllByRecursion (λ r. length r ≡ width) rows → AllOfWidth width rows
all_wide width [] h = tt
all_wide width (row ∷ rows) h = (h.0, all_wide width rows h.1)

-- ---- plans
module _ (l : Layout) (d : l.d ≤ 3) (b : Buffers) (ks : List (List Fraction)) where
  one_planned : (m : Monomial) (c : Contraction) (h : IsContractionOf l m c) → FitsBuffers l.d b c → (n table : ℕ) → slice_index_or ks table [] ≡ fractions_of c.items.items
      → IsPlanned ks (places_for b.columns) b.rows (entry_number l) (map_plan (strip_of l.d) (plan_of n table c h.entries.0))
  one_planned m c h f n table items =
      let factors = factors_in c.coefficients.items (map (λ i. Growth i) c.directions.items) in
      let same = sym (strips_of l m c h) in
      let some = some_columns l m c h in
      let one : c.columns ≡ suc (c.columns - 1) = omega arith in
      let list = row_list_is l m c h in
      record {
        fixed =
            directed_fixed l.d d factors
            (factors_directed c.coefficients.items (map (λ i. Growth i) c.directions.items) (coefficients_directed l m c h)
            (growths_directed c.directions.items (directions_few l m c h)));
        within = subst (CountsWithin b.columns 1) same (strips_within l m c h b.columns f.wide);
        width = ap (counts_after 1) (strips_of l m c h) ∙ strips_count l m c h ∙ one;
        few = subst (λ k. k ≤ b.rows) (sym (list_length l m c h)) f.rows;
        table =
            joined_table ks table (suc (c.columns - 1)) (row_list c) (items ∙ h.items ∙ ap joined (sym list))
            (all_wide (suc (c.columns - 1)) (row_list c) (list_width l m c h));
        nonzero = subst AllNonzero (sym list) (all_nonzero (counted_rows (rows_of l m)) (counted_nonzero (rows_of l m)));
        known = subst (λ k. EntriesWithin k h.entries.0) (sym (ap length list)) (entries_known l m c h);
        size = entries_length (rows_of l m) h.entries.0 h.entries.1 ∙ rows_counted l m;
      }

  table_at : (before : List (List Fraction)) (k : List Fraction) (rest : List (List Fraction)) → slice_index_or (before ++ k ∷ rest) (length before) [] ≡ k
  table_at [] k rest = refl
  table_at (x ∷ before) k rest = table_at before k rest

  -- with the tables from number `length before` on
  all_planned : (n : ℕ) (before : List (List Fraction)) {ms : List Monomial} {cs : List Contraction} (r : AreContractionsOf l ms cs) → AllByRecursion (FitsBuffers l.d b) cs
      → ks ≡ before ++ map (λ c. fractions_of c.items.items) cs
      → AllPlanned ks (places_for b.columns) b.rows (entry_number l) (map (map_plan (strip_of l.d)) (plans_of l n (length before) r))
  all_planned n before none f e = tt
  all_planned n before (without k r) f e = all_planned n before r f e
  all_planned n before (more {m = m} {c = c} {cs = cs} h r) f e =
      let rest = map (λ (c : Contraction). fractions_of c.items.items) cs in
      let table = fractions_of c.items.items in (
        one_planned m c h f.0 n (length before) (ap (λ ts. slice_index_or ts (length before) []) e ∙ table_at before table rest),
        subst (λ k. AllPlanned ks (places_for b.columns) b.rows (entry_number l) (map (map_plan (strip_of l.d)) (plans_of l n k r)))
            (length-append before (table ∷ []) ∙ next (length before))
            (all_planned n (before ++ table ∷ []) r f.1 (e ∙ sym (append_assoc before (table ∷ []) rest))),
      )
    where
      next : (k : ℕ) → k + 1 ≡ suc k
      next k = omega arith

map_twice : {A B C : Type 0} (f : A → B) (g : B → C) (xs : List A) → map g (map f xs) ≡ map (λ x. g (f x)) xs
map_twice f g [] = refl
map_twice f g (x ∷ xs) = ap (λ r. g (f x) ∷ r) (map_twice f g xs)

-- ---- how many contractions
some_spread : (l : Layout) (m : Monomial) (c : Contraction) → IsContractionOf l m c → 0 < spread (cost_at l) l.d m
some_spread l m c h = least (length c.entries.items) c.columns (spread (cost_at l) l.d m) (let k = rows_least l m c h in omega (arith, k, h.some)) (some_columns l m c h) h.few
  where
    least : (a b s : ℕ) → 0 < a → 0 < b → a * b ≤ s → 0 < s
    least zero b s p q h = absurd (omega (arith, p))
    least (suc a) zero s p q h = absurd (omega (arith, q))
    least (suc a) (suc b) s p q h = omega arith

contractions_few : (l : Layout) {ms : List Monomial} {cs : List Contraction} → AreContractionsOf l ms cs → length cs ≤ spreads (cost_at l) l.d ms
contractions_few l none = omega arith
contractions_few l (without e r) = let h = contractions_few l r in omega arith
contractions_few l (more {m = m} {c = c} h r) = let some = some_spread l m c h in let rest = contractions_few l r in omega arith

-- ---- tables
tables_keep : (l : Layout) {ms : List Monomial} {cs : List Contraction} (b : Buffers) → AreContractionsOf l ms cs → AllByRecursion (FitsBuffers l.d b) cs
    → KeepTables (map (λ c. c.items.items) cs)
tables_keep l b none f = tt
tables_keep l b (without e r) f = tables_keep l b r f
tables_keep l b (more {m = m} {c = c} h r) f =
    let long = items_length l m c h in
    let fit = f.0 in
    (some (length c.items.items) c.rows c.columns long h.some fit.some, omega (arith, long, fit.few), tables_keep l b r f.1)
  where
    some : (n r k : ℕ) → n ≡ r * k → 0 < r → 0 < k → 0 < n
    some n zero k e p q = absurd (omega (arith, p))
    some n (suc r) zero e p q = absurd (omega (arith, q))
    some n (suc r) (suc k) e p q = omega (arith, e)

sizes_are : (l : Layout) {ms : List Monomial} {cs : List Contraction} → AreContractionsOf l ms cs → map (λ c. length c.items.items) cs ≡ map (λ c. c.rows * c.columns) cs
sizes_are l none = refl
sizes_are l (without e r) = sizes_are l r
sizes_are l (more {m = m} {c = c} h r) = ap₂ (λ x xs. x ∷ xs) (items_length l m c h) (sizes_are l r)

-- ---- a planned function
module _ (l : Layout) (lawful : IsLawfulLayout l) (w : Weight) {ms : List Monomial} {cs : List Contraction} (within : AreWithin l w ms) (r : AreContractionsOf l ms cs) where
  pub few_tables : length cs ≤ 2 ^ 20
  few_tables = let h = contractions_few l r in omega (arith, h, within.weighed.sum, within.admitted.cost)

  pub columns_few : most_columns cs ≤ 2 ^ 20
  columns_few = most_columns_few l w within.admitted r within.each

  pub rows_few : most_rows cs ≤ 2 ^ 20
  rows_few = most_rows_few l w within.admitted r within.each

  pub fit : AllByRecursion (FitsBuffers l.d (buffers_for cs)) cs
  fit = all_fit l w within.admitted (buffers_for cs) columns_few rows_few r within.each (same (most_columns cs)) (same (most_rows cs))
    where
      same : (n : ℕ) → n ≤ n
      same n = omega arith

  module _ (f : CFun) (k : IsKernelOf l cs f) where
    pub has_sizes : HasSizes l f
    has_sizes = let few = columns_few in let short = rows_few in record { x = k.x; w = k.w; t = omega (arith, k.t); a = k.a }

    pub keeps : KeepsSizes f
    keeps =
        let few = columns_few in
        let short = rows_few in
        let some = some_buffer cs in
        let area = all_entries_few l lawful in
        let fixed : 33 ≤ f.t = omega (arith, k.t) in
        let low = few_dimensions l lawful (sizes_of f) k.x k.w fixed in
        let names = few_tables in
        let next : l.d + 1 ≤ 4 = omega (arith, low) in
        let ends : l.d * (l.d + 1) ≤ 3 * 4 = N.mul-le-mul low next in
        let wide : f.x ≤ 12 = omega (arith, k.x, ends) in
        let sizes : map length f.tables ≡ map (λ c. c.rows * c.columns) cs = ap (map length) k.tables ∙ map_twice (λ (c : Contraction). c.items.items) length cs ∙ sizes_are l r in
        record {
          x = omega arith;
          w = omega (arith, k.w, lawful.1.few);
          t = omega (arith, k.t);
          a = omega (arith, k.a);
          some_temporaries = omega (arith, k.t);
          numbered = omega (arith, ap length k.tables, length-map cs (λ c. c.items.items));
          tables = subst KeepTables (sym k.tables) (tables_keep l (buffers_for cs) r fit);
          statements =
              subst (KeepAll (sizes_of f) outside 0) (sym k.body)
              (all_keep (sizes_of f) outside 0 (preamble l.d) (all_statements l.d (buffers_for cs) (entry_number l) 0 cs)
              (preamble_keeps (sizes_of f) (omega (arith, k.t)) fixed (omega arith) l.d low k.x)
              (monos_keep l lawful (sizes_of f) k.x k.w fixed (buffers_for cs) k.t few short some k.a (omega (arith, k.a)) (entry_number l) [] r fit sizes));
        }

    pub is_body : (v : Simplex) → dimension v ≡ l.d → IsBody f v (most_columns cs) (most_rows cs) (plans_of l (entry_number l) 0 r)
    is_body v e =
        let fixed : 33 ≤ f.t = omega (arith, k.t) in
        let low = few_dimensions l lawful (sizes_of f) k.x k.w fixed in
        let cap = most_columns cs in
        let most = most_rows cs in
        let plans = plans_of l (entry_number l) 0 r in
        let ks : tables_of f.tables ≡ map (λ c. fractions_of c.items.items) cs = ap tables_of k.tables ∙ map_twice (λ (c : Contraction). c.items.items) fractions_of cs in
        record {
          body =
              k.body ∙ ap (λ s. preamble l.d ++ s) (statements_are l (buffers_for cs) (entry_number l) 0 r)
              ∙ ap (λ d. preamble d ++ monos_code (places_for cap) (map (map_plan (strip_of d)) plans)) (sym e);
          size = k.t;
          some = some_buffer cs;
          directed = plans_directed l (entry_number l) 0 r;
          planned =
              subst (λ d. AllPlanned (tables_of f.tables) (places_for cap) most f.a (map (map_plan (strip_of d)) plans)) (sym e)
              (subst (λ n. AllPlanned (tables_of f.tables) (places_for cap) most n (map (map_plan (strip_of l.d)) plans)) (sym k.a)
              (all_planned l low (buffers_for cs) (tables_of f.tables) (entry_number l) [] r fit ks));
        }

    -- ---- the other clauses
    pub tables_named : tables_of f.tables ≡ kernel_tables l ms
    tables_named = ap tables_of k.tables ∙ tables_are l r

    pub loaded : (n : ℕ) → n < length f.tables → IsLoaded n f.body
    loaded n h =
        subst (IsLoaded n) (sym k.body)
        (all_loaded l (buffers_for cs) (entry_number l) r n (omega (arith, h, ap length k.tables, length-map cs (λ c. c.items.items))))

    pub bound : counted_list f.body ≤ (w.g + w.rmax + 4) * w.cost + 200
    bound = subst (λ s. counted_list s ≤ (w.g + w.rmax + 4) * w.cost + 200) (sym k.body) (body_bound l (buffers_for cs) (entry_number l) ms cs r w within)

    pub statements : counted_list f.body ≤ 200 + run_bounds l ms
    statements = subst (λ s. counted_list s ≤ 200 + run_bounds l ms) (sym k.body) (body_runs l (buffers_for cs) (entry_number l) ms cs r)

    pub written : written_list f.body ≤ 400 + text_bounds l ms
    written = subst (λ s. written_list s ≤ 400 + text_bounds l ms) (sym k.body) (body_written l (buffers_for cs) r)
