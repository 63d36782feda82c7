-- How many statements the runs of contractions make
use Rattle.std.proofs.Common.{◌≡◌, ℕ, zero, suc, ◌+◌, ◌-◌, ◌*◌, ◌<◌, ◌≤◌, Bool, true, false, if◌then◌else◌, List, [], ◌∷◌, ◌++◌, length, map, refl, sym, ap, ap₂, ◌∙◌, subst, lit≤, arith}
use Rattle.std.specs.List.{AllByRecursion}
use Rattle.std.proofs.lemmas.List.{length-append, length-map}
use native.Mathlib.Nat as N
use Rattle.algebra.specs.Fraction.{Fraction}
use Rattle.monos.specs.declared.layout.Layout.{Layout}
use Rattle.monos.specs.declared.mono.Atom.{Atom}
use Rattle.monos.specs.declared.weight.Weight.{Weight}
use Rattle.monos.specs.Monomial.{Monomial}
use Rattle.weigh.specs.Admitted.{IsAdmitted}
use Rattle.weigh.specs.Lists.{spread, spreads}
use Rattle.refint.specs.Reference.{is_argument, node_counts, nodes_in, part_of}
use Rattle.room.proofs.PartLaws.{directions_long}
use Rattle.monomial_weights.specs.Weighed.{IsWithin, cost_at}
use Rattle.monomial_weights.specs.Columns.{column_count}
use Rattle.tensors.specs.Rows.{rows_of}
use Rattle.tensors.proofs.RowLaws.{rows_counted}
use Rattle.c_unit.specs.Meaning.{counted_list}
use Rattle.kernel_runs.specs.Counts.{columns_count, entries_count}
use Rattle.kernel_runs.specs.Strips.{Factor, Slowest, factors_in, from_last, in_turn}
use Rattle.kernel_runs.specs.Planned.{columns_code, columns_place, first_buffer, row_buffer, rows_part, second_buffer, straight_row, straight_rows}
use Rattle.kernel_runs.specs.Preamble.{preamble}
use Rattle.kernel_runs.specs.Body.{places_for, strip_of}
use Rattle.kernel_runs.specs.declared.digit.Digit.TheVariants.{Growth}
use Rattle.kernel_runs.proofs.CountLaws.{counted_append, counted_columns, counted_entries, counted_row, counted_rows as counted_loops, few_columns}
use Rattle.kernel_statements.specs.Counted.{counted_rows}
use Rattle.kernel_statements.specs.Digits.{coefficient_digits}
use Rattle.kernel_statements.specs.Placed.{placed_code}
use Rattle.kernel_statements.specs.Statements.{all_statements, factor_strips, factor_total, growth_strips, is_short, mono_statements, row_list}
use Rattle.kernel_statements.specs.declared.contraction.Contraction.{Contraction}
use Rattle.kernel_statements.specs.declared.slots.Buffers.{Buffers}
use Rattle.kernel_statements.proofs.StandingLaws.{entries_few, entries_length, placed_is, placed_length}
use Rattle.planner.specs.Contractions.{AreContractionsOf, IsContractionOf, more, none, without}
use Rattle.planner.specs.Kernels.{AreWithin, entry_number, factor_count, run_bound, run_bounds}
use Rattle.planner.proofs.FactorLaws.{digits_counted}
use Rattle.planner.proofs.KeepLaws.{less_one}
use Rattle.planner.proofs.ContractionLaws.{counted_width, row_list_is, rows_least, some_columns, strips_within}

-- ---- factors
counts_few : (l : Layout) (xs : List Atom) → length (node_counts l xs) ≤ length xs
counts_few l [] = omega arith
counts_few l (x ∷ xs) = go (is_argument x.f.role) (counts_few l xs)
  where
    go : (b : Bool) → length (node_counts l xs) ≤ length xs
        → length (if b then node_counts l xs else nodes_in (part_of l x.f.role x.component) ∷ node_counts l xs) ≤ suc (length xs)
    go true h = omega arith
    go false h = omega arith

turn_length : {V : Type 0} (gs : List V) → length (in_turn gs []) ≡ length gs
turn_length [] = refl
turn_length (g ∷ gs) = ap suc (turn_length gs)

last_length : {V : Type 0} (gs : List V) (fs : List (Factor V)) → length (from_last gs fs) ≡ length gs + length fs
last_length [] fs = omega arith
last_length (g ∷ gs) fs = let h = last_length gs (Slowest g ∷ fs) in omega arith

factors_length : {V : Type 0} (cs ds : List V) → length (factors_in cs ds) ≡ length cs + length ds
factors_length cs ds =
    let all = length-append (in_turn ds []) (from_last cs []) in
    let first = turn_length ds in
    let last = last_length cs [] in
    omega arith

pub strips_length : (d : ℕ) (c : Contraction) → length (factor_strips d c) ≡ factor_total c
strips_length d c =
    factors_length (map (strip_of d) c.coefficients.items) (growth_strips d c)
    ∙ ap₂ ◌+◌ (length-map c.coefficients.items (strip_of d)) (length-map c.directions.items (λ i. strip_of d (Growth i)))

-- ---- rows without loops are no other than with them
straight_few : (scratch row cur t other a : ℕ) (rows : List (List Fraction)) → AllByRecursion (λ r. length r ≡ suc other) rows
    → counted_list (straight_rows scratch row cur t (suc other) a rows) ≤ length rows * (2 + 3 * other)
straight_few scratch row cur t other a [] h = omega arith
straight_few scratch row cur t other a (r ∷ rows) h =
    let one = counted_row scratch (row + a) cur t (suc other * a) r other (omega (arith, h.0)) in
    let rest = straight_few scratch row cur t other (a + 1) rows h.1 in
    let both = counted_append (straight_row scratch (row + a) cur t (suc other * a) r) (straight_rows scratch row cur t (suc other) (a + 1) rows) in
    omega arith

rows_few : (straight : Bool) (scratch row cur t other : ℕ) (rows : List (List Fraction)) → AllByRecursion (λ r. length r ≡ suc other) rows
    → counted_list (rows_part straight scratch row cur t other rows) ≤ length rows * (2 + 3 * other)
rows_few true scratch row cur t other rows h = straight_few scratch row cur t other 0 rows h
rows_few false scratch row cur t other rows h = let k = counted_loops scratch row cur t (length rows) other in omega arith

-- F factors, R rows of C columns, M entries that are placed, of E
by_run : (F C R M E e : ℕ) → 0 < C → e + 2 * R ≤ 3 * M → M ≤ E → F * C + (R * (2 + 3 * (C - 1)) + e) ≤ (F + 3 * R + 2) * C + 4 * E
by_run F (suc k) R M E e p h g =
    subst (λ j. F * suc k + (R * (2 + 3 * j) + e) ≤ (F + 3 * R + 2) * suc k + 4 * E) (sym (less_one k)) (omega (arith, h, g))
by_run F zero R M E e p h g = absurd (omega (arith, p))

by_spread : (F C R M S G e : ℕ) → 0 < C → 0 < R → R ≤ M → e + 2 * R ≤ 3 * M → F ≤ G → M * C ≤ S → F * C + (R * (2 + 3 * (C - 1)) + e) ≤ (G + 4) * S
by_spread F zero R M S G e p q r h f s = absurd (omega (arith, p))
by_spread F (suc k) R M S G e p q r h f s =
    let one : 1 * suc k ≤ M * suc k = N.mul-le-mul_right (suc k) (omega arith) in
    let rows : R * k ≤ M * k = N.mul-le-mul_right k r in
    let columns : F * suc k ≤ G * suc k = N.mul-le-mul_right (suc k) f in
    let wide : G * suc k ≤ G * S = N.mul-le-mul_left G (omega (arith, one, s)) in
    subst (λ j. F * suc k + (R * (2 + 3 * j) + e) ≤ (G + 4) * S) (sym (less_one k)) (omega (arith, h, s, rows, columns, wide))

module _ (l : Layout) (m : Monomial) (c : Contraction) (h : IsContractionOf l m c) where
  pub factors_are : factor_total c ≡ factor_count l m
  factors_are =
      ap₂ ◌+◌
      (ap length h.coefficients ∙ sym (length-map (coefficient_digits l m.atoms) (λ g. (strip_of l.d g).count)) ∙ ap length (digits_counted l m.atoms))
      (ap length h.directions ∙ directions_long m.atoms)

  pub list_width : AllByRecursion (λ r. length r ≡ suc (c.columns - 1)) (row_list c)
  list_width =
      let some = some_columns l m c h in
      let wide : column_count l m.atoms ≡ suc (c.columns - 1) = omega (arith, h.columns) in
      subst (AllByRecursion (λ r. length r ≡ suc (c.columns - 1))) (sym (row_list_is l m c h))
      (subst (λ n. AllByRecursion (λ r. length r ≡ n) (counted_rows (rows_of l m))) wide (counted_width l m))

  pub list_length : length (row_list c) ≡ c.rows
  list_length = ap length (row_list_is l m c h) ∙ sym h.rows

  pub entries_least : entries_count h.entries.0 + 2 * c.rows ≤ 3 * length c.entries.items
  entries_least =
      let few = entries_few (rows_of l m) h.entries.0 h.entries.1 in
      omega (arith, h.rows, ap length h.entries.2)

  pub entries_most : length c.entries.items ≤ entry_number l
  entries_most =
      let placed = placed_length 0 h.entries.0 in
      omega (arith, ap length h.entries.2, entries_length (rows_of l m) h.entries.0 h.entries.1, rows_counted l m)

  mono_counted : (b : Buffers) (entries table : ℕ)
      → counted_list (mono_statements l.d b table entries c) ≤ factor_total c * c.columns + (c.rows * (2 + 3 * (c.columns - 1)) + entries_count h.entries.0)
  mono_counted b entries table =
      let columns = columns_code (first_buffer (places_for b.columns)) (second_buffer (places_for b.columns)) 20 1 (factor_strips l.d c) in
      let at = columns_place (places_for b.columns) (factor_strips l.d c) in
      let values = row_buffer (places_for b.columns) in
      let rows = rows_part (is_short entries c) 32 values at table (c.columns - 1) (row_list c) in
      let first : counted_list columns ≤ factor_total c * c.columns =
      subst (λ n. n ≤ factor_total c * c.columns) (sym (counted_columns (first_buffer (places_for b.columns)) (second_buffer (places_for b.columns)) 20 1 (factor_strips l.d c)))
      (subst (λ n. columns_count 1 (factor_strips l.d c) ≤ n * c.columns) (strips_length l.d c)
      (few_columns c.columns 1 (factor_strips l.d c) (strips_within l m c h c.columns (omega arith)))) in
      let second : counted_list rows ≤ c.rows * (2 + 3 * (c.columns - 1)) =
      subst (λ n. counted_list rows ≤ n * (2 + 3 * (c.columns - 1))) list_length
      (rows_few (is_short entries c) 32 values at table (c.columns - 1) (row_list c) list_width) in
      let third : counted_list (placed_code 32 values c.entries.items) ≡ entries_count h.entries.0 =
      ap (λ es. counted_list (placed_code 32 values es)) h.entries.2 ∙ ap counted_list (placed_is 32 values 0 h.entries.0) ∙ counted_entries 32 values 0 h.entries.0 in
      let one = counted_append columns (rows ++ placed_code 32 values c.entries.items) in
      let two = counted_append rows (placed_code 32 values c.entries.items) in
      omega (arith, one, two, first, second, third)

  pub run_few : (b : Buffers) (entries table : ℕ) → counted_list (mono_statements l.d b table entries c) ≤ run_bound l m
  run_few b entries table =
      let some = by_run (factor_total c) c.columns c.rows (length c.entries.items) (entry_number l) (entries_count h.entries.0) (some_columns l m c h) entries_least entries_most in
      let all = mono_counted b entries table in
      let same : (factor_total c + 3 * c.rows + 2) * c.columns ≡ (factor_count l m + 3 * length (counted_rows (rows_of l m)) + 2) * column_count l m.atoms =
      ap₂ ◌*◌ (ap₂ (λ f r. f + 3 * r + 2) factors_are h.rows) h.columns in
      omega (arith, same, some, all)

  factors_few : (w : Weight) → IsAdmitted l.d w → IsWithin l w m → factor_total c ≤ w.g + w.rmax
  factors_few w a k =
      let few = counts_few l m.atoms in
      omega (arith, factors_are, k.functions, k.greatest, a.functions)

  pub spread_few : (w : Weight) → IsAdmitted l.d w → IsWithin l w m → (b : Buffers) (entries table : ℕ)
      → counted_list (mono_statements l.d b table entries c) ≤ (w.g + w.rmax + 4) * spread (cost_at l) l.d m
  spread_few w a k b entries table =
      let all = mono_counted b entries table in
      let few = by_spread (factor_total c) c.columns c.rows (length c.entries.items) (spread (cost_at l) l.d m) (w.g + w.rmax) (entries_count h.entries.0)
      (some_columns l m c h) h.some (rows_least l m c h) entries_least (factors_few w a k) h.few in
      omega (arith, all, few)

-- ---- of all
pub runs_few : (l : Layout) (b : Buffers) (entries table : ℕ) {ms : List Monomial} {cs : List Contraction} → AreContractionsOf l ms cs
    → counted_list (all_statements l.d b entries table cs) ≤ run_bounds l ms
runs_few l b entries table none = omega arith
runs_few l b entries table (without e r) = let all = runs_few l b entries table r in omega arith
runs_few l b entries table (more {m = m} {c = c} {cs = cs} h r) =
    let one = run_few l m c h b entries table in
    let all = runs_few l b entries (suc table) r in
    let both = counted_append (mono_statements l.d b table entries c) (all_statements l.d b entries (suc table) cs) in
    omega (arith, one, all, both)

pub spreads_few : (l : Layout) (w : Weight) → IsAdmitted l.d w → (b : Buffers) (entries table : ℕ) {ms : List Monomial} {cs : List Contraction}
    → AreContractionsOf l ms cs → AllByRecursion (IsWithin l w) ms
    → counted_list (all_statements l.d b entries table cs) ≤ (w.g + w.rmax + 4) * spreads (cost_at l) l.d ms
spreads_few l w a b entries table none k = omega arith
spreads_few l w a b entries table (without {m = m} e r) k = let all = spreads_few l w a b entries table r k.1 in omega (arith, all)
spreads_few l w a b entries table (more {m = m} {c = c} {cs = cs} h r) k =
    let one = spread_few l m c h w a k.0 b entries table in
    let all = spreads_few l w a b entries (suc table) r k.1 in
    let both = counted_append (mono_statements l.d b table entries c) (all_statements l.d b entries (suc table) cs) in
    omega (arith, one, all, both)

preamble_few : (d : ℕ) → counted_list (preamble d) ≤ 52
preamble_few zero = lit≤ tt
preamble_few (suc zero) = lit≤ tt
preamble_few (suc (suc zero)) = lit≤ tt
preamble_few (suc (suc (suc d))) = lit≤ tt

-- ---- of a body
module _ (l : Layout) (b : Buffers) (entries : ℕ) (ms : List Monomial) (cs : List Contraction) (r : AreContractionsOf l ms cs) where
  pub body_runs : counted_list (preamble l.d ++ all_statements l.d b entries 0 cs) ≤ 200 + run_bounds l ms
  body_runs =
      let both = counted_append (preamble l.d) (all_statements l.d b entries 0 cs) in
      let first = preamble_few l.d in
      let all = runs_few l b entries 0 r in
      omega (arith, both, first, all)

  pub body_bound : (w : Weight) → AreWithin l w ms → counted_list (preamble l.d ++ all_statements l.d b entries 0 cs) ≤ (w.g + w.rmax + 4) * w.cost + 200
  body_bound w k =
      let both = counted_append (preamble l.d) (all_statements l.d b entries 0 cs) in
      let first = preamble_few l.d in
      let all = spreads_few l w k.admitted b entries 0 r k.each in
      let cost : (w.g + w.rmax + 4) * spreads (cost_at l) l.d ms ≤ (w.g + w.rmax + 4) * w.cost = N.mul-le-mul_left (w.g + w.rmax + 4) k.weighed.sum in
      omega (arith, both, first, all, cost)
