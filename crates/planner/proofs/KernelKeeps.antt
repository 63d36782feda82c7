-- Kernels of contractions keep within their arrays
use Rattle.std.proofs.Common.{◌≡◌, ℕ, zero, suc, ◌+◌, ◌-◌, ◌*◌, ◌<◌, ◌≤◌, ◌^◌, List, [], ◌∷◌, ◌++◌, length, map, slice_index_or, Option, None, Some, refl, sym, ap, ap₂, ◌∙◌, subst, lit<, lit≤, append_assoc, arith}
use Rattle.std.specs.Prelude.{slice_get}
use Rattle.std.specs.List.{AllByRecursion}
use Rattle.std.proofs.lemmas.List.{length-append}
use native.Mathlib.Nat as N
use Rattle.spaces.specs.declared.cell.Cell.{Cell}
use Rattle.spaces.specs.declared.cell.Cell.TheVariants.{Interval, Triangle, Tetrahedron}
use Rattle.spaces.specs.Cell.{dimension}
use Rattle.spaces.specs.declared.parts.Part.{Part}
use Rattle.spaces.specs.declared.parts.Parts.{Parts}
use Rattle.ufl_tree.specs.declared.function.Role.{Role}
use Rattle.ufl_tree.specs.declared.function.Role.TheVariants.{Test, Trial, Position, Coefficient}
use Rattle.monos.specs.declared.layout.Layout.{Layout}
use Rattle.monos.specs.declared.mono.Atom.{Atom}
use Rattle.monos.specs.declared.weight.Weight.{Weight}
use Rattle.monos.specs.Layout.{IsLawfulLayout, IsPosition, parts_or_none, place_of, place_parts, position_parts, value_count}
use Rattle.monos.specs.Monomial.{Monomial}
use Rattle.weigh.specs.Admitted.{IsAdmitted}
use Rattle.monomial_weights.specs.Weighed.{IsWithin}
use Rattle.tensors.specs.Rows.{rows_of}
use Rattle.tensors.proofs.RowLaws.{rows_counted}
use Rattle.c_unit.specs.Rules.{KeepAll, Sizes, keep_none, outside}
use Rattle.kernel_runs.specs.Strips.{EntriesWithin, Factor, Slowest, from_last, in_turn}
use Rattle.kernel_runs.specs.Planned.{columns_code, columns_place, counts_after, entries_code, first_buffer, row_buffer, rows_part, second_buffer}
use Rattle.kernel_runs.specs.Body.{places_for, strip_of}
use Rattle.kernel_runs.specs.declared.digit.Digit.TheVariants.{Corners, Growth, Weights}
use Rattle.kernel_runs.specs.declared.strip.Strip.{Strip}
use Rattle.kernel_statements.specs.Digits.{coefficient_digits, corner_digit, digit_of, offset_in, part_digit, with_digit}
use Rattle.kernel_statements.specs.Placed.{placed_code}
use Rattle.kernel_statements.specs.Statements.{FitsBuffers, all_statements, factor_strips, growth_strips, is_short, mono_statements, most_columns, most_rows, row_list}
use Rattle.kernel_statements.specs.declared.contraction.Contraction.{Contraction}
use Rattle.kernel_statements.specs.declared.slots.Buffers.{Buffers}
use Rattle.kernel_statements.proofs.PlaceLaws.{coefficient_within}
use Rattle.kernel_statements.proofs.StandingLaws.{entries_length, placed_is}
use Rattle.planner.specs.Contractions.{AreContractionsOf, IsContractionOf, more, none, without}
use Rattle.planner.specs.Kernels.{entry_number}
use Rattle.planner.proofs.FactorLaws.{counts_product}
use Rattle.planner.proofs.ContractionLaws.{columns_small, directions_few, entries_known, fits_buffers, rows_small, strips_count, strips_product, strips_within}
use Rattle.planner.proofs.CountBounds.{list_length, list_width}
use Rattle.planner.proofs.KeepLaws.{FactorInside, MayBeInside, all_keep, columns_end, columns_keep, entries_keep, less_one, part_keeps}

-- ---- factors stand in their arrays
module _ (l : Layout) (lawful : IsLawfulLayout l) (z : Sizes) (wide : z.x ≡ l.d * (l.d + 1)) (values : z.w ≡ value_count l.coefs) (fixed : 33 ≤ z.t) where
  few_directions : (c : Cell) → dimension c ≤ 3
  few_directions Interval = lit≤ tt
  few_directions Triangle = lit≤ tt
  few_directions Tetrahedron = lit≤ tt

  pub few_dimensions : l.d ≤ 3
  few_dimensions = subst (λ n. n ≤ 3) (sym lawful.1.dimension) (few_directions lawful.0)

  weights_inside : (o n : ℕ) → o + n ≤ z.w → MayBeInside z (strip_of l.d (Weights o n))
  weights_inside o n h p =
      let few = lawful.1.few in
      record { some = p; few = omega arith; base = omega arith; step = lit< tt; last = omega arith }

  corners_inside : (i n : ℕ) → i < l.d → n ≤ l.d + 1 → MayBeInside z (strip_of l.d (Corners i n))
  corners_inside i n h k p =
      let few = few_dimensions in
      record { some = p; few = omega arith; base = omega arith; step = omega arith; last = last l.d i n z.x wide h k p }
    where
      last : (d i n size : ℕ) → size ≡ d * (d + 1) → i < d → n ≤ d + 1 → 0 < n → i + d * (n - 1) < size
      last d i zero size e h k p = absurd (omega (arith, p))
      last d i (suc n) size e h k p =
          let most : d * n ≤ d * d = N.mul-le-mul_left d (omega arith) in
          subst (λ j. i + d * j < size) (sym (less_one n)) (omega (arith, e, most))

  nothing_inside : (k i : ℕ) → MayBeInside z (strip_of l.d (corner_digit k (slice_get [] i)))
  nothing_inside k zero p = absurd (omega (arith, p))
  nothing_inside k (suc i) p = absurd (omega (arith, p))

  on_cell : (c : Cell) (i : ℕ) → l.d ≡ dimension c → MayBeInside z (strip_of l.d (corner_digit i (slice_get (position_parts c).items i)))
  on_cell Interval zero e = corners_inside 0 2 (omega (arith, e)) (omega (arith, e))
  on_cell Interval (suc i) e = nothing_inside (suc i) i
  on_cell Triangle zero e = corners_inside 0 3 (omega (arith, e)) (omega (arith, e))
  on_cell Triangle (suc zero) e = corners_inside 1 3 (omega (arith, e)) (omega (arith, e))
  on_cell Triangle (suc (suc i)) e = nothing_inside (suc (suc i)) i
  on_cell Tetrahedron zero e = corners_inside 0 4 (omega (arith, e)) (omega (arith, e))
  on_cell Tetrahedron (suc zero) e = corners_inside 1 4 (omega (arith, e)) (omega (arith, e))
  on_cell Tetrahedron (suc (suc zero)) e = corners_inside 2 4 (omega (arith, e)) (omega (arith, e))
  on_cell Tetrahedron (suc (suc (suc i))) e = nothing_inside (suc (suc (suc i))) i

  of_position : (o : Option Parts) (i : ℕ) → IsPosition lawful.0 o → MayBeInside z (strip_of l.d (corner_digit i (slice_get (parts_or_none o) i)))
  of_position None i h = nothing_inside i i
  of_position (Some ps) i h = subst (λ (q : Parts). MayBeInside z (strip_of l.d (corner_digit i (slice_get q.items i)))) (sym h) (on_cell lawful.0 i lawful.1.dimension)

  of_part : (o : ℕ) (p : Option Part) → ((q : Part) → p ≡ Some q → o + (q.offset + q.nodes) ≤ z.w) → MayBeInside z (strip_of l.d (part_digit o p))
  of_part o None h p = absurd (omega (arith, p))
  of_part o (Some q) h p = let k = h q refl in weights_inside (o + q.offset) q.nodes (omega arith) p

  digits_inside : (xs : List Atom) → AllByRecursion (λ g. MayBeInside z (strip_of l.d g)) (coefficient_digits l xs)
  digits_inside [] = tt
  digits_inside (x ∷ xs) = go x.f.role (digits_inside xs)
    where
      go : (r : Role) → AllByRecursion (λ g. MayBeInside z (strip_of l.d g)) (coefficient_digits l xs)
          → AllByRecursion (λ g. MayBeInside z (strip_of l.d g)) (with_digit (digit_of l r x.component) (coefficient_digits l xs))
      go Test h = h
      go Trial h = h
      go Position h = (of_position l.position x.component lawful.1.position, h)
      go (Coefficient n) h = (
        of_part (offset_in (place_of l.coefs n)) (slice_get (place_parts (place_of l.coefs n)) x.component)
            (λ q e. let k = coefficient_within lawful.0 0 l.coefs lawful.1.coefs lawful.1.in_order n x.component q e in omega (arith, k, values)),
        h,
      )

  growth_inside : (i : ℕ) → i < 3 → MayBeInside z (strip_of l.d (Growth i))
  growth_inside i h p =
      let few = few_dimensions in
      record { some = p; few = omega arith; base = omega arith; step = lit< tt; last = omega arith }

  mapped : {A B : Type 0} (P : B → Type 0) (f : A → B) (xs : List A) → AllByRecursion (λ x. P (f x)) xs → AllByRecursion P (map f xs)
  mapped P f [] h = tt
  mapped P f (x ∷ xs) h = (h.0, mapped P f xs h.1)

  growths_inside : (is : List ℕ) → AllByRecursion (λ i. i < 3) is → AllByRecursion (λ i. MayBeInside z (strip_of l.d (Growth i))) is
  growths_inside [] h = tt
  growths_inside (i ∷ is) h = (growth_inside i h.0, growths_inside is h.1)

  turn_inside : (gs : List Strip) (fs : List (Factor Strip)) → AllByRecursion (MayBeInside z) gs → AllByRecursion (FactorInside z) fs → AllByRecursion (FactorInside z) (in_turn gs [] ++ fs)
  turn_inside [] fs h k = k
  turn_inside (g ∷ gs) fs h k = (h.0, turn_inside gs fs h.1 k)

  last_inside : (gs : List Strip) (fs : List (Factor Strip)) → AllByRecursion (MayBeInside z) gs → AllByRecursion (FactorInside z) fs → AllByRecursion (FactorInside z) (from_last gs fs)
  last_inside [] fs h k = k
  last_inside (g ∷ gs) fs h k = last_inside gs (Slowest g ∷ fs) h.1 (h.0, k)

  strips_inside : (m : Monomial) (c : Contraction) → IsContractionOf l m c → AllByRecursion (FactorInside z) (factor_strips l.d c)
  strips_inside m c h =
      turn_inside (growth_strips l.d c) (from_last (map (strip_of l.d) c.coefficients.items) [])
      (mapped (MayBeInside z) (λ i. strip_of l.d (Growth i)) c.directions.items (growths_inside c.directions.items (directions_few l m c h)))
      (last_inside (map (strip_of l.d) c.coefficients.items) []
      (mapped (MayBeInside z) (strip_of l.d) c.coefficients.items
      (subst (AllByRecursion (λ g. MayBeInside z (strip_of l.d g))) (sym h.coefficients) (digits_inside m.atoms))) tt)

  -- ---- a contraction
  module _ (b : Buffers) (size : z.t ≡ 33 + (b.columns + b.columns + b.rows)) (columns_few : b.columns ≤ 2 ^ 20) (rows_few : b.rows ≤ 2 ^ 20) (some : 1 ≤ b.columns) (entries : z.a ≡ entry_number l) (small : z.a ≤ 2 ^ 24) where
    few : z.t ≤ 2 ^ 24
    few = omega (arith, size)

    mono_keeps : (m : Monomial) (c : Contraction) → IsContractionOf l m c → FitsBuffers l.d b c → (table n : ℕ) → table < length z.tables
        → slice_index_or z.tables table 0 ≡ c.rows * c.columns → KeepAll z outside 0 (mono_statements l.d b table n c)
    mono_keeps m c h f table n known items =
        let cap = b.columns in
        let strips = factor_strips l.d c in
        let at = columns_place (places_for cap) strips in
        let values = row_buffer (places_for cap) in
        let within = strips_within l m c h cap f.wide in
        let positive : 0 < counts_product strips = subst (λ k. 0 < k) (sym (strips_product l m c h)) f.some in
        let columns : KeepAll z outside 0 (columns_code (first_buffer (places_for cap)) (second_buffer (places_for cap)) 20 1 strips) =
        columns_keep z few fixed (first_buffer (places_for cap)) (second_buffer (places_for cap)) 20 1 cap strips
        (omega (arith, size)) (omega (arith, size)) (omega (arith, fixed)) (lit< tt) positive within (strips_inside m c h) in
        let end : at + counts_after 1 strips ≤ z.t =
        columns_end z few fixed (first_buffer (places_for cap)) (second_buffer (places_for cap)) 20 1 cap strips
        (omega (arith, size)) (omega (arith, size)) (omega (arith, fixed)) within in
        let long = list_length l m c h in
        let one : suc (c.columns - 1) ≡ c.columns = omega (arith, f.some) in
        let rows : KeepAll z outside 0 (rows_part (is_short n c) 32 values at table (c.columns - 1) (row_list c)) =
        part_keeps z few fixed table (c.rows * c.columns) known items (omega (arith, f.few)) (is_short n c) values at (c.columns - 1) (row_list c) (list_width l m c h)
        (omega (arith, long, h.some)) (subst (λ k. k ≤ c.rows * c.columns) (sym (ap₂ ◌*◌ long one)) (omega arith)) (omega (arith, size, long, f.rows)) (omega (arith, end, strips_count l m c h, one)) in
        let count : length h.entries.0 ≡ entry_number l = entries_length (rows_of l m) h.entries.0 h.entries.1 ∙ rows_counted l m in
        let same : placed_code 32 values c.entries.items ≡ entries_code 32 values 0 h.entries.0 = ap (placed_code 32 values) h.entries.2 ∙ placed_is 32 values 0 h.entries.0 in
        let added : KeepAll z outside 0 (placed_code 32 values c.entries.items) =
        subst (KeepAll z outside 0) (sym same)
        (entries_keep z few fixed small values c.rows 0 h.entries.0 (omega (arith, size, f.rows))
        (subst (λ k. EntriesWithin k h.entries.0) (sym h.rows) (entries_known l m c h)) (omega (arith, count, entries))) in
        all_keep z outside 0 _ _ columns (all_keep z outside 0 _ _ rows added)

    -- ---- all of them, with the sizes of the tables from number `length before` on
    at_seam : (before : List ℕ) (k : ℕ) (rest : List ℕ) → slice_index_or (before ++ k ∷ rest) (length before) 0 ≡ k
    at_seam [] k rest = refl
    at_seam (x ∷ before) k rest = at_seam before k rest

    pub monos_keep : (n : ℕ) (before : List ℕ) {ms : List Monomial} {cs : List Contraction} → AreContractionsOf l ms cs → AllByRecursion (FitsBuffers l.d b) cs
        → z.tables ≡ before ++ map (λ c. c.rows * c.columns) cs → KeepAll z outside 0 (all_statements l.d b n (length before) cs)
    monos_keep n before none f e = keep_none
    monos_keep n before (without k r) f e = monos_keep n before r f e
    monos_keep n before (more {m = m} {c = c} {cs = cs} h r) f e =
        let rest = map (λ (c : Contraction). c.rows * c.columns) cs in
        let known : length before < length z.tables = omega (arith, ap length e, length-append before (c.rows * c.columns ∷ rest)) in
        all_keep z outside 0 _ _
        (mono_keeps m c h f.0 (length before) n known (ap (λ ks. slice_index_or ks (length before) 0) e ∙ at_seam before (c.rows * c.columns) rest))
        (subst (λ k. KeepAll z outside 0 (all_statements l.d b n k cs)) (length-append before (c.rows * c.columns ∷ []) ∙ next (length before))
        (monos_keep n (before ++ c.rows * c.columns ∷ []) r f.1 (e ∙ sym (append_assoc before (c.rows * c.columns ∷ []) rest))))
      where
        next : (k : ℕ) → k + 1 ≡ suc k
        next k = omega arith

-- ---- buffers
module _ (l : Layout) (w : Weight) (admitted : IsAdmitted l.d w) where
  pub most_columns_few : {ms : List Monomial} {cs : List Contraction} → AreContractionsOf l ms cs → AllByRecursion (IsWithin l w) ms → most_columns cs ≤ 2 ^ 20
  most_columns_few none k = lit≤ tt
  most_columns_few (without e r) k = most_columns_few r k.1
  most_columns_few (more {m = m} {c = c} h r) k = let one = columns_small l m c h w admitted k.0 in let rest = most_columns_few r k.1 in omega arith

  pub most_rows_few : {ms : List Monomial} {cs : List Contraction} → AreContractionsOf l ms cs → AllByRecursion (IsWithin l w) ms → most_rows cs ≤ 2 ^ 20
  most_rows_few none k = lit≤ tt
  most_rows_few (without e r) k = most_rows_few r k.1
  most_rows_few (more {m = m} {c = c} h r) k = let one = rows_small l m c h w admitted k.0 in let rest = most_rows_few r k.1 in omega arith

  pub all_fit : (b : Buffers) → b.columns ≤ 2 ^ 20 → b.rows ≤ 2 ^ 20 → {ms : List Monomial} {cs : List Contraction} → AreContractionsOf l ms cs
      → AllByRecursion (IsWithin l w) ms → most_columns cs ≤ b.columns → most_rows cs ≤ b.rows → AllByRecursion (FitsBuffers l.d b) cs
  all_fit b p q none k wide tall = tt
  all_fit b p q (without e r) k wide tall = all_fit b p q r k.1 wide tall
  all_fit b p q (more {m = m} {c = c} {cs = cs} h r) k wide tall = (
    fits_buffers l m c h w admitted k.0 b p q
        (N.le_trans (N.le-max_left c.columns (most_columns cs)) wide) (N.le_trans (N.le-max_left c.rows (most_rows cs)) tall),
    all_fit b p q r k.1 (N.le_trans (N.le-max_right c.columns (most_columns cs)) wide) (N.le_trans (N.le-max_right c.rows (most_rows cs)) tall),
  )
