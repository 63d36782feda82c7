-- The run of one monomial, and of a list of them
use Rattle.std.proofs.Common.{◌≡◌, ◌≢◌, ℕ, suc, ◌+◌, ◌*◌, ◌<◌, ◌≤◌, inl, refl, sym, ◌∙◌, ap, ap₂, subst, arith, length, map, List, [], ◌∷◌, ◌++◌, Bool, true, false}
use Rattle.algebra.specs.Fraction.{Fraction, add_zero}
use Rattle.c_unit.specs.declared.unit.Array.{Array}
use Rattle.c_unit.specs.declared.unit.Array.TheVariants.{X, W, T, A}
use Rattle.c_unit.specs.Meaning.{Slots, array_of, run_list, run_one, written}
use Rattle.kernel.specs.Ends.{Ends}
use Rattle.kernel.proofs.Rules.{ends_weaker}
use Rattle.kernel_runs.specs.Strips.{EntriesWithin, Factor, Fastest, MonoPlan, Slowest, entry_value, item, list_sum, mono_columns, mono_rows, mono_values, monos_onto, with_factor, with_factors}
use Rattle.refint.specs.Digits.{dot}
use Rattle.kernel_runs.specs.declared.entry.Entry.{Entry}
use Rattle.kernel_runs.specs.declared.entry.Entry.TheVariants.{Counted, Multiple, NoRow}
use Rattle.kernel_runs.specs.Frame.{AllNonzero, Holds, IsTable, Keeps, slot, write_out}
use Rattle.kernel_runs.specs.Planned.{AllFixed, AllPlanned, CountsWithin, FactorsFixed, IsFixed, IsPlanned, Places, Valued, columns_at, columns_code, columns_place, count_after, counts_after, entries_code, first_buffer, mono_code, mono_code_of, mono_parts, monos_code, plan_values, row_buffer, rows_code, rows_part, second_buffer, straight_rows, values_in, values_of}
use Rattle.kernel_runs.specs.declared.strip.Strip.{Strip}
use Rattle.kernel_runs.specs.Fit.{FactorsWithin, MonoFits, RowsFit, StepsFit}
use Rattle.kernel_runs.proofs.StripLaws.{strip_same}
use Rattle.kernel_runs.proofs.Steps.{ends_append}
use Rattle.kernel_runs.proofs.Loops.{alone}
use Rattle.kernel_runs.proofs.Nest.{keeps_fewer, keeps_then}
use Rattle.kernel_runs.proofs.ColumnsRun.{columns_run, count_is, no_turns, valued_kept}
use Rattle.kernel_runs.proofs.RowRun.{RowFixed}
use Rattle.kernel_runs.proofs.RowsRun.{dots_length, held_at, rows_run}
use Rattle.kernel_runs.proofs.StraightRun.{straight_rows_run}
use Rattle.kernel_runs.proofs.EntriesRun.{entries_run}

-- ---- values of factors
out_value : (fixed : ℕ → Type 0) (a : List Fraction) (s : Slots) (array : Array) (k : ℕ) → IsFixed fixed array k → item (array_of array s) k ≡ item (array_of array (write_out a s)) k
out_value fixed a s X k f = refl
out_value fixed a s W k f = refl
out_value fixed a s T k f = refl
out_value fixed a s A k f = absurd f

out_values : (fixed : ℕ → Type 0) (a : List Fraction) (s : Slots) (g : Strip) → AllFixed fixed g → values_of (write_out a s) g ≡ values_of s g
out_values fixed a s g f =
    sym (strip_same (array_of g.array s) (array_of g.array (write_out a s)) g.base g.step g.count (λ j l. out_value fixed a s g.array (g.base + g.step * j) (f j l)))

-- whatever A holds
valued : (fixed : ℕ → Type 0) (a : List Fraction) (s : Slots) (fs : List (Factor Strip)) → FactorsFixed fixed fs → Valued (write_out a s) fs (map (values_in s) fs)
valued fixed a s [] f = tt
valued fixed a s (Fastest g ∷ fs) f = (ap Fastest (out_values fixed a s g f.0), valued fixed a s fs f.1)
valued fixed a s (Slowest g ∷ fs) f = (ap Slowest (out_values fixed a s g f.0), valued fixed a s fs f.1)

within : (cap : ℕ) (s : Slots) (xs : List Fraction) (fs : List (Factor Strip)) → CountsWithin cap (length xs) fs → FactorsWithin cap xs (map (values_in s) fs)
within cap s xs [] h = tt
within cap s xs (f ∷ fs) h =
    let e : length (with_factor xs (values_in s f)) ≡ count_after (length xs) f = count_is s xs f (values_in s f) refl in
    (subst (λ n. n ≤ cap) (sym e) h.0, within cap s (with_factor xs (values_in s f)) fs (subst (λ n. CountsWithin cap n fs) (sym e) h.1))

counts : (s : Slots) (xs : List Fraction) (fs : List (Factor Strip)) → length (with_factors xs (map (values_in s) fs)) ≡ counts_after (length xs) fs
counts s xs [] = refl
counts s xs (f ∷ fs) = counts s (with_factor xs (values_in s f)) fs ∙ ap (λ n. counts_after n fs) (count_is s xs f (values_in s f) refl)

within_end : (cap : ℕ) (xs : List Fraction) (vs : List (Factor (List Fraction))) → length xs ≤ cap → FactorsWithin cap xs vs → length (with_factors xs vs) ≤ cap
within_end cap xs [] h f = h
within_end cap xs (v ∷ vs) h f = within_end cap (with_factor xs v) vs f.0 f.1

at_buffer : (P : ℕ → Type 0) (fs : List (Factor Strip)) (new next cur : ℕ) → P new → P next → P cur → P (columns_at new next cur fs)
at_buffer P [] new next cur h h' g = g
at_buffer P (f ∷ fs) new next cur h h' g = at_buffer P fs next new new h' h h

-- the columns stand apart from the rows
columns_fixed : (p : Places) (n : ℕ) (a : Fraction) (fs : List (Factor Strip)) (vs : List (Factor (List Fraction))) → p.absolute < p.scratch → (fs ≡ [] → length (with_factors (a ∷ []) vs) ≤ 1)
    → length (with_factors (a ∷ []) vs) ≤ p.cap → (j : ℕ) → j < length (with_factors (a ∷ []) vs) → RowFixed p.scratch (row_buffer p) n (columns_place p fs + j)
columns_fixed p n a [] vs low one small j l = at_first p.absolute p.scratch p.cap n (length (with_factors (a ∷ []) vs)) j low (one refl) l
  where
    at_first : (k scratch cap n m j : ℕ) → k < scratch → m ≤ 1 → j < m → RowFixed scratch (scratch + 1 + cap + cap) n (k + j)
    at_first k scratch cap n m j h g l = (omega arith, inl (omega arith))
columns_fixed p n a (f ∷ fs) vs low one small j l =
    at_buffer (λ k. RowFixed p.scratch (row_buffer p) n (k + j)) fs (second_buffer p) (first_buffer p) (first_buffer p)
    (in_second p.scratch p.cap n (length (with_factors (a ∷ []) vs)) j small l) (in_first p.scratch p.cap n (length (with_factors (a ∷ []) vs)) j small l) (in_first p.scratch p.cap n (length (with_factors (a ∷ []) vs)) j small l)
  where
    in_first : (scratch cap n m j : ℕ) → m ≤ cap → j < m → RowFixed scratch (scratch + 1 + cap + cap) n (scratch + 1 + j)
    in_first scratch cap n m j g l = (omega arith, inl (omega arith))

    in_second : (scratch cap n m j : ℕ) → m ≤ cap → j < m → RowFixed scratch (scratch + 1 + cap + cap) n (scratch + 1 + cap + j)
    in_second scratch cap n m j g l = (omega arith, inl (omega arith))

-- ---- the rows, with loops or without
rows_part_run : (Q Z : Type 0) (ks : List (List Fraction)) (straight : Bool) (scratch row cur t more : ℕ) (cs : List Fraction) (rows : List (List Fraction)) (s : Slots) → scratch < row → row + length rows ≤ length s.t
    → length cs ≡ suc more → ((j : ℕ) → j < length cs → RowFixed scratch row (length rows) (cur + j)) → Holds cur cs s → IsTable ks t (suc more) rows → RowsFit Q cs rows → AllNonzero rows
    → Ends Q Z (λ s'. Keeps (RowFixed scratch row (length rows)) s s' × Holds row (map (dot cs) rows) s') (run_list (rows_part straight scratch row cur t more rows) ks 0 no_turns s)
rows_part_run Q Z ks true scratch row cur t more cs rows s low room size apart held table fit nonzero =
    let some : 0 < length cs = omega arith in
    subst (λ n. Ends Q Z (λ s'. Keeps (RowFixed scratch row (length rows)) s s' × Holds row (map (dot cs) rows) s') (run_list (straight_rows scratch row cur t n 0 rows) ks 0 no_turns s)) size
    (straight_rows_run Q Z ks scratch row cur t cs rows s low room some apart held (subst (λ n. IsTable ks t n rows) (sym size) table) fit nonzero)
rows_part_run Q Z ks false scratch row cur t more [] rows s low room size apart held table fit nonzero = absurd (omega arith)
rows_part_run Q Z ks false scratch row cur t more (c ∷ cs) rows s low room size apart held table fit nonzero =
    let size' : length cs ≡ more = omega arith in
    let P : Slots → Type 0 = λ s'. Keeps (RowFixed scratch row (length rows)) s s' × Holds row (map (dot (c ∷ cs)) rows) s' in
    subst (λ n. Ends Q Z P (run_list (rows_code scratch row cur t (length rows) n ∷ []) ks 0 no_turns s)) size'
    (alone Q Z P (written (rows_code scratch row cur t (length rows) (length cs))) (run_one (rows_code scratch row cur t (length rows) (length cs)) ks 0 no_turns s)
    (rows_run Q Z ks scratch row cur t c cs rows s low room apart held (subst (λ n. IsTable ks t n rows) (sym size) table) fit))

-- ---- one monomial
nothing_added : (es : List Entry) (acc : List Fraction) → EntriesWithin 0 es → list_sum acc (map (entry_value []) es) ≡ acc
nothing_added es [] h = refl
nothing_added [] (x ∷ acc) h = refl
nothing_added (NoRow ∷ es) (x ∷ acc) h = ap₂ ◌∷◌ (add_zero x) (nothing_added es acc h.1)
nothing_added (Counted b ∷ es) (x ∷ acc) h = absurd (none b h.0)
  where
    none : (b : ℕ) → b < 0 → ⊥
    none b l = omega arith
nothing_added (Multiple l b ∷ es) (x ∷ acc) h = absurd (none b h.0)
  where
    none : (b : ℕ) → b < 0 → ⊥
    none b l = omega arith

-- X, W and the slots of T below `scratch` are as in s₀, and A is `a`
abbrev pub Stands : Places → Slots → List Fraction → Slots → Type 0
Stands p s₀ a s = Keeps (λ k. k < p.scratch) (write_out a s₀) s

module _ (Q Z : Type 0) (ks : List (List Fraction)) (p : Places) (most : ℕ) (s₀ : Slots) (low : p.absolute < p.scratch) (some : 1 ≤ p.cap) (room : row_buffer p + most ≤ length s₀.t) where
  -- A after a monomial
  abbrev pub onto : List Fraction → MonoPlan Strip → List Fraction
  onto acc m = list_sum acc (mono_values (slot s₀ p.absolute) (plan_values s₀ m))

  abbrev cols : MonoPlan Strip → List Fraction
  cols m = mono_columns (slot s₀ p.absolute) (plan_values s₀ m)

  abbrev dots : MonoPlan Strip → List Fraction
  dots m = mono_rows (slot s₀ p.absolute) (plan_values s₀ m)

  -- the entries, after the rows
  entries_part : (m : MonoPlan Strip) (acc : List Fraction) → IsPlanned ks p most (length acc) m → MonoFits Q (slot s₀ p.absolute) acc (plan_values s₀ m) → (s : Slots) → Stands p s₀ acc s → Holds (row_buffer p) (dots m) s
      → Ends Q Z (Stands p s₀ (onto acc m)) (run_list (entries_code p.scratch (row_buffer p) 0 m.entries) ks 0 no_turns s)
  entries_part m acc planned fit s h held =
      let size : length s.t ≡ length s₀.t = h.size in
      let inside : p.scratch < length s.t = omega arith in
      let count : length (dots m) ≡ length m.rows = dots_length (cols m) m.rows in
      ends_weaker Q Z (Keeps (λ k. k ≢ p.scratch) (write_out (onto acc m) s)) (Stands p s₀ (onto acc m)) _
      (entries_run Q Z ks p.scratch (row_buffer p) (dots m) s (λ k. k ≢ p.scratch) inside (λ k g. g)
      (λ b l. (apart p.scratch p.cap b, held_at (row_buffer p) (dots m) s held b l))
      m.entries [] acc (subst (λ n. EntriesWithin n m.entries) (sym count) planned.known) fit.entries planned.size s
      (record { x = refl; w = refl; a = h.a; size = refl; slots = λ k g. refl }))
      (λ s' k. record { x = k.x ∙ h.x; w = k.w ∙ h.w; a = k.a; size = k.size ∙ h.size; slots = λ j l. k.slots j (other j p.scratch l) ∙ h.slots j l })
    where
      apart : (scratch cap b : ℕ) → scratch + 1 + cap + cap + b ≢ scratch
      apart scratch cap b = omega arith

      other : (j scratch : ℕ) → j < scratch → j ≢ scratch
      other j scratch l = omega arith

  -- the rows, after the columns
  rows_then : (m : MonoPlan Strip) (acc : List Fraction) → IsPlanned ks p most (length acc) m → MonoFits Q (slot s₀ p.absolute) acc (plan_values s₀ m) → (s : Slots) → Stands p s₀ acc s
      → Holds (columns_place p m.factors) (cols m) s
      → Ends Q Z (Stands p s₀ (onto acc m))
      (run_list (rows_part m.straight p.scratch (row_buffer p) (columns_place p m.factors) m.table m.more m.rows ++ entries_code p.scratch (row_buffer p) 0 m.entries) ks 0 no_turns s)
  rows_then m acc planned fit s h held =
      let size : length s.t ≡ length s₀.t = h.size in
      let few : length m.rows ≤ most = planned.few in
      let inside : row_buffer p + length m.rows ≤ length s.t = omega arith in
      let width : length (cols m) ≡ counts_after 1 m.factors = counts s₀ (slot s₀ p.absolute ∷ []) m.factors in
      let small : length (cols m) ≤ p.cap = within_end p.cap (slot s₀ p.absolute ∷ []) (map (values_in s₀) m.factors) some (within p.cap s₀ (slot s₀ p.absolute ∷ []) m.factors planned.within) in
      ends_append Q Z (λ s'. Keeps (RowFixed p.scratch (row_buffer p) (length m.rows)) s s' × Holds (row_buffer p) (dots m) s') (Stands p s₀ (onto acc m)) ks 0 no_turns
      (rows_part m.straight p.scratch (row_buffer p) (columns_place p m.factors) m.table m.more m.rows) (entries_code p.scratch (row_buffer p) 0 m.entries)
      (λ s' k. entries_part m acc planned fit s'
      (keeps_then (λ k. k < p.scratch) (write_out acc s₀) s s' h (keeps_fewer (RowFixed p.scratch (row_buffer p) (length m.rows)) (λ k. k < p.scratch) s s' (below p.scratch p.cap (length m.rows)) k.0)) k.1)
      s
      (rows_part_run Q Z ks m.straight p.scratch (row_buffer p) (columns_place p m.factors) m.table m.more (cols m) m.rows s (above p.scratch p.cap) inside (width ∙ planned.width)
      (columns_fixed p (length m.rows) (slot s₀ p.absolute) m.factors (map (values_in s₀) m.factors) low (λ e. alone_width e width) small) held planned.table fit.rows planned.nonzero)
    where
      above : (scratch cap : ℕ) → scratch < scratch + 1 + cap + cap
      above scratch cap = omega arith

      below : (scratch cap n k : ℕ) → k < scratch → RowFixed scratch (scratch + 1 + cap + cap) n k
      below scratch cap n k l = (omega arith, inl (omega arith))

      alone_width : m.factors ≡ [] → length (cols m) ≡ counts_after 1 m.factors → length (cols m) ≤ 1
      alone_width e f = subst (λ n. n ≤ 1) (sym (f ∙ ap (counts_after 1) e)) (one 1)
        where
          one : (n : ℕ) → n ≤ n
          one n = omega arith

  -- all of it
  parts_run : (m : MonoPlan Strip) (acc : List Fraction) → IsPlanned ks p most (length acc) m → MonoFits Q (slot s₀ p.absolute) acc (plan_values s₀ m) → (s : Slots) → Stands p s₀ acc s
      → Ends Q Z (Stands p s₀ (onto acc m)) (run_list (mono_parts p m m.rows) ks 0 no_turns s)
  parts_run m acc planned fit s h =
      let size : length s.t ≡ length s₀.t = h.size in
      let room₁ : first_buffer p + p.cap ≤ length s.t = omega arith in
      let room₂ : second_buffer p + p.cap ≤ length s.t = omega arith in
      ends_append Q Z (λ s'. Keeps (λ k. k < p.scratch) s s' × Holds (columns_place p m.factors) (cols m) s') (Stands p s₀ (onto acc m)) ks 0 no_turns
      (columns_code (first_buffer p) (second_buffer p) p.absolute 1 m.factors)
      (rows_part m.straight p.scratch (row_buffer p) (columns_place p m.factors) m.table m.more m.rows ++ entries_code p.scratch (row_buffer p) 0 m.entries)
      (λ s' k. rows_then m acc planned fit s' (keeps_then (λ k. k < p.scratch) (write_out acc s₀) s s' h k.0) k.1)
      s
      (columns_run Q Z ks p.scratch p.cap m.factors (map (values_in s₀) m.factors) (first_buffer p) (second_buffer p) p.absolute (slot s₀ p.absolute ∷ []) s
      (first_above p.scratch) (second_above p.scratch p.cap) (inl (behind p.scratch p.cap)) room₁ room₂ (λ j l. inl (start p.absolute p.scratch j low l)) planned.fixed
      (valued_kept (λ k. k < p.scratch) (write_out acc s₀) s m.factors (map (values_in s₀) m.factors) h planned.fixed (valued (λ k. k < p.scratch) acc s₀ m.factors planned.fixed))
      (within p.cap s₀ (slot s₀ p.absolute ∷ []) m.factors planned.within)
      (ap (λ x. x ∷ []) (h.slots p.absolute low)) fit.factors)
    where
      first_above : (scratch : ℕ) → scratch ≤ scratch + 1
      first_above scratch = omega arith

      second_above : (scratch cap : ℕ) → scratch ≤ scratch + 1 + cap
      second_above scratch cap = omega arith

      behind : (scratch cap : ℕ) → scratch + 1 + cap ≤ scratch + 1 + cap
      behind scratch cap = omega arith

      start : (k scratch j : ℕ) → k < scratch → j < 1 → k + j < scratch + 1
      start k scratch j h l = omega arith

  pub mono_run : (m : MonoPlan Strip) (acc : List Fraction) → IsPlanned ks p most (length acc) m → MonoFits Q (slot s₀ p.absolute) acc (plan_values s₀ m) → (s : Slots) → Stands p s₀ acc s
      → Ends Q Z (Stands p s₀ (onto acc m)) (run_list (mono_code p m) ks 0 no_turns s)
  mono_run m acc planned fit s h = go m.rows refl (parts_run m acc planned fit s h)
    where
      go : (rows : List (List Fraction)) → m.rows ≡ rows → Ends Q Z (Stands p s₀ (onto acc m)) (run_list (mono_parts p m m.rows) ks 0 no_turns s) → Ends Q Z (Stands p s₀ (onto acc m)) (run_list (mono_code_of p m rows) ks 0 no_turns s)
      go [] e all =
          subst (λ l. Stands p s₀ l s)
          (sym (ap (λ r. list_sum acc (map (entry_value (map (dot (cols m)) r)) m.entries)) e ∙ nothing_added m.entries acc (subst (λ r. EntriesWithin (length r) m.entries) e planned.known))) h
      go (line ∷ rows) e all = subst (λ r. Ends Q Z (Stands p s₀ (onto acc m)) (run_list (mono_parts p m r) ks 0 no_turns s)) e all

  -- ---- a list of monomials
  sum_length : (xs ys : List Fraction) → length (list_sum xs ys) ≡ length xs
  sum_length [] ys = refl
  sum_length (x ∷ xs) [] = refl
  sum_length (x ∷ xs) (y ∷ ys) = ap suc (sum_length xs ys)

  pub monos_run : (ms : List (MonoPlan Strip)) (acc : List Fraction) → AllPlanned ks p most (length acc) ms → StepsFit Q (slot s₀ p.absolute) acc (map (plan_values s₀) ms) → (s : Slots) → Stands p s₀ acc s
      → Ends Q Z (Stands p s₀ (monos_onto (slot s₀ p.absolute) acc (map (plan_values s₀) ms))) (run_list (monos_code p ms) ks 0 no_turns s)
  monos_run [] acc planned fit s h = h
  monos_run (m ∷ ms) acc planned fit s h =
      ends_append Q Z (Stands p s₀ (onto acc m)) (Stands p s₀ (monos_onto (slot s₀ p.absolute) (onto acc m) (map (plan_values s₀) ms))) ks 0 no_turns (mono_code p m) (monos_code p ms)
      (λ s k. monos_run ms (onto acc m) (subst (λ n. AllPlanned ks p most n ms) (sym (sum_length acc (mono_values (slot s₀ p.absolute) (plan_values s₀ m)))) planned.1) fit.1 s k)
      s (mono_run m acc planned.0 fit.0 s h)
