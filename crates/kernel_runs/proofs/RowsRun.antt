-- The loop over the rows of a table
use Rattle.std.proofs.Common.{◌≡◌, ℕ, zero, suc, ◌+◌, ◌*◌, ◌<◌, ◌≤◌, refl, sym, ◌∙◌, ap, subst, arith, add-one, length, map, slice_index_or, List, [], ◌∷◌, ◌++◌}
use Rattle.algebra.specs.Fraction.{Fraction, mul}
use Rattle.c_unit.specs.declared.unit.CStmt.{CStmt}
use Rattle.c_unit.specs.declared.unit.CStmt.TheViews as View
use Rattle.c_unit.specs.Meaning.{Slots, run_list, run_one, written}
use Rattle.kernel.specs.Ends.{Ends}
use Rattle.kernel.proofs.Rules.{ends_weaker}
use Rattle.kernel_runs.specs.Strips.{item, partial}
use Rattle.refint.specs.Digits.{dot}
use Rattle.kernel_runs.specs.Frame.{Holds, IsTable, Keeps, slot}
use Rattle.kernel_runs.specs.Planned.{first_product, next_product, next_products, rows_code, stepped}
use Rattle.kernel_runs.specs.Fit.{RowFits, RowsFit, SumsFit}
use Rattle.kernel_runs.proofs.StripLaws.{strip_is, strip_item}
use Rattle.kernel_runs.proofs.Partial.{partial_all, partial_more, product_at, sum_at}
use Rattle.kernel_runs.proofs.Loops.{alone, loop_keeps}
use Rattle.kernel_runs.proofs.Nest.{keeps_all}
use Rattle.kernel_runs.proofs.RowRun.{RowBegun, RowFixed, RowsDone, first_run, next_run, row_ended}

-- ---- addresses
scratch_place : (k a b : ℕ) → k + 0 * a + 0 * b + 0 * 0 + 0 * 0 ≡ k
scratch_place k a b = omega arith

row_place : (k a b : ℕ) → k + 1 * a + 0 * b + 0 * 0 + 0 * 0 ≡ k + a
row_place k a b = omega arith

column_place : (k a b : ℕ) → k + 0 * a + 1 * b + 0 * 0 + 0 * 0 ≡ k + b
column_place k a b = omega arith

item_place : (n a b : ℕ) → 1 + n * a + 1 * b + 0 * 0 + 0 * 0 ≡ n * a + (b + 1)
item_place n a b = omega arith

first_place : (n a b : ℕ) → 0 + n * a + 0 * b + 0 * 0 + 0 * 0 ≡ n * a + 0
first_place n a b = omega arith

module _ (Q Z : Type 0) (ks : List (List Fraction)) (scratch row cur t : ℕ) (vs : List Fraction) (s₀ : Slots) (low : scratch < row) (room : row + length vs ≤ length s₀.t) where
  -- the columns stand apart from what is written
  abbrev pub ColumnsAt : ℕ → List Fraction → Type 0
  ColumnsAt cur cs = (j : ℕ) → j < length cs → RowFixed scratch row (length vs) (cur + j) × (slot s₀ (cur + j) ≡ item cs j)

  -- all but the first product of row a
  more_run : (width a : ℕ) (acc : Fraction) (cs rs : List Fraction) (n : ℕ) → length cs ≡ n → length rs ≡ length cs → a < length vs → ColumnsAt (cur + 1) cs
      → ((b : ℕ) → b < length cs → item (slice_index_or ks t []) (width * a + (b + 1)) ≡ item rs b) → SumsFit Q acc cs rs
      → (s : Slots) → RowBegun scratch row vs s₀ a acc s
      → Ends Q Z (RowBegun scratch row vs s₀ a (partial acc cs rs n)) (run_list (next_products scratch row (cur + 1) t width n) ks 1 (a ∷ 0 ∷ 0 ∷ 0 ∷ []) s)
  more_run width a acc cs rs zero size size' la columns table fit s k = k
  more_run width a acc cs rs (suc n) size size' la columns table fit s k =
      let I : ℕ → Slots → Type 0 = λ b. RowBegun scratch row vs s₀ a (partial acc cs rs b) in
      let body : List CStmt = next_product (stepped scratch 0 0) (stepped row 1 0) (stepped (cur + 1) 0 1) t (stepped 1 width 1) in
      alone Q Z (I (suc n)) (written (View.For (suc n) body)) _
      (loop_keeps Q Z I (suc n) body ks 1 (a ∷ 0 ∷ 0 ∷ 0 ∷ [])
      (λ b s lb k.
      let lc : b < length cs = subst (λ m. b < m) (sym size) lb in
      let lr : b < length rs = subst (λ m. b < m) (sym size') lc in
      next_run scratch row vs s₀ Q Z (I (b + 1)) ks 2 (a ∷ b ∷ 0 ∷ 0 ∷ []) low room
      (stepped scratch 0 0) (stepped row 1 0) (stepped (cur + 1) 0 1) t (stepped 1 width 1) [] s a (cur + 1 + b) (partial acc cs rs b) (item cs b) (item rs b)
      la (columns b lc).0 (scratch_place scratch a b) (row_place row a b) (column_place (cur + 1) a b)
      (ap (item (slice_index_or ks t [])) (item_place width a b) ∙ table b lc) (columns b lc).1
      (product_at Q acc cs rs b lc lr fit) (sum_at Q acc cs rs b lc lr fit)
      (λ s k. subst (λ v. RowBegun scratch row vs s₀ a v s) (sym (ap (partial acc cs rs) (add-one b) ∙ partial_more acc cs rs b lc lr)) k)
      k)
      s k)

  column_first : (k a : ℕ) → k + 0 * a + 0 * 0 + 0 * 0 + 0 * 0 ≡ k + 0
  column_first k a = omega arith

  row_first : (k a : ℕ) → k + 1 * a + 0 * 0 + 0 * 0 + 0 * 0 ≡ k + a
  row_first k a = omega arith

  scratch_first : (k a : ℕ) → k + 0 * a + 0 * 0 + 0 * 0 + 0 * 0 ≡ k
  scratch_first k a = omega arith

  item_first : (n a : ℕ) → 0 + n * a + 0 * 0 + 0 * 0 + 0 * 0 ≡ n * a + 0
  item_first n a = omega arith

  pub behind_first : (c : Fraction) (cs : List Fraction) (cur : ℕ) → ColumnsAt cur (c ∷ cs) → ColumnsAt (cur + 1) cs
  behind_first c cs cur h j l = subst (λ k. RowFixed scratch row (length vs) k × (slot s₀ k ≡ item cs j)) (place cur j) (h (suc j) (more j (length cs) l))
    where
      place : (cur j : ℕ) → cur + suc j ≡ cur + 1 + j
      place cur j = omega arith

      more : (j n : ℕ) → j < n → suc j < suc n
      more j n l = omega arith

  -- row a, which is `line`
  row_run : (c : Fraction) (cs line : List Fraction) (a : ℕ) → length line ≡ length (c ∷ cs) → a < length vs → item vs a ≡ dot (c ∷ cs) line → ColumnsAt cur (c ∷ cs)
      → ((b : ℕ) → b < length (c ∷ cs) → item (slice_index_or ks t []) (length (c ∷ cs) * a + b) ≡ item line b) → RowFits Q (c ∷ cs) line
      → (s : Slots) → RowsDone scratch row vs s₀ a s
      → Ends Q Z (RowsDone scratch row vs s₀ (a + 1))
      (run_list (first_product (stepped scratch 0 0) (stepped row 1 0) (stepped cur 0 0) t (stepped 0 (suc (length cs)) 0) ++ next_products scratch row (cur + 1) t (suc (length cs)) (length cs)) ks 1 (a ∷ 0 ∷ 0 ∷ 0 ∷ []) s)
  row_run c cs [] a size la is columns table fit s k = absurd (omega arith)
  row_run c cs (r ∷ rs) a size la is columns table fit s k =
      let some : 0 < length (c ∷ cs) = omega arith in
      let size' : length rs ≡ length cs = omega arith in
      first_run scratch row vs s₀ Q Z (RowsDone scratch row vs s₀ (a + 1)) ks 1 (a ∷ 0 ∷ 0 ∷ 0 ∷ []) low room
      (stepped scratch 0 0) (stepped row 1 0) (stepped cur 0 0) t (stepped 0 (suc (length cs)) 0) (next_products scratch row (cur + 1) t (suc (length cs)) (length cs)) s a (cur + 0) c r
      la (columns 0 some).0 (scratch_first scratch a) (row_first row a) (column_first cur a)
      (ap (item (slice_index_or ks t [])) (item_first (suc (length cs)) a) ∙ table 0 some) (columns 0 some).1 fit.0
      (λ s k. ends_weaker Q Z (RowBegun scratch row vs s₀ a (partial (mul c r) cs rs (length cs))) (RowsDone scratch row vs s₀ (a + 1)) _
      (more_run (suc (length cs)) a (mul c r) cs rs (length cs) refl size' la (behind_first c cs cur columns)
      (λ b lb. ap (λ n. item (slice_index_or ks t []) (suc (length cs) * a + n)) (add-one b) ∙ table (suc b) (more b (length cs) lb)) fit.1 s k)
      (λ s k. row_ended scratch row vs s₀ a s (k.0, k.1 ∙ partial_all (mul c r) cs rs size' ∙ sym is)))
      k
    where
      more : (j n : ℕ) → j < n → suc j < suc n
      more j n l = omega arith

-- ---- all rows
rows_at : (Q : Type 0) (cs : List Fraction) (rows : List (List Fraction)) (a : ℕ) → a < length rows → RowsFit Q cs rows → RowFits Q cs (slice_index_or rows a [])
rows_at Q cs [] a h f = absurd (omega arith)
rows_at Q cs (r ∷ rows) zero h f = f.0
rows_at Q cs (r ∷ rows) (suc a) h f = rows_at Q cs rows a (omega arith) f.1

pub dots_length : (cs : List Fraction) (rows : List (List Fraction)) → length (map (dot cs) rows) ≡ length rows
dots_length cs [] = refl
dots_length cs (r ∷ rows) = ap suc (dots_length cs rows)

pub dots_at : (cs : List Fraction) (rows : List (List Fraction)) (a : ℕ) → a < length rows → item (map (dot cs) rows) a ≡ dot cs (slice_index_or rows a [])
dots_at cs [] a h = absurd (omega arith)
dots_at cs (r ∷ rows) zero h = refl
dots_at cs (r ∷ rows) (suc a) h = dots_at cs rows a (omega arith)

pub rows_hold : (scratch row : ℕ) (vs : List Fraction) (s₀ s : Slots) → RowsDone scratch row vs s₀ (length vs) s → Holds row vs s
rows_hold scratch row vs s₀ s (kept, done) = strip_is s.t row 1 vs (λ j h. ap (slot s) (one_apart row j) ∙ done j h)
  where
    one_apart : (new j : ℕ) → new + 1 * j ≡ new + j
    one_apart new j = omega arith

pub held_at : (cur : ℕ) (cs : List Fraction) (s : Slots) → Holds cur cs s → (j : ℕ) → j < length cs → slot s (cur + j) ≡ item cs j
held_at cur cs s h j l = ap (slot s) (one_apart cur j) ∙ sym (strip_item s.t cur 1 (length cs) j l) ∙ ap (λ xs. item xs j) h
  where
    one_apart : (new j : ℕ) → new + j ≡ new + 1 * j
    one_apart new j = omega arith

-- T holds the product of each row and the columns from `row` on
pub rows_run : (Q Z : Type 0) (ks : List (List Fraction)) (scratch row cur t : ℕ) (c : Fraction) (cs : List Fraction) (rows : List (List Fraction)) (s₀ : Slots) → scratch < row → row + length rows ≤ length s₀.t
    → ((j : ℕ) → j < length (c ∷ cs) → RowFixed scratch row (length rows) (cur + j)) → Holds cur (c ∷ cs) s₀ → IsTable ks t (length (c ∷ cs)) rows → RowsFit Q (c ∷ cs) rows
    → Ends Q Z (λ s. Keeps (RowFixed scratch row (length rows)) s₀ s × Holds row (map (dot (c ∷ cs)) rows) s) (run_one (rows_code scratch row cur t (length rows) (length cs)) ks 0 (0 ∷ 0 ∷ 0 ∷ 0 ∷ []) s₀)
rows_run Q Z ks scratch row cur t c cs rows s₀ low room apart held table fit =
    let vs : List Fraction = map (dot (c ∷ cs)) rows in
    let size : length vs ≡ length rows = dots_length (c ∷ cs) rows in
    ends_weaker Q Z (RowsDone scratch row vs s₀ (length rows)) _ (run_one (rows_code scratch row cur t (length rows) (length cs)) ks 0 (0 ∷ 0 ∷ 0 ∷ 0 ∷ []) s₀)
    (loop_keeps Q Z (RowsDone scratch row vs s₀) (length rows) _ ks 0 (0 ∷ 0 ∷ 0 ∷ 0 ∷ [])
    (λ a s la k. row_run Q Z ks scratch row cur t vs s₀ low (subst (λ n. row + n ≤ length s₀.t) (sym size) room) c cs (slice_index_or rows a []) a
    (table a 0 la (some (length cs))).0 (subst (λ n. a < n) (sym size) la) (dots_at (c ∷ cs) rows a la)
    (λ j l. (subst (λ n. RowFixed scratch row n (cur + j)) (sym size) (apart j l), held_at cur (c ∷ cs) s₀ held j l))
    (λ b lb. (table a b la lb).1) (rows_at Q (c ∷ cs) rows a la fit) s k)
    s₀ (keeps_all (RowFixed scratch row (length vs)) s₀, λ k h. absurd (omega arith)))
    (λ s k. (subst (λ n. Keeps (RowFixed scratch row n) s₀ s) size k.0, rows_hold scratch row vs s₀ s (subst (λ n. RowsDone scratch row vs s₀ n s) (sym size) k)))
  where
    some : (n : ℕ) → 0 < suc n
    some n = omega arith
