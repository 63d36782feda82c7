-- The rows without loops and without zero items
use Rattle.std.proofs.Common.{◌≡◌, ℕ, suc, ◌+◌, ◌*◌, ◌<◌, ◌≤◌, inl, inr, refl, sym, ◌∙◌, ap, subst, arith, length, map, slice_index_or, List, [], ◌∷◌, Bool, true, false, if◌then◌else◌}
use Rattle.algebra.specs.Fraction.{Fraction, add, add_assoc, add_zero, fractions, is_zero_fraction, mul, zero_fraction}
use Rattle.algebra.specs.RingLaws as L
use Rattle.algebra.proofs.OrderLaws.{zero_from_test}
use Rattle.c_unit.specs.declared.unit.CStmt.{CStmt}
use Rattle.c_unit.specs.Meaning.{Slots, run_list}
use Rattle.kernel.specs.Ends.{Ends}
use Rattle.kernel.proofs.Rules.{ends_weaker}
use Rattle.kernel_runs.specs.Strips.{item}
use Rattle.refint.specs.Digits.{dot}
use Rattle.kernel_runs.specs.Frame.{AllNonzero, HasNonzero, Holds, IsTable, Keeps}
use Rattle.kernel_runs.specs.Planned.{stepped, straight_rest, straight_row, straight_rows}
use Rattle.kernel_runs.specs.Fit.{RowFits, RowsFit, SumsFit}
use Rattle.kernel_runs.proofs.Nest.{keeps_all}
use Rattle.kernel_runs.proofs.Steps.{ends_append}
use Rattle.kernel_runs.proofs.RowRun.{RowBegun, RowFixed, RowsDone, first_run, next_run, row_ended}
use Rattle.kernel_runs.proofs.RowsRun.{ColumnsAt, behind_first, dots_at, dots_length, held_at, rows_hold}

abbrev no_turns : List ℕ
no_turns = 0 ∷ 0 ∷ 0 ∷ 0 ∷ []

plain : (k : ℕ) → k + 0 * 0 + 0 * 0 + 0 * 0 + 0 * 0 ≡ k
plain k = omega arith

at_start : (k : ℕ) → k + 0 * 0 + 0 * 0 + 0 * 0 + 0 * 0 ≡ k + 0
at_start k = omega arith

chosen : (Q Z : Type 0) (P : Slots → Type 0) (ks : List (List Fraction)) (s : Slots) (z : Bool) (left_out taken : List CStmt)
    → (z ≡ true → Ends Q Z P (run_list left_out ks 0 no_turns s)) → (z ≡ false → Ends Q Z P (run_list taken ks 0 no_turns s)) → Ends Q Z P (run_list (if z then left_out else taken) ks 0 no_turns s)
chosen Q Z P ks s true left_out taken h g = h refl
chosen Q Z P ks s false left_out taken h g = g refl

-- ---- a zero item counts nothing
no_product : (c r : Fraction) → is_zero_fraction r ≡ true → mul c r ≡ zero_fraction
no_product c r z = ap (mul c) (zero_from_test r z) ∙ L.mul-zero fractions c

none_before : (acc x : Fraction) → acc ≡ zero_fraction → add acc x ≡ x
none_before acc x e = ap (λ a. add a x) e ∙ L.zero-add fractions x

later_fits : (Q : Type 0) (acc : Fraction) (cs rs : List Fraction) → acc ≡ zero_fraction → SumsFit Q acc cs rs → RowFits Q cs rs
later_fits Q acc [] rs e f = tt
later_fits Q acc (c ∷ cs) [] e f = tt
later_fits Q acc (c ∷ cs) (r ∷ rs) e f = (f.0, subst (λ x. SumsFit Q x cs rs) (none_before acc (mul c r) e) f.1.1)

module _ (Q Z : Type 0) (ks : List (List Fraction)) (scratch row t : ℕ) (vs : List Fraction) (s₀ : Slots) (low : scratch < row) (room : row + length vs ≤ length s₀.t) where
  -- the items of a row in the table
  abbrev ItemsAt : ℕ → List Fraction → Type 0
  ItemsAt at rs = (b : ℕ) → b < length rs → item (slice_index_or ks t []) (at + b) ≡ item rs b

  -- row a and its value
  pub record StraightRow (cs : List Fraction) (a : ℕ) (line : List Fraction) : Type 0 where
    pub below : a < length vs
    pub size : length line ≡ length cs
    pub value : item vs a ≡ dot cs line
    pub items : (b : ℕ) → b < length line → item (slice_index_or ks t []) (length cs * a + b) ≡ item line b
    pub nonzero : HasNonzero line

  abbrev StraightRows : List Fraction → ℕ → List (List Fraction) → Type 0
  StraightRows cs a [] = Unit {0}
  StraightRows cs a (line ∷ rows) = StraightRow cs a line × StraightRows cs (a + 1) rows

  items_behind : (r : Fraction) (rs : List Fraction) (at : ℕ) → ItemsAt at (r ∷ rs) → ItemsAt (at + 1) rs
  items_behind r rs at h b l = ap (item (slice_index_or ks t [])) (place at b) ∙ h (suc b) (more b (length rs) l)
    where
      place : (at b : ℕ) → at + 1 + b ≡ at + suc b
      place at b = omega arith

      more : (j n : ℕ) → j < n → suc j < suc n
      more j n l = omega arith

  abbrev Columns : ℕ → List Fraction → Type 0
  Columns cur cs = ColumnsAt Q Z ks scratch row cur t vs s₀ low room cur cs

  behind : (c : Fraction) (cs : List Fraction) (cur : ℕ) → Columns cur (c ∷ cs) → Columns (cur + 1) cs
  behind c cs cur h = behind_first Q Z ks scratch row cur t vs s₀ low room c cs cur h

  rest_run : (a : ℕ) → a < length vs → (cs rs : List Fraction) (acc : Fraction) (cur at : ℕ) → length rs ≡ length cs → Columns cur cs → ItemsAt at rs → SumsFit Q acc cs rs
      → (s : Slots) → RowBegun scratch row vs s₀ a acc s
      → Ends Q Z (RowBegun scratch row vs s₀ a (add acc (dot cs rs))) (run_list (straight_rest scratch (row + a) cur t at rs) ks 0 no_turns s)
  rest_run a la [] [] acc cur at size columns items fit s k = subst (λ v. RowBegun scratch row vs s₀ a v s) (sym (add_zero acc)) k
  rest_run a la [] (r ∷ rs) acc cur at size columns items fit s k = absurd (omega arith)
  rest_run a la (c ∷ cs) [] acc cur at size columns items fit s k = absurd (omega arith)
  rest_run a la (c ∷ cs) (r ∷ rs) acc cur at size columns items fit s k =
      let size' : length rs ≡ length cs = omega arith in
      let some : 0 < length (c ∷ cs) = omega arith in
      let some' : 0 < length (r ∷ rs) = omega arith in
      let acc' : Fraction = add acc (mul c r) in
      let P : Slots → Type 0 = RowBegun scratch row vs s₀ a (add acc (add (mul c r) (dot cs rs))) in
      let rest : (s : Slots) → RowBegun scratch row vs s₀ a acc' s → Ends Q Z P (run_list (straight_rest scratch (row + a) (cur + 1) t (at + 1) rs) ks 0 no_turns s) =
      λ s k. subst (λ v. Ends Q Z (RowBegun scratch row vs s₀ a v) (run_list (straight_rest scratch (row + a) (cur + 1) t (at + 1) rs) ks 0 no_turns s)) (add_assoc acc (mul c r) (dot cs rs))
      (rest_run a la cs rs acc' (cur + 1) (at + 1) size' (behind c cs cur columns) (items_behind r rs at items) fit.1.1 s k) in
      chosen Q Z P ks s (is_zero_fraction r) _ _
      (λ z. rest s (subst (λ v. RowBegun scratch row vs s₀ a v s) (sym (ap (add acc) (no_product c r z) ∙ add_zero acc)) k))
      (λ z. next_run scratch row vs s₀ Q Z P ks 0 no_turns low room (stepped scratch 0 0) (stepped (row + a) 0 0) (stepped cur 0 0) t (stepped at 0 0)
      (straight_rest scratch (row + a) (cur + 1) t (at + 1) rs) s a (cur + 0) acc c r la (columns 0 some).0 (plain scratch) (plain (row + a)) (at_start cur)
      (ap (item (slice_index_or ks t [])) (at_start at) ∙ items 0 some') (columns 0 some).1 fit.0 fit.1.0 rest k)

  straight_run : (a : ℕ) → a < length vs → (cs rs : List Fraction) (cur at : ℕ) → length rs ≡ length cs → Columns cur cs → ItemsAt at rs → RowFits Q cs rs → HasNonzero rs
      → (s : Slots) → RowsDone scratch row vs s₀ a s
      → Ends Q Z (RowBegun scratch row vs s₀ a (dot cs rs)) (run_list (straight_row scratch (row + a) cur t at rs) ks 0 no_turns s)
  straight_run a la cs [] cur at size columns items fit nonzero s k = absurd nonzero
  straight_run a la [] (r ∷ rs) cur at size columns items fit nonzero s k = absurd (omega arith)
  straight_run a la (c ∷ cs) (r ∷ rs) cur at size columns items fit nonzero s k =
      let size' : length rs ≡ length cs = omega arith in
      let some : 0 < length (c ∷ cs) = omega arith in
      let some' : 0 < length (r ∷ rs) = omega arith in
      let P : Slots → Type 0 = RowBegun scratch row vs s₀ a (add (mul c r) (dot cs rs)) in
      chosen Q Z P ks s (is_zero_fraction r) _ _
      (λ z. subst (λ v. Ends Q Z (RowBegun scratch row vs s₀ a v) (run_list (straight_row scratch (row + a) (cur + 1) t (at + 1) rs) ks 0 no_turns s)) (sym (none_before (mul c r) (dot cs rs) (no_product c r z)))
      (straight_run a la cs rs (cur + 1) (at + 1) size' (behind c cs cur columns) (items_behind r rs at items) (later_fits Q (mul c r) cs rs (no_product c r z) fit.1) (still r rs z nonzero) s k))
      (λ z. first_run scratch row vs s₀ Q Z P ks 0 no_turns low room (stepped scratch 0 0) (stepped (row + a) 0 0) (stepped cur 0 0) t (stepped at 0 0)
      (straight_rest scratch (row + a) (cur + 1) t (at + 1) rs) s a (cur + 0) c r la (columns 0 some).0 (plain scratch) (plain (row + a)) (at_start cur)
      (ap (item (slice_index_or ks t [])) (at_start at) ∙ items 0 some') (columns 0 some).1 fit.0
      (λ s k. rest_run a la cs rs (mul c r) (cur + 1) (at + 1) size' (behind c cs cur columns) (items_behind r rs at items) fit.1 s k) k)
    where
      still : (r : Fraction) (rs : List Fraction) → is_zero_fraction r ≡ true → HasNonzero (r ∷ rs) → HasNonzero rs
      still r rs z (inl h) = absurd (apart (is_zero_fraction r) z h)
        where
          apart : (t : Bool) → t ≡ true → t ≡ false → ⊥
          apart true z h = cc
          apart false z h = cc
      still r rs z (inr h) = h

  -- from row a on
  straight_all : (cs : List Fraction) (cur : ℕ) → Columns cur cs → (rows : List (List Fraction)) (a : ℕ) → RowsFit Q cs rows → StraightRows cs a rows
      → (s : Slots) → RowsDone scratch row vs s₀ a s → Ends Q Z (RowsDone scratch row vs s₀ (a + length rows)) (run_list (straight_rows scratch row cur t (length cs) a rows) ks 0 no_turns s)
  straight_all cs cur columns [] a fit lines s k = subst (λ n. RowsDone scratch row vs s₀ n s) (none a) k
    where
      none : (a : ℕ) → a ≡ a + 0
      none a = omega arith
  straight_all cs cur columns (line ∷ rows) a fit (here, more) s k =
      ends_append Q Z (RowsDone scratch row vs s₀ (a + 1)) (RowsDone scratch row vs s₀ (a + length (line ∷ rows))) ks 0 no_turns
      (straight_row scratch (row + a) cur t (length cs * a) line) (straight_rows scratch row cur t (length cs) (a + 1) rows)
      (λ s k. subst (λ n. Ends Q Z (RowsDone scratch row vs s₀ n) (run_list (straight_rows scratch row cur t (length cs) (a + 1) rows) ks 0 no_turns s)) (one a (length rows))
      (straight_all cs cur columns rows (a + 1) fit.1 more s k))
      s
      (ends_weaker Q Z (RowBegun scratch row vs s₀ a (dot cs line)) (RowsDone scratch row vs s₀ (a + 1)) _
      (straight_run a here.below cs line cur (length cs * a) here.size columns here.items fit.0 here.nonzero s k)
      (λ s k. row_ended scratch row vs s₀ a s (k.0, k.1 ∙ sym here.value)))
    where
      one : (a n : ℕ) → a + 1 + n ≡ a + suc n
      one a n = omega arith

-- ---- all rows
lines_at : (Q Z : Type 0) (ks : List (List Fraction)) (scratch row t : ℕ) (s₀ : Slots) (low : scratch < row) (cs : List Fraction) (all : List (List Fraction))
    (room : row + length (map (dot cs) all) ≤ length s₀.t) → (rows : List (List Fraction)) (a : ℕ) → a + length rows ≡ length all
    → ((k : ℕ) → k < length rows → slice_index_or all (a + k) [] ≡ slice_index_or rows k []) → IsTable ks t (length cs) all → 0 < length cs → AllNonzero rows
    → StraightRows Q Z ks scratch row t (map (dot cs) all) s₀ low room cs a rows
lines_at Q Z ks scratch row t s₀ low cs all room [] a size same table some nonzero = tt
lines_at Q Z ks scratch row t s₀ low cs all room (line ∷ rows) a size same table some (here, more) =
    let la : a < length all = omega arith in
    let first : 0 < length (line ∷ rows) = omega arith in
    let is : slice_index_or all a [] ≡ line = ap (λ k. slice_index_or all k []) (none a) ∙ same 0 first in
    let width : length line ≡ length cs = ap length (sym is) ∙ (table a 0 la some).0 in (
      record {
        below = subst (λ n. a < n) (sym (dots_length cs all)) la;
        size = width;
        value = dots_at cs all a la ∙ ap (dot cs) is;
        items = λ b l. (table a b la (subst (λ n. b < n) width l)).1 ∙ ap (λ r. item r b) is;
        nonzero = here;
      },
      lines_at Q Z ks scratch row t s₀ low cs all room rows (a + 1) (one a (length rows) ∙ size)
          (λ k l. ap (λ k. slice_index_or all k []) (later a k) ∙ same (suc k) (after k (length rows) l)) table some more,
    )
  where
    none : (a : ℕ) → a ≡ a + 0
    none a = omega arith

    one : (a n : ℕ) → a + 1 + n ≡ a + suc n
    one a n = omega arith

    later : (a k : ℕ) → a + 1 + k ≡ a + suc k
    later a k = omega arith

    after : (j n : ℕ) → j < n → suc j < suc n
    after j n l = omega arith

-- the same as the loop gives
pub straight_rows_run : (Q Z : Type 0) (ks : List (List Fraction)) (scratch row cur t : ℕ) (cs : List Fraction) (rows : List (List Fraction)) (s₀ : Slots) → scratch < row → row + length rows ≤ length s₀.t
    → 0 < length cs → ((j : ℕ) → j < length cs → RowFixed scratch row (length rows) (cur + j)) → Holds cur cs s₀ → IsTable ks t (length cs) rows → RowsFit Q cs rows → AllNonzero rows
    → Ends Q Z (λ s. Keeps (RowFixed scratch row (length rows)) s₀ s × Holds row (map (dot cs) rows) s) (run_list (straight_rows scratch row cur t (length cs) 0 rows) ks 0 no_turns s₀)
straight_rows_run Q Z ks scratch row cur t cs rows s₀ low room some apart held table fit nonzero =
    let vs : List Fraction = map (dot cs) rows in
    let size : length vs ≡ length rows = dots_length cs rows in
    let room' : row + length vs ≤ length s₀.t = subst (λ n. row + n ≤ length s₀.t) (sym size) room in
    ends_weaker Q Z (RowsDone scratch row vs s₀ (0 + length rows)) _ (run_list (straight_rows scratch row cur t (length cs) 0 rows) ks 0 no_turns s₀)
    (straight_all Q Z ks scratch row t vs s₀ low room' cs cur
    (λ j l. (subst (λ n. RowFixed scratch row n (cur + j)) (sym size) (apart j l), held_at cur cs s₀ held j l)) rows 0 fit
    (lines_at Q Z ks scratch row t s₀ low cs rows room' rows 0 (none (length rows)) (λ k l. ap (λ k. slice_index_or rows k []) (none k)) table some nonzero)
    s₀ (keeps_all (RowFixed scratch row (length vs)) s₀, λ k h. absurd (omega arith)))
    (λ s k. (subst (λ n. Keeps (RowFixed scratch row n) s₀ s) size k.0, rows_hold scratch row vs s₀ s (subst (λ n. RowsDone scratch row vs s₀ n s) (none (length rows) ∙ sym size) k)))
  where
    none : (n : ℕ) → 0 + n ≡ n
    none n = omega arith
