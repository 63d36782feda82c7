-- How many statements a planned monomial runs
use Rattle.std.proofs.Common.{◌≡◌, ℕ, zero, suc, ◌+◌, ◌*◌, ◌≤◌, refl, sym, ◌∙◌, ap, ap₂, subst, arith, length, List, [], ◌∷◌, ◌++◌, Bool, true, false, if◌then◌else◌}
use Rattle.algebra.specs.Fraction.{Fraction, is_zero_fraction}
use Rattle.c_unit.specs.declared.unit.CStmt.{CStmt}
use Rattle.c_unit.specs.Meaning.{counted, counted-For, counted_list}
use Rattle.kernel_runs.specs.Strips.{Factor, Fastest, MonoPlan, Slowest}
use Rattle.kernel_runs.specs.declared.entry.Entry.{Entry}
use Rattle.kernel_runs.specs.declared.entry.Entry.TheVariants.{Counted, Multiple, NoRow}
use Rattle.kernel_runs.specs.Planned.{CountsWithin, Places, columns_code, columns_place, count_after, entries_code, entry_code, factor_code, first_product, mono_code, mono_code_of, mono_parts, next_product, next_products, outer_code, row_buffer, rows_code, rows_part, stepped, straight_rest, straight_row}
use Rattle.kernel_runs.specs.declared.strip.Strip.{Strip}
use Rattle.kernel_runs.specs.Counts.{columns_count, entries_count, entry_count, mono_count}

pub counted_append : (cs ds : List CStmt) → counted_list (cs ++ ds) ≡ counted_list cs + counted_list ds
counted_append [] ds = none (counted_list ds)
  where
    none : (n : ℕ) → n ≡ 0 + n
    none n = omega arith
counted_append (c ∷ cs) ds = ap (λ n. counted c + n) (counted_append cs ds) ∙ moved (counted c) (counted_list cs) (counted_list ds)
  where
    moved : (a b c : ℕ) → a + (b + c) ≡ a + b + c
    moved a b c = omega arith

counted_outer : (new : ℕ) (l r : Strip) → counted (outer_code new l r) ≡ l.count * r.count
counted_outer new l r = counted-For l.count _ ∙ ap (λ n. l.count * (n + 0)) (counted-For r.count _ ∙ one r.count) ∙ ap (λ n. l.count * n) (none r.count)
  where
    one : (n : ℕ) → n * 1 ≡ n
    one n = omega arith

    none : (n : ℕ) → n + 0 ≡ n
    none n = omega arith

counted_factor : (new cur n : ℕ) (f : Factor Strip) → counted (factor_code new cur n f) ≡ count_after n f
counted_factor new cur n (Fastest g) = counted_outer new _ g
counted_factor new cur n (Slowest g) = counted_outer new g _

pub counted_columns : (new next cur n : ℕ) (fs : List (Factor Strip)) → counted_list (columns_code new next cur n fs) ≡ columns_count n fs
counted_columns new next cur n [] = refl
counted_columns new next cur n (f ∷ fs) = ap₂ ◌+◌ (counted_factor new cur n f) (counted_columns next new new (count_after n f) fs)

counted_next : (scratch row cur t width n : ℕ) → counted_list (next_products scratch row cur t width n) ≡ 3 * n
counted_next scratch row cur t width zero = refl
counted_next scratch row cur t width (suc n) = ap (λ k. k + 0) (counted-For (suc n) _) ∙ three (suc n)
  where
    three : (n : ℕ) → n * 3 + 0 ≡ 3 * n
    three n = omega arith

pub counted_rows : (scratch row cur t rows m : ℕ) → counted (rows_code scratch row cur t rows m) ≡ rows * (2 + 3 * m)
counted_rows scratch row cur t rows m =
    counted-For rows _
    ∙ ap (λ n. rows * n) (counted_append (first_product (stepped scratch 0 0) (stepped row 1 0) (stepped cur 0 0) t (stepped 0 (suc m) 0)) (next_products scratch row (cur + 1) t (suc m) m) ∙ ap (λ n. 2 + n) (counted_next scratch row (cur + 1) t (suc m) m))

-- ---- without loops at most as many
chosen : (z : Bool) (cs ds : List CStmt) (n : ℕ) → counted_list cs ≤ n → counted_list ds ≤ n → counted_list (if z then cs else ds) ≤ n
chosen true cs ds n h g = h
chosen false cs ds n h g = g

counted_rest : (scratch out cur t at : ℕ) (rs : List Fraction) → counted_list (straight_rest scratch out cur t at rs) ≤ 3 * length rs
counted_rest scratch out cur t at [] = omega arith
counted_rest scratch out cur t at (r ∷ rs) =
    let more : counted_list (straight_rest scratch out (cur + 1) t (at + 1) rs) ≤ 3 * length rs = counted_rest scratch out (cur + 1) t (at + 1) rs in
    chosen (is_zero_fraction r) _ _ (3 * length (r ∷ rs)) (omega arith)
    (subst (λ n. n ≤ 3 * length (r ∷ rs)) (sym (counted_append (next_product (stepped scratch 0 0) (stepped out 0 0) (stepped cur 0 0) t (stepped at 0 0)) (straight_rest scratch out (cur + 1) t (at + 1) rs))) (omega arith))

pub counted_row : (scratch out cur t at : ℕ) (rs : List Fraction) (m : ℕ) → length rs ≤ suc m → counted_list (straight_row scratch out cur t at rs) ≤ 2 + 3 * m
counted_row scratch out cur t at [] m h = omega arith
counted_row scratch out cur t at (r ∷ rs) m h =
    let rest : counted_list (straight_rest scratch out (cur + 1) t (at + 1) rs) ≤ 3 * length rs = counted_rest scratch out (cur + 1) t (at + 1) rs in
    let row : counted_list (straight_row scratch out (cur + 1) t (at + 1) rs) ≤ 2 + 3 * m = counted_row scratch out (cur + 1) t (at + 1) rs m (omega arith) in
    chosen (is_zero_fraction r) _ _ (2 + 3 * m) row
    (subst (λ n. n ≤ 2 + 3 * m) (sym (counted_append (first_product (stepped scratch 0 0) (stepped out 0 0) (stepped cur 0 0) t (stepped at 0 0)) (straight_rest scratch out (cur + 1) t (at + 1) rs))) (omega arith))

-- ---- entries
counted_entry : (scratch row e : ℕ) (x : Entry) → counted_list (entry_code scratch row e x) ≡ entry_count x
counted_entry scratch row e NoRow = refl
counted_entry scratch row e (Counted b) = refl
counted_entry scratch row e (Multiple l b) = refl

pub counted_entries : (scratch row e : ℕ) (es : List Entry) → counted_list (entries_code scratch row e es) ≡ entries_count es
counted_entries scratch row e [] = refl
counted_entries scratch row e (x ∷ es) =
    counted_append (entry_code scratch row e x) (entries_code scratch row (e + 1) es) ∙ ap₂ ◌+◌ (counted_entry scratch row e x) (counted_entries scratch row (e + 1) es)

-- the columns of k factors are at most k*cap
pub few_columns : (cap n : ℕ) (fs : List (Factor Strip)) → CountsWithin cap n fs → columns_count n fs ≤ length fs * cap
few_columns cap n [] h = omega arith
few_columns cap n (f ∷ fs) h = more (count_after n f) (columns_count (count_after n f) fs) (length fs) cap h.0 (few_columns cap (count_after n f) fs h.1)
  where
    more : (a b n cap : ℕ) → a ≤ cap → b ≤ n * cap → a + b ≤ suc n * cap
    more a b n cap h g = omega arith

-- with loops
pub counted_mono : (p : Places) (m : MonoPlan Strip) → m.straight ≡ false → counted_list (mono_code p m) ≤ mono_count m
counted_mono p m e = go m.rows refl
  where
    parts : (rows : List (List Fraction)) → counted_list (mono_parts p m rows) ≡ columns_count 1 m.factors + (length rows * (2 + 3 * m.more) + entries_count m.entries)
    parts rows =
        counted_append (columns_code _ _ p.absolute 1 m.factors) _
        ∙ ap₂ ◌+◌ (counted_columns _ _ p.absolute 1 m.factors)
        (counted_append (rows_part m.straight p.scratch (row_buffer p) (columns_place p m.factors) m.table m.more rows) (entries_code p.scratch (row_buffer p) 0 m.entries)
        ∙ ap₂ ◌+◌ (ap (λ b. counted_list (rows_part b p.scratch (row_buffer p) (columns_place p m.factors) m.table m.more rows)) e ∙ none (counted (rows_code p.scratch (row_buffer p) (columns_place p m.factors) m.table (length rows) m.more)) ∙ counted_rows p.scratch (row_buffer p) (columns_place p m.factors) m.table (length rows) m.more)
        (counted_entries p.scratch (row_buffer p) 0 m.entries))
      where
        none : (n : ℕ) → n + 0 ≡ n
        none n = omega arith

    go : (rows : List (List Fraction)) → m.rows ≡ rows → counted_list (mono_code_of p m rows) ≤ mono_count m
    go [] e = omega arith
    go (line ∷ rows) e = subst (λ n. n ≤ mono_count m) (ap (λ r. columns_count 1 m.factors + (length r * (2 + 3 * m.more) + entries_count m.entries)) e ∙ sym (parts (line ∷ rows))) (itself (mono_count m))
      where
        itself : (n : ℕ) → n ≤ n
        itself n = omega arith
