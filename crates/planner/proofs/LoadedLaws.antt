-- Each table of a kernel is loaded
use Rattle.std.proofs.Common.{◌≡◌, ℕ, zero, suc, ◌+◌, ◌-◌, ◌*◌, ◌<◌, ◌≤◌, ◌⊎◌, inl, inr, Bool, true, false, ◌&&◌, if◌then◌else◌, List, [], ◌∷◌, ◌++◌, length, refl, sym, ap, subst, arith}
use Rattle.std.specs.List.{AllByRecursion}
use Rattle.algebra.specs.Fraction.{Fraction, is_zero_fraction}
use Rattle.monos.specs.declared.layout.Layout.{Layout}
use Rattle.monos.specs.Monomial.{Monomial}
use Rattle.tensors.specs.Rows.{rows_of}
use Rattle.c_unit.specs.declared.unit.CStmt.{CStmt}
use Rattle.kernel_runs.specs.Planned.{columns_code, columns_place, first_buffer, first_product, row_buffer, rows_part, second_buffer, stepped, straight_rest, straight_row, straight_rows}
use Rattle.kernel_runs.specs.Preamble.{preamble}
use Rattle.kernel_runs.specs.Body.{places_for}
use Rattle.kernel_statements.specs.Counted.{is_zero_row}
use Rattle.kernel_statements.specs.Placed.{placed_code}
use Rattle.kernel_statements.specs.Statements.{all_statements, factor_strips, is_short, mono_statements, row_list}
use Rattle.kernel_statements.specs.declared.contraction.Contraction.{Contraction}
use Rattle.kernel_statements.specs.declared.slots.Buffers.{Buffers}
use Rattle.kernel_statements.proofs.CountedLaws.{counted_nonzero}
use Rattle.planner.specs.Contractions.{AreContractionsOf, IsContractionOf, more, none, without}
use Rattle.planner.specs.Kernels.{IsLoaded, here, inside, later}
use Rattle.planner.proofs.ContractionLaws.{row_list_is}

behind : (k : ℕ) (cs ds : List CStmt) → IsLoaded k ds → IsLoaded k (cs ++ ds)
behind k [] ds h = h
behind k (c ∷ cs) ds h = later (behind k cs ds h)

before : {k : ℕ} {cs : List CStmt} (ds : List CStmt) → IsLoaded k cs → IsLoaded k (cs ++ ds)
before ds here = here
before ds (inside h) = inside h
before ds (later h) = later (before ds h)

-- ---- by a row that isn't zero
by_row : (scratch out cur t at : ℕ) (rs : List Fraction) → is_zero_row rs ≡ false → IsLoaded t (straight_row scratch out cur t at rs)
by_row scratch out cur t at [] h = absurd (cc)
by_row scratch out cur t at (r ∷ rs) h = go (is_zero_fraction r) h (by_row scratch out (cur + 1) t (at + 1) rs)
  where
    go : (b : Bool) → (b && is_zero_row rs) ≡ false → (is_zero_row rs ≡ false → IsLoaded t (straight_row scratch out (cur + 1) t (at + 1) rs))
        → IsLoaded t (if b then straight_row scratch out (cur + 1) t (at + 1) rs
        else first_product (stepped scratch 0 0) (stepped out 0 0) (stepped cur 0 0) t (stepped at 0 0) ++ straight_rest scratch out (cur + 1) t (at + 1) rs)
    go true h k = k h
    go false h k = here

by_rows : (straight : Bool) (scratch row cur t other : ℕ) (rows : List (List Fraction)) → 0 < length rows → AllByRecursion (λ r. is_zero_row r ≡ false) rows
    → IsLoaded t (rows_part straight scratch row cur t other rows)
by_rows straight scratch row cur t other [] h z = absurd (omega (arith, h))
by_rows true scratch row cur t other (r ∷ rows) h z =
    before (straight_rows scratch row cur t (suc other) 1 rows) (by_row scratch (row + 0) cur t (suc other * 0) r z.0)
by_rows false scratch row cur t other (r ∷ rows) h z = inside here

by_mono : (l : Layout) (m : Monomial) (c : Contraction) (h : IsContractionOf l m c) (b : Buffers) (entries table : ℕ) → IsLoaded table (mono_statements l.d b table entries c)
by_mono l m c h b entries table =
    let same = row_list_is l m c h in
    let columns = columns_code (first_buffer (places_for b.columns)) (second_buffer (places_for b.columns)) 20 1 (factor_strips l.d c) in
    let at = columns_place (places_for b.columns) (factor_strips l.d c) in
    let values = row_buffer (places_for b.columns) in
    let rows = rows_part (is_short entries c) 32 values at table (c.columns - 1) (row_list c) in
    let some : 0 < length (row_list c) = omega (arith, h.some, h.rows, ap length same) in
    behind table columns (rows ++ placed_code 32 values c.entries.items)
    (before (placed_code 32 values c.entries.items)
    (by_rows (is_short entries c) 32 values at table (c.columns - 1) (row_list c) some
    (subst (AllByRecursion (λ r. is_zero_row r ≡ false)) (sym same) (counted_nonzero (rows_of l m)))))

-- those from a number on
by_all : (l : Layout) (b : Buffers) (entries table k : ℕ) {ms : List Monomial} {cs : List Contraction} → AreContractionsOf l ms cs → table ≤ k → k < table + length cs
    → IsLoaded k (all_statements l.d b entries table cs)
by_all l b entries table k none h g = absurd (omega (arith, h, g))
by_all l b entries table k (without e r) h g = by_all l b entries table k r h g
by_all l b entries table k (more {m = m} {c = c} {cs = cs} i r) h g =
    go (order table k h) (λ q. by_all l b entries (suc table) k r q (omega (arith, g)))
  where
    order : (a b : ℕ) → a ≤ b → (a ≡ b) ⊎ (suc a ≤ b)
    order zero zero h = inl refl
    order zero (suc b) h = inr (omega arith)
    order (suc a) zero h = absurd (omega (arith, h))
    order (suc a) (suc b) h = elim (order a b (omega arith)) [
      | inl e ↦ inl (ap suc e)
      | inr q ↦ inr (omega arith)
    ]

    go : (table ≡ k) ⊎ (suc table ≤ k) → (suc table ≤ k → IsLoaded k (all_statements l.d b entries (suc table) cs))
        → IsLoaded k (mono_statements l.d b table entries c ++ all_statements l.d b entries (suc table) cs)
    go (inl e) rest =
        before (all_statements l.d b entries (suc table) cs)
        (subst (λ n. IsLoaded n (mono_statements l.d b table entries c)) e (by_mono l m c i b entries table))
    go (inr q) rest = behind k (mono_statements l.d b table entries c) (all_statements l.d b entries (suc table) cs) (rest q)

pub all_loaded : (l : Layout) (b : Buffers) (entries : ℕ) {ms : List Monomial} {cs : List Contraction} → AreContractionsOf l ms cs → (k : ℕ) → k < length cs
    → IsLoaded k (preamble l.d ++ all_statements l.d b entries 0 cs)
all_loaded l b entries {cs = cs} r k h = behind k (preamble l.d) (all_statements l.d b entries 0 cs) (by_all l b entries 0 k r (omega arith) (omega (arith, h)))
