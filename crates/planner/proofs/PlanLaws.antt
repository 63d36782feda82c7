-- The plans of contractions: their statements, tables and rows
use Rattle.std.proofs.Common.{◌≡◌, ℕ, suc, ◌-◌, ◌<◌, List, [], ◌∷◌, ◌++◌, length, map, refl, sym, ap, ap₂, ◌∙◌, subst, arith}
use Rattle.std.specs.List.{flat_map}
use Rattle.algebra.specs.Fraction.{Fraction}
use Rattle.monos.specs.declared.layout.Layout.{Layout}
use Rattle.monos.specs.Monomial.{Monomial}
use Rattle.tensors.specs.Rows.{rows_of}
use Rattle.c_unit.specs.Meaning.{tables_of}
use Rattle.kernel_runs.specs.Strips.{MonoPlan, factors_in, map_plan}
use Rattle.kernel_runs.specs.Planned.{Places, mono_code_of, columns_code, columns_place, first_buffer, mono_code, mono_parts, monos_code, row_buffer, rows_part, second_buffer}
use Rattle.kernel_runs.specs.Body.{MonosDirected, places_for, strip_of}
use Rattle.kernel_runs.specs.declared.digit.Digit.{Digit}
use Rattle.kernel_runs.specs.declared.digit.Digit.TheVariants.{Growth}
use Rattle.kernel_runs.specs.declared.entry.Entry.{Entry}
use Rattle.kernel_runs.specs.declared.strip.Strip.{Strip}
use Rattle.kernel_runs.proofs.Tables.{joined}
use Rattle.kernel_statements.specs.Counted.{counted_rows}
use Rattle.kernel_statements.specs.Placed.{placed_code}
use Rattle.kernel_statements.specs.Statements.{all_statements, is_short, mono_statements, row_list}
use Rattle.kernel_statements.specs.declared.contraction.Contraction.{Contraction}
use Rattle.kernel_statements.specs.declared.slots.Buffers.{Buffers}
use Rattle.kernel_statements.proofs.StandingLaws.{placed_is}
use Rattle.planner.specs.Contractions.{AreContractionsOf, IsContractionOf, more, none, without}
use Rattle.planner.specs.Kernels.{kernel_tables}
use Rattle.kernel_statements.specs.Counted.{table_of}
use Rattle.planner.proofs.FactorLaws.{factors_directed, growths_directed}
use Rattle.planner.proofs.ContractionLaws.{coefficients_directed, directions_few, row_list_is, strips_of}

-- ---- plans
abbrev pub plan_of : (entries table : ℕ) → Contraction → List Entry → MonoPlan Digit
plan_of entries table c all = record {
  factors = factors_in c.coefficients.items (map (λ i. Growth i) c.directions.items);
  more = c.columns - 1;
  table = table;
  rows = row_list c;
  entries = all;
  straight = is_short entries c;
}

-- with tables from this number on
abbrev pub plans_of : (l : Layout) (entries table : ℕ) {ms : List Monomial} {cs : List Contraction} → AreContractionsOf l ms cs → List (MonoPlan Digit)
plans_of l entries table none = []
plans_of l entries table (without e r) = plans_of l entries table r
plans_of l entries table (more {c = c} h r) = plan_of entries table c h.entries.0 ∷ plans_of l entries (suc table) r

-- ---- statements
some_code : (p : Places) (m : MonoPlan Strip) (rows : List (List Fraction)) → 0 < length rows → mono_code_of p m rows ≡ mono_parts p m rows
some_code p m [] h = absurd (omega (arith, h))
some_code p m (line ∷ rows) h = refl

mono_is : (l : Layout) (m : Monomial) (c : Contraction) (h : IsContractionOf l m c) (b : Buffers) (entries table : ℕ)
    → mono_statements l.d b table entries c ≡ mono_code (places_for b.columns) (map_plan (strip_of l.d) (plan_of entries table c h.entries.0))
mono_is l m c h b entries table =
    ap₂ (λ fs es.
    columns_code (first_buffer (places_for b.columns)) (second_buffer (places_for b.columns)) 20 1 fs
    ++ (rows_part (is_short entries c) 32 (row_buffer (places_for b.columns)) (columns_place (places_for b.columns) fs) table (c.columns - 1) (row_list c) ++ es))
    (sym (strips_of l m c h))
    (ap (placed_code 32 (row_buffer (places_for b.columns))) h.entries.2 ∙ placed_is 32 (row_buffer (places_for b.columns)) 0 h.entries.0)
    ∙ sym (some_code (places_for b.columns) (map_plan (strip_of l.d) (plan_of entries table c h.entries.0)) (row_list c)
    (subst (λ rows. 0 < length rows) (sym (row_list_is l m c h)) (subst (λ n. 0 < n) h.rows h.some)))

pub statements_are : (l : Layout) (b : Buffers) (entries table : ℕ) {ms : List Monomial} {cs : List Contraction} (r : AreContractionsOf l ms cs)
    → all_statements l.d b entries table cs ≡ monos_code (places_for b.columns) (map (map_plan (strip_of l.d)) (plans_of l entries table r))
statements_are l b entries table none = refl
statements_are l b entries table (without e r) = statements_are l b entries table r
statements_are l b entries table (more {m = m} {c = c} h r) = ap₂ (λ x y. x ++ y) (mono_is l m c h b entries table) (statements_are l b entries (suc table) r)

pub plans_directed : (l : Layout) (entries table : ℕ) {ms : List Monomial} {cs : List Contraction} (r : AreContractionsOf l ms cs) → MonosDirected (plans_of l entries table r)
plans_directed l entries table none = tt
plans_directed l entries table (without e r) = plans_directed l entries table r
plans_directed l entries table (more {m = m} {c = c} h r) = (
  factors_directed c.coefficients.items (map (λ i. Growth i) c.directions.items) (coefficients_directed l m c h) (growths_directed c.directions.items (directions_few l m c h)),
  plans_directed l entries (suc table) r,
)

-- ---- tables
joined_same : (rows : List (List Fraction)) → flat_map (λ row. row) rows ≡ joined rows
joined_same [] = refl
joined_same (row ∷ rows) = ap (λ r. row ++ r) (joined_same rows)

table_here : (rows : List (List Fraction)) → 0 < length rows → table_of rows ≡ flat_map (λ row. row) rows ∷ []
table_here [] h = absurd (omega (arith, h))
table_here (row ∷ rows) h = refl

no_table : (rows : List (List Fraction)) → rows ≡ [] → table_of rows ≡ []
no_table rows e = ap table_of e

-- the items of contractions are the tables of the kernel
pub tables_are : (l : Layout) {ms : List Monomial} {cs : List Contraction} → AreContractionsOf l ms cs → tables_of (map (λ c. c.items.items) cs) ≡ kernel_tables l ms
tables_are l none = refl
tables_are l (without {m = m} {ms = ms} e r) = tables_are l r ∙ ap (λ t. t ++ kernel_tables l ms) (sym (no_table (counted_rows (rows_of l m)) e))
tables_are l (more {m = m} {ms = ms} {c = c} h r) =
    ap₂ (λ x y. x ∷ y) h.items (tables_are l r)
    ∙ ap (λ t. t ++ kernel_tables l ms) (sym (table_here (counted_rows (rows_of l m)) (subst (λ n. 0 < n) h.rows h.some)))
