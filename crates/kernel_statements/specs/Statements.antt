-- The statements of the contractions of a kernel
use Rattle.std.specs.Prelude.{◌≡◌, ℕ, suc, ◌+◌, ◌-◌, ◌*◌, ◌<◌, ◌≤◌, ◌^◌, max, nat_le, Bool, List, [], ◌∷◌, ◌++◌, length, map}
use Rattle.std.specs.List.{AllByRecursion}
use Rattle.algebra.specs.Fraction.{Fraction}
use Rattle.c_unit.specs.declared.unit.CStmt.{CStmt}
use Rattle.c_unit.specs.Meaning.{fractions_of, written_list}
use Rattle.kernel_runs.specs.Strips.{Factor, factors_in}
use Rattle.kernel_runs.specs.Planned.{columns_code, columns_place, first_buffer, row_buffer, rows_part, second_buffer, straight_rows}
use Rattle.kernel_runs.specs.Body.{IsDirected, places_for, strip_of}
use Rattle.kernel_runs.specs.declared.digit.Digit.TheVariants.{Growth}
use Rattle.kernel_runs.specs.declared.strip.Strip.{Strip}
use Rattle.kernel_statements.specs.Emitted.{CountsFit, cut}
use Rattle.kernel_statements.specs.Placed.{HasSlot, placed_code}
use Rattle.kernel_statements.specs.declared.contraction.Contraction.{Contraction}
use Rattle.kernel_statements.specs.declared.slots.Buffers.{Buffers}

abbrev pub growth_strips : ℕ → Contraction → List Strip
growth_strips d c = map (λ i. strip_of d (Growth i)) c.directions.items

abbrev pub factor_strips : ℕ → Contraction → List (Factor Strip)
factor_strips d c = factors_in (map (strip_of d) c.coefficients.items) (growth_strips d c)

abbrev pub row_list : Contraction → List (List Fraction)
row_list c = cut c.columns c.rows (fractions_of c.items.items)

abbrev pub factor_total : Contraction → ℕ
factor_total c = length c.coefficients.items + length c.directions.items

-- with rows that are written without loops it has at most 24 statements for each factor, 24 more, and four for each
-- entry
abbrev pub is_short : ℕ → Contraction → Bool
is_short entries c =
    nat_le (3 * factor_total c + written_list (straight_rows 32 0 0 0 c.columns 0 (row_list c))
    + written_list (placed_code 32 0 c.entries.items))
    (24 * (factor_total c + 1) + 4 * entries)

abbrev pub mono_statements : ℕ → Buffers → ℕ → ℕ → Contraction → List CStmt
mono_statements d b table entries c =
    columns_code (first_buffer (places_for b.columns)) (second_buffer (places_for b.columns)) 20 1 (factor_strips d c)
    ++ (rows_part (is_short entries c) 32 (row_buffer (places_for b.columns))
    (columns_place (places_for b.columns) (factor_strips d c)) table (c.columns - 1) (row_list c)
    ++ placed_code 32 (row_buffer (places_for b.columns)) c.entries.items)

-- with tables from this number on
abbrev pub all_statements : ℕ → Buffers → ℕ → ℕ → List Contraction → List CStmt
all_statements d b entries table [] = []
all_statements d b entries table (c ∷ cs) =
    mono_statements d b table entries c ++ all_statements d b entries (suc table) cs

-- ---- the buffers that it needs
pub record FitsBuffers (d : ℕ) (b : Buffers) (c : Contraction) : Type 0 where
  pub columns : b.columns ≤ 2 ^ 20
  pub rows : c.rows ≤ b.rows
  pub few_rows : b.rows ≤ 2 ^ 20
  pub some : 0 < c.columns
  pub wide : c.columns ≤ b.columns
  pub items : length c.items.items ≡ c.rows * c.columns
  pub few : c.rows * c.columns ≤ 2 ^ 20
  pub coefficients : AllByRecursion IsDirected c.coefficients.items
  pub directions : AllByRecursion (λ i. IsDirected (Growth i)) c.directions.items
  pub formed : CountsFit d 1 (factors_in c.coefficients.items (map Growth c.directions.items))
  pub slots : AllByRecursion (λ e. HasSlot (33 + b.columns + b.columns) e.stands) c.entries.items
  pub entries : length c.entries.items ≤ 2 ^ 32

abbrev pub most_columns : List Contraction → ℕ
most_columns [] = 1
most_columns (c ∷ cs) = max c.columns (most_columns cs)

abbrev pub most_rows : List Contraction → ℕ
most_rows [] = 0
most_rows (c ∷ cs) = max c.rows (most_rows cs)
