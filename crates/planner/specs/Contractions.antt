-- Which contractions are those of monomials
use Rattle.std.specs.Prelude.{◌≡◌, ℕ, ◌+◌, ◌-◌, ◌*◌, ◌<◌, ◌≤◌, ◌^◌, ◌⊎◌, true, List, [], ◌∷◌, ◌++◌, length, map, slice_index_or, Option, None, Some}
use Rattle.std.specs.List.{AllByRecursion, flat_map}
use Rattle.algebra.specs.Fraction.{Fraction}
use Rattle.ratio.specs.declared.reduced.Ratio.{Ratio}
use Rattle.monos.specs.declared.layout.Layout.{Layout}
use Rattle.monos.specs.declared.weight.Weight.{Weight}
use Rattle.monos.specs.Layout.{value_count}
use Rattle.monos.specs.Monomial.{Monomial, directions}
use Rattle.refint.specs.Local.{entries_of}
use Rattle.weigh.specs.Lists.{spread}
use Rattle.weigh.specs.Refusals.{lcd}
use Rattle.room.specs.Numbered.{AllOver}
use Rattle.monomial_weights.specs.Columns.{column_count}
use Rattle.monomial_weights.specs.Weighed.{cost_at, item_bound}
use Rattle.tensors.specs.Rows.{rows_of}
use Rattle.c_unit.specs.declared.unit.CFun.{CFun}
use Rattle.c_unit.specs.Meaning.{fractions_of}
use Rattle.kernel_runs.specs.Preamble.{preamble}
use Rattle.kernel_runs.specs.declared.entry.Entry.{Entry}
use Rattle.kernel_statements.specs.Counted.{counted_rows, is_zero_row, standing_of, standings}
use Rattle.kernel_statements.specs.Digits.{coefficient_digits}
use Rattle.kernel_statements.specs.Emitted.{temporaries}
use Rattle.kernel_statements.specs.Found.{HaveQuotients}
use Rattle.kernel_statements.specs.Placed.{placed_from}
use Rattle.kernel_statements.specs.Statements.{all_statements, most_columns, most_rows}
use Rattle.kernel_statements.specs.declared.slots.Buffers.{Buffers}
use Rattle.kernel_statements.specs.declared.contraction.Contraction.{Contraction}
use Rattle.kernel_statements.specs.declared.digits.Nodes.{Nodes}
use Rattle.kernel_statements.specs.declared.entries.PlacedEntry.{PlacedEntry}

-- ---- which contraction is that of a monomial
-- the entries with rows that aren't zero, as they stand to the counted rows
abbrev pub AreStandings : List (List Fraction) → List PlacedEntry → Type 0
AreStandings rows es = (all : List Entry) × (map standing_of all ≡ standings rows) × (es ≡ placed_from 0 all)

pub record IsContractionOf (l : Layout) (m : Monomial) (c : Contraction) : Type 0 where
  pub coefficients : c.coefficients.items ≡ coefficient_digits l m.atoms
  pub directions : c.directions.items ≡ flat_map directions m.atoms
  pub columns : c.columns ≡ column_count l m.atoms
  pub rows : c.rows ≡ length (counted_rows (rows_of l m))
  pub some : 0 < c.rows
  pub few : length c.entries.items * c.columns ≤ spread (cost_at l) l.d m
  pub items : fractions_of c.items.items ≡ flat_map (λ row. row) (counted_rows (rows_of l m))
  pub entries : AreStandings (rows_of l m) c.entries.items

abbrev pub MayBeContractionOf : Layout → Monomial → Option Contraction → Type 0
MayBeContractionOf l m None = counted_rows (rows_of l m) ≡ []
MayBeContractionOf l m (Some c) = IsContractionOf l m c

abbrev pub contraction_list : Option Contraction → List Contraction
contraction_list None = []
contraction_list (Some c) = c ∷ []

-- of the monomials whose reference tensors aren't zero, in their order
pub data AreContractionsOf (l : Layout) : List Monomial → List Contraction → Type 0 where
  none : AreContractionsOf l [] []
  without : {m : Monomial} {ms : List Monomial} {cs : List Contraction} → counted_rows (rows_of l m) ≡ []
      → AreContractionsOf l ms cs → AreContractionsOf l (m ∷ ms) cs
  more : {m : Monomial} {ms : List Monomial} {c : Contraction} {cs : List Contraction} → IsContractionOf l m c
      → AreContractionsOf l ms cs → AreContractionsOf l (m ∷ ms) (c ∷ cs)

-- ---- the function of contractions
abbrev pub buffers_for : List Contraction → Buffers
buffers_for cs = record { columns = most_columns cs; rows = most_rows cs }

pub record IsKernelOf (l : Layout) (cs : List Contraction) (f : CFun) : Type 0 where
  pub x : f.x ≡ l.d * (l.d + 1)
  pub w : f.w ≡ value_count l.coefs
  pub t : f.t ≡ temporaries (most_columns cs) (most_rows cs)
  pub a : f.a ≡ entries_of l.rows * entries_of l.cols
  pub tables : f.tables ≡ map (λ c. c.items.items) cs
  pub body : f.body ≡ preamble l.d ++ all_statements l.d (buffers_for cs) (entries_of l.rows * entries_of l.cols) 0 cs

-- ---- nodes
abbrev pub IsInside : Nodes → ℕ → Type 0
IsInside n a = (n.from ≤ a) × (a < n.to)

-- rows of a grid of `cols` in each line: entries of other nodes have rows that are zero, and these are few
pub record IsOnNodes (rows : List (List Ratio)) (cols : ℕ) (tests trials : Nodes) : Type 0 where
  pub full : (a : ℕ) × (length rows ≡ a * cols)
  pub test_order : tests.from ≤ tests.to
  pub trial_order : trials.from ≤ trials.to
  pub test : tests.to * cols ≤ length rows
  pub trial : trials.to ≤ cols
  pub few : (tests.to - tests.from) * (trials.to - trials.from) ≤ 2 ^ 20
  pub zeros : (a b : ℕ) → a * cols + b < length rows → b < cols
      → (IsInside tests a × IsInside trials b)
      ⊎ (is_zero_row (fractions_of (slice_index_or rows (a * cols + b) [])) ≡ true)

-- no step of a quotient of two items passes
abbrev pub HaveAllQuotients : List (List Ratio) → Type 0
HaveAllQuotients rows = AllByRecursion (λ ys. AllByRecursion (λ xs. HaveQuotients xs ys) rows) rows

-- the items of a monomial's rows are over the weight's common denominator, and bounded there
abbrev pub AreRowsBounded : Layout → Weight → Monomial → Type 0
AreRowsBounded l w m = AllByRecursion (AllOver (lcd l.d w) (item_bound l.d w m)) (rows_of l m)
