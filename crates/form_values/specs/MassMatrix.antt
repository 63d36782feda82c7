-- When the form `c*u*v*dx` of linear functions on intervals has a matrix, and why it has none: a cell has its shares,
-- is flat, or passes, since the difference of its coordinates or a share does not fit
use Rattle.std.specs.Prelude.{◌≡◌, ℕ, ◌<◌, Bool, true, false, List, [], length, slice_index, slice_index_or, IsSome}
use Rattle.algebra.specs.Fraction.{Fraction, zero_fraction}
use Rattle.kernel.specs.MassShare.{Outcome, Shares, Passes, Flat, mass_outcome}
use Rattle.ratio.specs.declared.reduced.Ratio.{Ratio}
use Rattle.ratio.specs.Value.{fraction_of}
use Rattle.spaces.specs.declared.cell.Cell.TheVariants.{Interval}
use Rattle.mesh_in.specs.MeshData.{MeshData, IsMesh}
use Rattle.assembly.specs.Sums.{Entry, PassesFirst, added, values_at}
use Rattle.assembly.specs.declared.run_refusal.RunRefusal.{RunRefusal}
use Rattle.assembly.specs.declared.run_refusal.RunRefusal.TheVariants as refusal
use Rattle.form_values.specs.CellShares.{shares_on, tensor_entries}
use Rattle.form_values.specs.Mass.{mass_problem, no_others}

-- the coordinate of end i of an interval
abbrev pub end_of : MeshData Fraction → List ℕ → ℕ → Fraction
end_of m cell i = slice_index_or (slice_index_or m.points (slice_index cell i) []) 0 zero_fraction

abbrev pub outcome_on : MeshData Fraction → Fraction → List ℕ → Outcome
outcome_on m c cell = mass_outcome c (end_of m cell 0) (end_of m cell 1)

abbrev pub has_shares : Outcome → Bool
has_shares (Shares xs) = true
has_shares Passes = false
has_shares Flat = false

-- what becomes of cell k
abbrev pub cell_outcome : MeshData Fraction → Ratio → ℕ → Outcome
cell_outcome m c k = outcome_on m (fraction_of c) (slice_index_or m.cells k [])

-- cell k has its shares
abbrev pub IsFine : MeshData Fraction → Ratio → ℕ → Type 0
IsFine m c k = has_shares (cell_outcome m c k) ≡ true

-- all cells before this one have their shares, and this is what becomes of it
pub record BecomesFirst (m : MeshData Fraction) (c : Ratio) (k : ℕ) (outcome : Outcome) : Type 0 where
  pub cell : k < length m.cells
  pub earlier : (j : ℕ) → j < k → IsFine m c j
  pub becomes : cell_outcome m c k ≡ outcome

-- the shares of the cells at their rows and columns, cell by cell
abbrev pub share_entries : MeshData Fraction → Ratio → List Entry
share_entries m c = tensor_entries (mass_problem c m) (shares_on (mass_problem c m) no_others)

-- all cells have their shares, and those of each entry, cells in order, can be added up
pub record HasMatrix (m : MeshData Fraction) (c : Ratio) : Type 0 where
  pub cells : (k : ℕ) → k < length m.cells → IsFine m c k
  pub sums : (row col : ℕ) → IsSome (added (values_at (share_entries m c) row col))

-- all cells have their shares, and this is the first entry whose shares, cells in order, can't be added up
pub record SumPasses (m : MeshData Fraction) (c : Ratio) (row col : ℕ) : Type 0 where
  pub cells : (k : ℕ) → k < length m.cells → IsFine m c k
  pub passes : PassesFirst (share_entries m c) row col

-- when there is no matrix: for the first cell that has no shares, or else for the first entry that passes. No mesh has
-- too many entries for the form
abbrev pub Refuses : MeshData Fraction → Ratio → RunRefusal → Type 0
Refuses m c refusal.TooManyEntries = ⊥
Refuses m c (refusal.Zero cell at) = BecomesFirst m c cell Flat
Refuses m c (refusal.CellPassed cell at op left right) = BecomesFirst m c cell Passes
Refuses m c (refusal.SumPassed row col) = SumPasses m c row col
Refuses m c refusal.Memory = Unit {0}

abbrev pub IsIntervalMesh : MeshData Ratio → Type 0
IsIntervalMesh m = (m.kind ≡ Interval) × IsMesh m
