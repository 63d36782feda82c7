-- An assembly of a form by its functions, and why there are no values
use Rattle.std.specs.Prelude.{◌≡◌, ℕ, ◌*◌, ◌<◌, ◌≤◌, ◌^◌, true, false, List, [], length, slice_index_or, IsSome}
use Rattle.std.specs.List.{flat_map}
use Rattle.algebra.specs.Fraction.{is_zero_fraction}
use Rattle.calculus.specs.Simplex.{volume}
use Rattle.mesh_in.specs.MeshData.{fractions}
use Rattle.dofs.specs.Basis.{CellOf}
use Rattle.monos.specs.declared.weight.Weight.{Weight}
use Rattle.assembly.specs.Assembly.{Assembly, entry_count, fun_on, most_entries, coefficient_values}
use Rattle.assembly.specs.Sums.{Entry, PassesFirst, added, values_at}
use Rattle.assembly.specs.declared.run_refusal.RunRefusal.{RunRefusal}
use Rattle.assembly.specs.declared.run_refusal.RunRefusal.TheVariants as refusal
use Rattle.form_values.specs.Assembled.{IsAssemblyOf}
use Rattle.form_values.specs.CellLayout.{Occurring, Fits, layout_of, values_on}
use Rattle.form_values.specs.CellShares.{shares_on, tensor_entries}
use Rattle.form_values.specs.Linear.{IsMultilinear}
use Rattle.form_values.specs.Problem.{Problem, IsIn, cell_of_mesh}
use Rattle.form_kernels.specs.Kernels.{GivesCellShares, room_of}

-- ---- what is assembled
-- the form's functions are run on the cells of its mesh, with the values of its coefficients
pub record IsFormAssembly (p : Problem) (o : Occurring) (weight : Weight) (s : Assembly) : Type 0 where
  pub fits : Fits p o
  pub linear : IsMultilinear p o
  pub mesh : fractions s.runs.mesh ≡ p.mesh
  pub assembly : IsAssemblyOf p s
  pub size : s.runs.funs.plain.a ≡ entry_count (layout_of p o)
  pub values : (k : CellOf) → IsIn k p → flat_map (coefficient_values k.number) s.runs.coefs ≡ values_on p o.coefficients k
  pub runs : (marker : ℕ) → GivesCellShares p o weight marker (fun_on s.runs.funs marker)

-- ---- when there are values
abbrev pub cell_count : Problem → ℕ
cell_count p = length p.mesh.cells

abbrev pub cell_at : Problem → ℕ → CellOf
cell_at p k = cell_of_mesh p.mesh k (slice_index_or p.mesh.cells k [])

-- cell k isn't flat
abbrev pub IsSolid : Problem → ℕ → Type 0
IsSolid p k = is_zero_fraction (volume (cell_at p k).corners) ≡ false

abbrev pub AreSolid : Problem → Type 0
AreSolid p = (k : ℕ) → k < cell_count p → IsSolid p k

-- that of cell k
abbrev pub cell_room : Problem → Occurring → Weight → ℕ → ℕ
cell_room p o weight k = room_of p o weight (cell_at p k).corners (values_on p o.coefficients (cell_at p k))

-- all cells together have at most 2^24 local entries
abbrev pub IsFew : Problem → Occurring → Type 0
IsFew p o = cell_count p * entry_count (layout_of p o) ≤ most_entries

-- the shares of the cells at their rows and columns, cell by cell
abbrev pub share_entries : Problem → Occurring → List Entry
share_entries p o = tensor_entries p (shares_on p o)

-- no cell is flat, and the shares of each entry, cells in order, can be added up
pub record HasValues (p : Problem) (o : Occurring) : Type 0 where
  pub few : IsFew p o
  pub solid : AreSolid p
  pub sums : (row col : ℕ) → IsSome (added (values_at (share_entries p o) row col))

-- ---- and why there are none
-- the first flat cell; all cells before it aren't flat
pub record IsFirstFlat (p : Problem) (o : Occurring) (k : ℕ) : Type 0 where
  pub few : IsFew p o
  pub cell : k < cell_count p
  pub earlier : (j : ℕ) → j < k → IsSolid p j
  pub flat : is_zero_fraction (volume (cell_at p k).corners) ≡ true

-- a cell whose room is too large; all cells before it aren't flat
pub record IsTooLarge (p : Problem) (o : Occurring) (weight : Weight) (k : ℕ) : Type 0 where
  pub few : IsFew p o
  pub cell : k < cell_count p
  pub earlier : (j : ℕ) → j < k → IsSolid p j
  pub large : 2 ^ 127 ≤ cell_room p o weight k

-- no cell is flat, and this is the first entry whose shares, cells in order, can't be added up
pub record SumPasses (p : Problem) (o : Occurring) (row col : ℕ) : Type 0 where
  pub few : IsFew p o
  pub solid : AreSolid p
  pub passes : PassesFirst (share_entries p o) row col

abbrev pub Refuses : Problem → Occurring → Weight → RunRefusal → Type 0
Refuses p o weight refusal.TooManyEntries = most_entries < cell_count p * entry_count (layout_of p o)
Refuses p o weight (refusal.Zero cell at) = IsFirstFlat p o cell
Refuses p o weight (refusal.CellPassed cell at op left right) = IsTooLarge p o weight cell
Refuses p o weight (refusal.SumPassed row col) = SumPasses p o row col
Refuses p o weight refusal.Memory = Unit {0}
