-- What a form's kernels are run on, and what the runs on the cells of a mesh add to the form's values
use Rattle.std.specs.Prelude.{◌≡◌, ℕ, zero, suc, ◌*◌, ◌<◌, ◌≤◌, ◌^◌, ◌==◌, true, List, [], ◌∷◌, ◌++◌, map, length, Option, None, Some, slice_index_or, if◌then◌else◌}
use Rattle.std.specs.List.{flat_map, AllByRecursion}
use Rattle.algebra.specs.Fraction.{Fraction, zero_fraction}
use Rattle.ratio.specs.declared.reduced.Ratio.{Ratio}
use Rattle.ratio.specs.Value.{fraction_of}
use Rattle.spaces.specs.declared.parts.Part.{Part}
use Rattle.spaces.specs.declared.parts.Parts.{Parts}
use Rattle.c_unit.specs.declared.unit.CFun.{CFun}
use Rattle.c_unit.specs.Meaning.{ran, fractions_of}
use Rattle.c_run.specs.Answer.{Answer, Passed, Zero, answer}
use Rattle.mesh_in.specs.MeshData.{MeshData, fractions}
use Rattle.dofs.specs.Rows.{Numbering}
use Rattle.monos.specs.declared.layout.Layout.{Layout}
use Rattle.assembly.specs.Sums.{Entry, PassesFirst}
use Rattle.assembly.specs.Local.{local_entries}
use Rattle.assembly.specs.Run.{coordinates_of, tensor_of, is_good}
use Rattle.assembly.specs.declared.funs.Funs.{Funs}
use Rattle.assembly.specs.declared.funs.MarkedFun.{MarkedFun}
use Rattle.assembly.specs.declared.coef_data.CoefData.{CoefData}
use Rattle.assembly.specs.declared.run_refusal.RunRefusal.{RunRefusal}
use Rattle.assembly.specs.declared.run_refusal.RunRefusal.TheVariants as refusal

-- ---- functions by marker

abbrev pub marked_fun : List MarkedFun → ℕ → CFun → CFun
marked_fun [] marker plain = plain
marked_fun (m ∷ ms) marker plain = if m.marker == marker then m.fun else marked_fun ms marker plain

-- that of the marker, or else the plain one
abbrev pub fun_on : Funs → ℕ → CFun
fun_on f marker = marked_fun f.marked.items marker f.plain

-- the markers rise
abbrev pub AreRising : List MarkedFun → Type 0
AreRising [] = Unit {0}
AreRising (m ∷ ms) = AllByRecursion (λ (later : MarkedFun). m.marker < later.marker) ms × AreRising ms

-- ---- what is assembled

-- what the functions are run on
pub record Runs : Type 0 where
  pub funs : Funs
  pub mesh : MeshData Ratio
  -- by rising number of the coefficient
  pub coefs : List CoefData

-- with the rows of the test function and those of the trial function, where the form has one
pub record Assembly : Type 0 where
  pub runs : Runs
  pub rows : Option Numbering
  pub cols : Option Numbering

abbrev pub runs_of : Funs → MeshData Ratio → List CoefData → Runs
runs_of f m coefs = record { funs = f; mesh = m; coefs = coefs }

abbrev pub assembly_of : Funs → MeshData Ratio → Option Numbering → Option Numbering → List CoefData → Assembly
assembly_of f m rows cols coefs = record { runs = runs_of f m coefs; rows = rows; cols = cols }

-- the rows of an argument's local nodes on cell k; an argument that the form doesn't have has one row, number 0
abbrev pub argument_rows : Option Numbering → ℕ → List ℕ
argument_rows None k = 0 ∷ []
argument_rows (Some n) k = slice_index_or n.cells k []

abbrev pub row_count : Option Numbering → ℕ
row_count None = 1
row_count (Some n) = length n.labels

-- the marker of cell k
abbrev pub marker_of : {A : Type 0} → MeshData A → ℕ → ℕ
marker_of m k = slice_index_or m.markers k 0

-- the values of a coefficient at the rows of its local nodes on cell k
abbrev pub coefficient_values : ℕ → CoefData → List Fraction
coefficient_values k c =
    map (λ r. slice_index_or (fractions_of c.values.items) r zero_fraction) (slice_index_or c.map.cells k [])

-- what the function of cell k answers there: X has the coordinates of the vertices, W the values of the coefficients
unfoldable pub answer_on : Runs → ℕ → Answer
answer_on s k = answer (ran (fun_on s.funs (marker_of s.mesh k))
    (coordinates_of (fractions s.mesh) (slice_index_or s.mesh.cells k []))
    (flat_map (coefficient_values k) s.coefs))

abbrev pub cell_count : Runs → ℕ
cell_count s = length s.mesh.cells

-- ---- what the cells add

-- the local tensor of cell k, row by row, at the rows and columns of the cell
abbrev pub cell_entries : Option Numbering → Option Numbering → (ℕ → List Fraction) → ℕ → List Entry
cell_entries rows cols tensor k = local_entries (argument_rows rows k) (argument_rows cols k) (tensor k)

-- those of so many cells from cell k on
abbrev pub entries_from : Option Numbering → Option Numbering → (ℕ → List Fraction) → ℕ → ℕ → List Entry
entries_from rows cols tensor k zero = []
entries_from rows cols tensor k (suc n) = cell_entries rows cols tensor k ++ entries_from rows cols tensor (suc k) n

abbrev pub tensor_on : Runs → ℕ → List Fraction
tensor_on s k = tensor_of (answer_on s k)

-- the values of all cells, one cell after the other
abbrev pub run_entries : Assembly → List Entry
run_entries s = entries_from s.rows s.cols (tensor_on s.runs) 0 (cell_count s.runs)

-- ---- what fits together

-- how many local rows an argument has: one where the form doesn't have it
abbrev pub width_in : List Part → ℕ → ℕ
width_in [] n = 1
width_in (p ∷ ps) n = n

abbrev pub width_of : Parts → ℕ
width_of ps = width_in ps.items ps.local

-- how many entries a local tensor has
abbrev pub entry_count : Layout → ℕ
entry_count l = width_of l.rows * width_of l.cols

-- a map for so many cells of so many local rows each; none for an argument that the form doesn't have
abbrev pub IsMapOf : ℕ → ℕ → Option Numbering → Type 0
IsMapOf cells width None = width ≡ 1
IsMapOf cells width (Some n) = (length n.cells ≡ cells) × AllByRecursion (λ rows. length rows ≡ width) n.cells

-- a map for so many cells, and a value for each of its rows
abbrev pub IsDataOf : ℕ → CoefData → Type 0
IsDataOf cells c = (length c.map.cells ≡ cells) × (length c.values.items ≡ length c.map.labels)

-- the functions have this many entries, their markers rise, and the data are for the cells of the mesh
pub record FitRuns (size : ℕ) (s : Runs) : Type 0 where
  pub plain : s.funs.plain.a ≡ size
  pub marked : AllByRecursion (λ (m : MarkedFun). m.fun.a ≡ size) s.funs.marked.items
  pub rising : AreRising s.funs.marked.items
  pub coefs : AllByRecursion (IsDataOf (cell_count s)) s.coefs

-- with the sizes of the layout, and maps for the cells of the mesh
pub record Fits (l : Layout) (s : Assembly) : Type 0 where
  pub runs : FitRuns (entry_count l) s.runs
  pub rows : IsMapOf (cell_count s.runs) (width_of l.rows) s.rows
  pub cols : IsMapOf (cell_count s.runs) (width_of l.cols) s.cols

-- ---- refusals

-- the most entries of all local tensors together
abbrev pub most_entries : ℕ
most_entries = 2 ^ 24

abbrev pub IsFew : Runs → Type 0
IsFew s = cell_count s * s.funs.plain.a ≤ most_entries

-- the run on the cell goes to its end
abbrev pub IsGoodOn : Runs → ℕ → Type 0
IsGoodOn s k = is_good (answer_on s k) ≡ true

-- those on all cells do
abbrev pub AreGood : Runs → Type 0
AreGood s = (k : ℕ) → k < cell_count s → IsGoodOn s k

-- the run stops for this reason
abbrev pub StopsFor : Answer → RunRefusal → Type 0
StopsFor (Zero at a) (refusal.Zero cell at') = at' ≡ at
StopsFor (Passed at op l r a) (refusal.CellPassed cell at' op' l' r') =
    (at' ≡ at) × (op' ≡ op) × (fraction_of l' ≡ l) × (fraction_of r' ≡ r)
StopsFor _ _ = ⊥

-- the run on this cell is the first that stops, and it does for this reason
pub record StopsFirst (s : Runs) (k : ℕ) (e : RunRefusal) : Type 0 where
  pub few : IsFew s
  pub cell : k < cell_count s
  pub earlier : (j : ℕ) → j < k → IsGoodOn s j
  pub stops : StopsFor (answer_on s k) e

-- when each refusal comes of the runs on all cells
abbrev pub RunRefused : Runs → RunRefusal → Type 0
RunRefused s refusal.TooManyEntries = most_entries < cell_count s * s.funs.plain.a
RunRefused s (refusal.Zero cell at) = StopsFirst s cell (refusal.Zero cell at)
RunRefused s (refusal.CellPassed cell at op l r) = StopsFirst s cell (refusal.CellPassed cell at op l r)
RunRefused s (refusal.SumPassed row col) = ⊥
RunRefused s refusal.Memory = Unit {0}

-- why one cell has no values
abbrev pub CellRefused : Answer → ℕ → RunRefusal → Type 0
CellRefused a k refusal.TooManyEntries = ⊥
CellRefused a k (refusal.Zero cell at) = (cell ≡ k) × StopsFor a (refusal.Zero cell at)
CellRefused a k (refusal.CellPassed cell at op l r) = (cell ≡ k) × StopsFor a (refusal.CellPassed cell at op l r)
CellRefused a k (refusal.SumPassed row col) = ⊥
CellRefused a k refusal.Memory = Unit {0}

-- and of adding up, after all runs went to their ends
abbrev pub Refused : Assembly → RunRefusal → Type 0
Refused s refusal.TooManyEntries = RunRefused s.runs refusal.TooManyEntries
Refused s (refusal.Zero cell at) = RunRefused s.runs (refusal.Zero cell at)
Refused s (refusal.CellPassed cell at op l r) = RunRefused s.runs (refusal.CellPassed cell at op l r)
Refused s (refusal.SumPassed row col) = IsFew s.runs × AreGood s.runs × PassesFirst (run_entries s) row col
Refused s refusal.Memory = Unit {0}
