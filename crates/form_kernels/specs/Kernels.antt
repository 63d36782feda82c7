-- The functions of a form, and what their runs give
use Rattle.std.specs.Prelude.{◌≡◌, ℕ, ◌+◌, ◌*◌, ◌<◌, ◌≤◌, ◌^◌, List, ◌++◌, map, codes, decimal}
use Rattle.std.specs.List.{AllByRecursion}
use Rattle.algebra.specs.Fraction.{Fraction}
use Rattle.calculus.specs.Simplex.{Simplex, IsCell, dimension}
use Rattle.spaces.specs.Cell.{dimension as cell_dimension}
use Rattle.monos.specs.declared.weight.Weight.{Weight}
use Rattle.c_unit.specs.declared.unit.CFun.{CFun}
use Rattle.c_unit.specs.Meaning.{ran, counted_list}
use Rattle.c_unit.specs.Rules.{KeepsSizes}
use Rattle.kernel_runs.specs.Preamble.{coordinates}
use Rattle.planner.specs.Kernels.{GivesShares, HasSizes}
use Rattle.room.specs.Room.{room, numbers_of, all_values}
use Rattle.assembly.specs.Assembly.{fun_on}
use Rattle.assembly.specs.declared.funs.Funs.{Funs}
use Rattle.assembly.specs.declared.funs.MarkedFun.{MarkedFun}
use Rattle.form_values.specs.CellLayout.{Occurring, layout_of}
use Rattle.form_values.specs.CellShares.{density_on}
use Rattle.form_values.specs.Problem.{Problem}

-- ---- names
-- of the function for cells whose marker the form doesn't name, and of that for the cells with a marker
abbrev pub plain_name : List ℕ → List ℕ
plain_name name = codes "ffc_" ++ name

abbrev pub marked_name : ℕ → List ℕ → List ℕ
marked_name marker name = codes "ffm" ++ (decimal marker ++ (codes "_" ++ name))

-- ---- runs
-- the run of the function on a cell, with these coefficient values
abbrev pub GivesOn : Type 0 → Problem → Occurring → ℕ → CFun → Simplex → List Fraction → Type 0
GivesOn Q p o marker f v w =
    GivesShares Q (density_on p marker) (layout_of p o) v w (ran f (coordinates (cell_dimension p.mesh.kind) v) w)

abbrev pub room_of : Problem → Occurring → Weight → Simplex → List Fraction → ℕ
room_of p o weight v w = room weight (numbers_of (cell_dimension p.mesh.kind) v (all_values (layout_of p o) v w))

-- On each cell with this marker the run gives the cell's shares, or asks for the reciprocal of 0 where the cell is flat, or ends at a
-- step that passes; none passes where the cell's room is below 2^127
pub record GivesCellShares (p : Problem) (o : Occurring) (weight : Weight) (marker : ℕ) (f : CFun) : Type 0 where
  pub shares : (v : Simplex) (w : List Fraction) → IsCell v → dimension v ≡ cell_dimension p.mesh.kind
      → GivesOn (Unit {0}) p o marker f v w
  pub within : (v : Simplex) (w : List Fraction) → IsCell v → dimension v ≡ cell_dimension p.mesh.kind
      → room_of p o weight v w < 2 ^ 127 → GivesOn ⊥ p o marker f v w

-- a function with this name and the sizes of the form's layout, which keeps within its arrays and makes few statements
pub record IsFunction (p : Problem) (o : Occurring) (weight : Weight) (name : List ℕ) (f : CFun) : Type 0 where
  pub name_is : f.name ≡ name
  pub sizes : HasSizes (layout_of p o) f
  pub lawful : KeepsSizes f
  pub bound : counted_list f.body ≤ (weight.g + weight.rmax + 4) * weight.cost + 200

-- one for the cells whose marker isn't among these, and one for the cells of each
pub record AreFunctions (p : Problem) (o : Occurring) (weight : Weight) (name named : List ℕ) (funs : Funs) : Type 0 where
  pub plain : IsFunction p o weight (plain_name name) funs.plain
  pub marked : AllByRecursion (λ (m : MarkedFun). IsFunction p o weight (marked_name m.marker name) m.fun) funs.marked.items
  pub markers : map (λ (m : MarkedFun). m.marker) funs.marked.items ≡ named
  pub small : AllByRecursion (λ (m : MarkedFun). m.marker < 2 ^ 32) funs.marked.items
  pub runs : (marker : ℕ) → GivesCellShares p o weight marker (fun_on funs marker)
