-- The assembly of the form `c*u*v*dx` of linear functions on intervals, by the runs of one function
use Rattle.std.specs.Prelude.{◌≡◌, [], ◌∷◌, Some}
use Rattle.algebra.specs.Fraction.{Fraction}
use Rattle.c_unit.specs.declared.unit.CFun.{CFun}
use Rattle.c_unit.specs.Meaning.{ran}
use Rattle.kernel.specs.MassShare.{mass_outcome, outcome}
use Rattle.ratio.specs.declared.reduced.Ratio.{Ratio}
use Rattle.ratio.specs.Value.{fraction_of}
use Rattle.spaces.specs.declared.cell.Cell.TheVariants.{Interval}
use Rattle.spaces.specs.declared.family.Family.TheVariants.{Lagrange}
use Rattle.spaces.specs.Space.{Space, scalar}
use Rattle.mesh_in.specs.MeshData.{MeshData}
use Rattle.dofs.specs.Rows.{Numbering, numbering}
use Rattle.assembly.specs.Assembly.{Assembly, Runs, assembly_of, runs_of}
use Rattle.assembly.specs.declared.funs.Funs.{Funs}
use Rattle.form_values.specs.MassMatrix.{IsIntervalMesh}

-- the linear element
abbrev pub line_element : Space
line_element = scalar Lagrange Interval 1

-- the function's run on an interval ends as the interval does
abbrev pub IsPlanned : CFun → Fraction → Type 0
IsPlanned f c = (x₀ x₁ : Fraction) → outcome (ran f (x₀ ∷ x₁ ∷ []) []) ≡ mass_outcome c x₀ x₁

-- without coefficients
abbrev pub mass_runs : Funs → MeshData Ratio → Runs
mass_runs funs m = runs_of funs m []

-- with the same rows and columns
abbrev pub mass_assembly : Funs → MeshData Ratio → Numbering → Assembly
mass_assembly funs m n = assembly_of funs m (Some n) (Some n) []

-- on a mesh of intervals, with the rows of the linear element, all cells run one function, which is planned
pub record IsMassAssembly (c : Ratio) (m : MeshData Ratio) (funs : Funs) (n : Numbering) : Type 0 where
  pub mesh : IsIntervalMesh m
  pub rows : n ≡ numbering m line_element
  pub plain : funs.marked.items ≡ []
  pub size : funs.plain.a ≡ 4
  pub planned : IsPlanned funs.plain (fraction_of c)
