-- Worked: the square of the coordinate of space, integrated over the cells with marker 1
use Rattle.std.specs.Prelude.{[], ◌∷◌, Some, None}
use Rattle.algebra.specs.Ring.{natural}
use Rattle.algebra.specs.Fraction.{Fraction, fractions}
use Rattle.spaces.specs.declared.cell.Cell.TheVariants.{Interval}
use Rattle.spaces.specs.declared.family.Family.TheVariants.{Lagrange}
use Rattle.spaces.specs.Space.{scalar, vector}
use Rattle.mesh_in.specs.MeshData.{MeshData}
use Rattle.ufl_tree.specs.declared.function.Ix.TheVariants.{Fixed}
use Rattle.ufl_tree.specs.declared.function.On.TheVariants.{Marked}
use Rattle.ufl_tree.specs.declared.function.Role.TheVariants.{Position}
use Rattle.ufl_tree.specs.declared.tree.Op2.TheVariants.{Product}
use Rattle.ufl_tree.specs.FormTerm.{integral}
use Rattle.ufl_tree.specs.Typed.{Typed, function, index, two}
use Rattle.form_values.specs.Mass.{scalar_on}
use Rattle.form_values.specs.Problem.{Problem}

-- x[0]
abbrev pub first_coordinate : Typed
first_coordinate =
    index (scalar_on Interval)
    (function (record { shape = 1 ∷ []; free = []; cell = Some Interval }) (record { role = Position; element = 0 }))
    (Fixed 0 ∷ [])

-- from 0 to 1 with marker 0, and from 3 to 1 with marker 1
abbrev pub two_intervals : MeshData Fraction
two_intervals = record {
  kind = Interval;
  points = (natural fractions 0 ∷ []) ∷ (natural fractions 1 ∷ []) ∷ (natural fractions 3 ∷ []) ∷ [];
  cells = (0 ∷ 1 ∷ []) ∷ (2 ∷ 1 ∷ []) ∷ [];
  markers = 0 ∷ 1 ∷ [];
}

-- x[0]*x[0]*dx(1): neither a test nor a trial function
abbrev pub square_problem : Problem
square_problem = record {
  elements = vector (scalar Lagrange Interval 1) 1 ∷ [];
  coefficients = [];
  test = None;
  trial = None;
  form = integral (Marked 1) (two (scalar_on Interval) Product first_coordinate first_coordinate);
  mesh = two_intervals;
  values = λ n. [];
}
