-- A form with the elements and the coefficients of its file, on a mesh
use Rattle.std.specs.Prelude.{ℕ, List, [], Bool, nat_le, Option, None, Result, Ok, Err, if◌then◌else◌}
use Rattle.algebra.specs.Fraction.{Fraction}
use Rattle.spaces.specs.declared.cell.Cell.{Cell}
use Rattle.mesh_in.specs.MeshData.{MeshData}
use Rattle.ufl_tree.specs.FormTerm.{FormTerm}
use Rattle.ufl_tree.specs.Places.{Table}
use Rattle.ufl_expr.specs.declared.refusal.TypeRefusal.{TypeRefusal}
use Rattle.ufl_form.specs.declared.arguments.Arguments.{Arguments}
use Rattle.ufl_form.specs.declared.table.FormKind.{FormKind}
use Rattle.ufl_form.specs.Arguments.{no_arguments}
use Rattle.ufl_form.specs.Table.{form_kind, form_patterns}
use Rattle.admit.specs.Admission.{rank_of}
use Rattle.form_values.specs.Problem.{Problem}

abbrev pub arguments_by : Result FormKind TypeRefusal → Arguments
arguments_by (Ok kind) = kind.arguments
arguments_by (Err r) = no_arguments

abbrev pub arguments_of : FormTerm → Arguments
arguments_of f = arguments_by (form_kind f)

-- the element of an argument that the form has: one that is in each of its terms
abbrev pub ranked : Bool → Option ℕ → Option ℕ
ranked b e = if b then e else None

-- the values of the coefficients are one for each of their rows
abbrev pub form_problem : Table → List ℕ → FormTerm → MeshData Fraction → (ℕ → List Fraction) → Problem
form_problem elements coefficients f m values = record {
  elements = elements;
  coefficients = coefficients;
  test = ranked (nat_le 1 (rank_of (form_patterns f))) (arguments_of f).test;
  trial = ranked (nat_le 2 (rank_of (form_patterns f))) (arguments_of f).trial;
  form = f;
  mesh = m;
  values = values;
}

-- a mesh without cells
abbrev pub no_cells : Cell → MeshData Fraction
no_cells c = record { kind = c; points = []; cells = []; markers = [] }
