-- What an assembly of a form is made of
use Rattle.std.specs.Prelude.{◌≡◌, ℕ, ◌<◌, ◌*◌, List, Option}
use Rattle.std.specs.List.{flat_map}
use Rattle.algebra.specs.Fraction.{Fraction}
use Rattle.spaces.specs.Space.{Space}
use Rattle.mesh_in.specs.MeshData.{MeshData}
use Rattle.ufl_tree.specs.FormTerm.{FormTerm}
use Rattle.ufl_tree.specs.Places.{Table}
use Rattle.ufl_form.specs.declared.table.FormKind.{FormKind}
use Rattle.monos.specs.declared.layout.Layout.{Layout}
use Rattle.monos.specs.declared.weight.Weight.{Weight}
use Rattle.dofs.specs.Basis.{CellOf}
use Rattle.dofs.specs.Rows.{Numbering}
use Rattle.assembly.specs.Assembly.{coefficient_values, entry_count, most_entries}
use Rattle.assembly.specs.declared.coef_data.CoefData.{CoefData}
use Rattle.assembly.specs.declared.funs.Funs.{Funs}
use Rattle.assembly.specs.declared.run_refusal.RunRefusal.{RunRefusal}
use Rattle.assembly.specs.declared.run_refusal.RunRefusal.TheVariants.{TooManyEntries, Memory}
use Rattle.form_values.specs.Assembled.{argument_numbering, numbering_of}
use Rattle.form_values.specs.CellLayout.{Occurring, Fits, HasOnly, layout_of, values_on}
use Rattle.form_values.specs.Linear.{IsMultilinear}
use Rattle.form_values.specs.Problem.{Problem, IsIn}
use Rattle.form_monomials.specs.Markers.{AreMarkersOf}
use Rattle.form_layouts.specs.Problems.{form_problem}
use Rattle.form_kernels.specs.Admitted.{IsAdmittedForm, occurring_in}
use Rattle.form_kernels.specs.Kernels.{AreFunctions}
use Rattle.form_assembly.specs.Assembled.{IsFew, cell_count}

-- the functions of a form with this name, over its layout, and the rows of its arguments on its mesh
pub record IsPrepared (p : Problem) (o : Occurring) (weight : Weight) (name : List ℕ) (l : Layout) (funs : Funs) (test trial : Option Numbering) : Type 0 where
  pub fits : Fits p o
  pub linear : IsMultilinear p o
  pub layout : l ≡ layout_of p o
  pub markers : List ℕ
  pub are_markers : AreMarkersOf p.form markers
  pub functions : AreFunctions p o weight name markers funs
  pub test_rows : test ≡ argument_numbering p p.test
  pub trial_rows : trial ≡ argument_numbering p p.trial

-- the rows of an element on the mesh, if there is one
abbrev pub AreRowsOf : Option Space → MeshData Fraction → Option Numbering → Type 0
AreRowsOf s m rows = (p : Problem) → p.mesh ≡ m → rows ≡ numbering_of p s

-- data that have the values of the problem's coefficients that occur, by rising number
abbrev pub HaveValues : Problem → Occurring → List CoefData → Type 0
HaveValues p o coefs =
    (k : CellOf) → IsIn k p → flat_map (coefficient_values k.number) coefs ≡ values_on p o.coefficients k

-- with each weight with which the form is admitted, and all values of the coefficients that occur
abbrev pub IsPreparedForm : Table → List ℕ → FormTerm → MeshData Fraction → List ℕ → Layout → Funs → Option Numbering → Option Numbering → Type 0
IsPreparedForm elements numbers f m name l funs test trial =
    (k : FormKind) (weight : Weight) (values : ℕ → List Fraction) → IsAdmittedForm elements numbers f k weight
    → HasOnly (form_problem elements numbers f m values) (occurring_in numbers f).coefficients
    → IsPrepared (form_problem elements numbers f m values) (occurring_in numbers f) weight name l funs test trial

-- why nothing is made: all cells together have more than 2^24 local entries; or they haven't, and memory was wanting
abbrev pub IsUnprepared : Problem → Occurring → RunRefusal → Type 0
IsUnprepared p o TooManyEntries = most_entries < cell_count p * entry_count (layout_of p o)
IsUnprepared p o Memory = IsFew p o
IsUnprepared p o _ = ⊥
