-- The layout of a form on the meshes of its cell, and the forms that have one
use Rattle.std.specs.Prelude.{◌≡◌, ℕ, List, Option, None, Some, Ok, length, slice_get}
use Rattle.algebra.specs.Fraction.{Fraction}
use Rattle.spaces.specs.Space.{Space}
use Rattle.mesh_in.specs.MeshData.{MeshData}
use Rattle.ufl_tree.specs.FormTerm.{FormTerm}
use Rattle.ufl_tree.specs.Places.{Table, IsLawfulTable}
use Rattle.ufl_form.specs.declared.table.FormKind.{FormKind}
use Rattle.ufl_form.specs.Fits.{FormFits}
use Rattle.ufl_form.specs.Numbered.{FormIsNumbered}
use Rattle.ufl_form.specs.Table.{AreTyped, form_kind}
use Rattle.monos.specs.declared.layout.Layout.{Layout}
use Rattle.monos.specs.Layout.{IsLawfulOn}
use Rattle.form_values.specs.CellLayout.{layout_of}
use Rattle.form_layouts.specs.Occurring.{occurring}
use Rattle.form_layouts.specs.Problems.{form_problem}

-- the element of a number, where the table has one
abbrev pub element_at : Table → Option ℕ → Option Space
element_at elements None = None
element_at elements (Some e) = slice_get elements e

-- a typed form over lawful elements, whose functions fit them and are numbered by the coefficients
pub record IsSoundForm (elements : Table) (coefficients : List ℕ) (f : FormTerm) : Type 0 where
  pub elements_lawful : IsLawfulTable elements
  pub typed : AreTyped f
  pub fits : FormFits elements f
  pub numbered : FormIsNumbered coefficients f

-- l is the layout of the form, with the functions that occur in it, on each mesh of its cell
pub record IsLayoutOf (elements : Table) (coefficients : List ℕ) (f : FormTerm) (l : Layout) : Type 0 where
  pub layout : (k : FormKind) (m : MeshData Fraction) (values : ℕ → List Fraction) → form_kind f ≡ Ok k
      → m.kind ≡ k.cell
      → l ≡ layout_of (form_problem elements coefficients f m values) (occurring (length coefficients) f)

-- l is lawful on the cell of the form, if the form is sound
pub record IsLawfulFor (elements : Table) (coefficients : List ℕ) (f : FormTerm) (l : Layout) : Type 0 where
  pub lawful : (k : FormKind) → IsSoundForm elements coefficients f → form_kind f ≡ Ok k → IsLawfulOn k.cell l
