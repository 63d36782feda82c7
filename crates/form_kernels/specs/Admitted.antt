-- Forms that have functions: those that a file exports are such
use Rattle.std.specs.Prelude.{◌≡◌, ℕ, List, [], length, Ok}
use Rattle.spaces.specs.declared.cell.Cell.{Cell}
use Rattle.spaces.specs.Cell.{dimension}
use Rattle.ufl_tree.specs.Places.{Table}
use Rattle.ufl_tree.specs.FormTerm.{FormTerm}
use Rattle.ufl_form.specs.declared.table.FormKind.{FormKind}
use Rattle.ufl_form.specs.Fits.{FormFits}
use Rattle.ufl_form.specs.Numbered.{FormIsNumbered}
use Rattle.ufl_form.specs.Table.{form_kind}
use Rattle.monos.specs.declared.layout.Layout.{Layout}
use Rattle.monos.specs.declared.weight.Weight.{Weight}
use Rattle.monos.specs.Layout.{IsLawfulOn}
use Rattle.weigh.specs.Weighing.{exact}
use Rattle.admit.specs.Admission.{admission}
use Rattle.assembly.specs.declared.funs.Funs.{Funs}
use Rattle.form_values.specs.CellLayout.{Occurring, layout_of}
use Rattle.form_values.specs.Problem.{Problem}
use Rattle.form_layouts.specs.Occurring.{occurring}
use Rattle.form_layouts.specs.Problems.{form_problem, no_cells}
use Rattle.form_monomials.specs.Markers.{AreMarkersOf}
use Rattle.form_kernels.specs.Kernels.{AreFunctions}

-- a form that fits the elements, numbers the coefficients, and is admitted with this weight
pub record IsAdmittedForm (elements : Table) (numbers : List ℕ) (f : FormTerm) (k : FormKind) (w : Weight) : Type 0 where
  pub fits : FormFits elements f
  pub numbered : FormIsNumbered numbers f
  pub kind : form_kind f ≡ Ok k
  pub admitted : admission exact (dimension k.cell) elements f ≡ Ok w

-- without values of coefficients, on no cells
abbrev pub problem_on : Table → List ℕ → FormTerm → Cell → Problem
problem_on elements numbers f c = form_problem elements numbers f (no_cells c) (λ n. [])

-- the functions beside its arguments that occur in it
abbrev pub occurring_in : List ℕ → FormTerm → Occurring
occurring_in numbers f = occurring (length numbers) f

abbrev pub form_layout : Table → List ℕ → FormTerm → Cell → Layout
form_layout elements numbers f c = layout_of (problem_on elements numbers f c) (occurring_in numbers f)

-- the layout is that of the form, and lawful
pub record HasFormLayout (elements : Table) (numbers : List ℕ) (f : FormTerm) (c : Cell) (l : Layout) : Type 0 where
  pub is : l ≡ form_layout elements numbers f c
  pub lawful : IsLawfulOn c l

-- the functions are those of the form: one for each marker that it names, by rising number, and one for all other cells
pub record HasFormFunctions (elements : Table) (numbers : List ℕ) (f : FormTerm) (c : Cell) (w : Weight) (name : List ℕ)
    (funs : Funs) : Type 0 where
  pub markers : List ℕ
  pub are_markers : AreMarkersOf f markers
  pub functions : AreFunctions (problem_on elements numbers f c) (occurring_in numbers f) w name markers funs
