-- Forms that fit a table of elements: their integrands do, and each function that an action or a derivative names has its element there, on the form's cell
use Rattle.std.specs.Prelude.{◌≡◌, ◌++◌, Option, Some, Ok}
use Rattle.ufl_tree.specs.declared.function.Function.{Function}
use Rattle.ufl_tree.specs.declared.function.Role.{Role}
use Rattle.ufl_tree.specs.FormTerm.{FormTerm}
use Rattle.ufl_tree.specs.Functions.{Each, EachPart}
use Rattle.ufl_tree.specs.Places.{Table}
use Rattle.ufl_expr.specs.Elements.{IsSpaceOn, IsOn}
use Rattle.ufl_expr.specs.Fits.{FitsTable, Fits as ExprFits}
use Rattle.ufl_form.specs.declared.form_tree.FormTree.{FormTree}
use Rattle.ufl_form.specs.declared.form_tree.FormTree.TheVariants as v
use Rattle.ufl_form.specs.declared.table.FormKind.{FormKind}
use Rattle.ufl_form.specs.Reading.{form_of}
use Rattle.ufl_form.specs.Building.{formed, derived, BuildersKeep}
use Rattle.ufl_form.specs.Table.{AreTyped, form_kind, form_cell, element_of}

abbrev pub IsOnForm : Table → FormTerm → Function → Type 0
IsOnForm table f g = IsOn table (form_cell f) g

unfoldable pub FormFits : Table → FormTerm → Type 0
FormFits table = EachPart (FitsTable table) (IsOnForm table)

-- the tree of a form fits
abbrev pub Fits : Table → FormTree → Type 0
Fits table t = FormFits table (form_of t)

-- what the builders give fits each table that their operands fit
pub record BuildersFit (table : Table) : Type 0 where
  pub of_action : (f : FormTree) (last : Role) (g : Function) (t : FormTree) → formed (v.Action f last g) ≡ Ok t → AreTyped (form_of f) → Fits table f → Fits table t
  -- with the elements of this table
  pub of_derivative : (f : FormTree) (w du : Function) (t : FormTree) → derived table f w du ≡ Ok t → Fits table f → Fits table t
  -- with those of another one
  pub of_other_derivative : (f : FormTree) (w du : Function) (t : FormTree) → formed (v.Derivative f w du) ≡ Ok t → Fits table f → IsOnForm table (form_of f) w
      → Fits table t
  pub of_others : BuildersKeep (ExprFits table) (Fits table)
  -- what fits a table fits it with further elements too
  pub of_longer : (t : FormTree) (more : Table) → Fits table t → Fits (table ++ more) t

-- all functions of a form, and the elements of its arguments, are on its cell
pub record HasOneCell (table : Table) (f : FormTerm) (k : FormKind) : Type 0 where
  pub functions : EachPart (Each (IsOn table (Some k.cell))) (λ g h. IsOn table (Some k.cell) h) f
  pub arguments : (g : Function) → element_of g.role k.arguments ≡ Some g.element → IsOn table (Some k.cell) g
