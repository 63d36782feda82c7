-- Forms that obey the table of forms, fit a table of elements and are numbered by a list
use Rattle.std.specs.Prelude.{ℕ, List, [], ◌∷◌}
use Rattle.ufl_tree.specs.declared.tree.Tree.{Tree}
use Rattle.ufl_tree.specs.Places.{Table, table_of}
use Rattle.ufl_tree.specs.Reading.{typed_of}
use Rattle.ufl_expr.specs.Table.{IsTyped}
use Rattle.ufl_expr.specs.Fits.{Fits as ExprFits}
use Rattle.ufl_expr.specs.Numbered.{Numbered as ExprNumbered}
use Rattle.ufl_form.specs.declared.form_tree.FormTree.{FormTree}
use Rattle.ufl_form.specs.Reading.{form_of}
use Rattle.ufl_form.specs.Table.{AreTyped}
use Rattle.ufl_form.specs.Fits.{Fits}
use Rattle.ufl_form.specs.Numbered.{Numbered}
use Rattle.ufl_elab.specs.declared.program.Named.{Named}
use Rattle.ufl_elab.specs.declared.program.UflProgram.{UflProgram}

-- an expression whose functions have the shapes and cells that the table says, and whose coefficients have the elements
-- of the list
pub record SoundTree (table : Table) (numbers : List ℕ) (t : Tree) : Type 0 where
  pub typed : IsTyped (typed_of t)
  pub fits : ExprFits table t
  pub numbered : ExprNumbered numbers t

pub record SoundForm (table : Table) (numbers : List ℕ) (t : FormTree) : Type 0 where
  pub typed : AreTyped (form_of t)
  pub fits : Fits table t
  pub numbered : Numbered numbers t

abbrev pub AreSound : Table → List ℕ → List Named → Type 0
AreSound table numbers [] = Unit {0}
AreSound table numbers (x ∷ xs) = SoundForm table numbers x.form × AreSound table numbers xs

-- each exported form is sound in the program's table of elements, with the elements of its coefficients
abbrev pub IsSound : UflProgram → Type 0
IsSound p = AreSound (table_of p.elements) p.coefficients p.forms
