-- Forms in which each coefficient has one element: that of its number in a list
use Rattle.std.specs.Prelude.{◌≡◌, ℕ, List, ◌++◌, Ok}
use Rattle.ufl_tree.specs.declared.function.Function.{Function}
use Rattle.ufl_tree.specs.declared.function.Role.{Role}
use Rattle.ufl_tree.specs.FormTerm.{FormTerm}
use Rattle.ufl_tree.specs.Functions.{EachPart}
use Rattle.ufl_expr.specs.Numbered.{HasItsElement, IsNumbered, Numbered as ExprNumbered}
use Rattle.ufl_form.specs.declared.form_tree.FormTree.{FormTree}
use Rattle.ufl_form.specs.declared.form_tree.FormTree.TheVariants as v
use Rattle.ufl_form.specs.Reading.{form_of}
use Rattle.ufl_form.specs.Building.{formed, BuildersKeep}

-- in the integrands, and where an action or a derivative names functions
unfoldable pub FormIsNumbered : List ℕ → FormTerm → Type 0
FormIsNumbered numbers = EachPart (IsNumbered numbers) (λ f g. HasItsElement numbers g)

-- the tree of a form is numbered
abbrev pub Numbered : List ℕ → FormTree → Type 0
Numbered numbers t = FormIsNumbered numbers (form_of t)

-- what the builders give is numbered by each list that numbers their operands
pub record BuildersNumber (numbers : List ℕ) : Type 0 where
  pub of_action : (f : FormTree) (last : Role) (g : Function) (t : FormTree) → formed (v.Action f last g) ≡ Ok t → Numbered numbers f → HasItsElement numbers g
      → Numbered numbers t
  pub of_derivative : (f : FormTree) (w du : Function) (t : FormTree) → formed (v.Derivative f w du) ≡ Ok t → Numbered numbers f → HasItsElement numbers w
      → HasItsElement numbers du → Numbered numbers t
  pub of_others : BuildersKeep (ExprNumbered numbers) (Numbered numbers)
  -- by a longer list too
  pub of_longer : (t : FormTree) (more : List ℕ) → Numbered numbers t → Numbered (numbers ++ more) t
