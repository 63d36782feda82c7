-- Expressions in which each coefficient has one element: that of its number in a list
use Rattle.std.specs.Prelude.{◌≡◌, ℕ, List, ◌++◌, Option, Some, Ok, slice_get}
use Rattle.spaces.specs.declared.cell.Cell.{Cell}
use Rattle.ufl_tree.specs.declared.function.Function.{Function}
use Rattle.ufl_tree.specs.declared.function.Role.{Role}
use Rattle.ufl_tree.specs.declared.function.Role.TheVariants.{Test, Trial, Position, Coefficient}
use Rattle.ufl_tree.specs.declared.tree.Tree.{Tree}
use Rattle.ufl_tree.specs.declared.tree.Node.TheVariants as v
use Rattle.ufl_tree.specs.Typed.{Typed}
use Rattle.ufl_tree.specs.Reading.{typed_of}
use Rattle.ufl_tree.specs.Functions.{Each}
use Rattle.ufl_expr.specs.Table.{Verdict}
use Rattle.ufl_expr.specs.Building.{built, positioned, BuildersKeep}

-- coefficient n has the element of number n; other roles have any
abbrev pub IsElementOf : List ℕ → Role → ℕ → Type 0
IsElementOf numbers Test e = Unit {0}
IsElementOf numbers Trial e = Unit {0}
IsElementOf numbers Position e = Unit {0}
IsElementOf numbers (Coefficient n) e = slice_get numbers n ≡ Some e

abbrev pub HasItsElement : List ℕ → Function → Type 0
HasItsElement numbers f = IsElementOf numbers f.role f.element

unfoldable pub IsNumbered : List ℕ → Typed → Type 0
IsNumbered numbers = Each (HasItsElement numbers)

-- the tree of an expression is numbered
abbrev pub Numbered : List ℕ → Tree → Type 0
Numbered numbers t = IsNumbered numbers (typed_of t)

-- a function is numbered where it has its element, and what the other builders give by each list that numbers their operands
pub record BuildersNumber (numbers : List ℕ) : Type 0 where
  pub of_function : (w : Verdict) (f : Function) (t : Tree) → built w (v.Fun f) ≡ Ok t → HasItsElement numbers f → Numbered numbers t
  pub of_position : (c : Cell) (n : Option ℕ) (t : Tree) → positioned c n ≡ Ok t → Numbered numbers t
  pub of_piece : (w : Verdict) (f : Function) (n : ℕ) (t : Tree) → built w (v.Piece f n) ≡ Ok t → HasItsElement numbers f → Numbered numbers t
  pub of_others : BuildersKeep (Numbered numbers)
  -- by a longer list too
  pub of_longer : (t : Tree) (more : List ℕ) → Numbered numbers t → Numbered (numbers ++ more) t
