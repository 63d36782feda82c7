-- Expressions that fit a table of elements: each function in them has the shape and the cell that the table says
use Rattle.std.specs.Prelude.{◌≡◌, ℕ, ◌++◌, Ok}
use Rattle.spaces.specs.declared.cell.Cell.{Cell}
use Rattle.ufl_tree.specs.declared.function.Function.{Function}
use Rattle.ufl_tree.specs.declared.tree.Tree.{Tree}
use Rattle.ufl_tree.specs.declared.tree.Node.TheVariants as v
use Rattle.ufl_tree.specs.Places.{Table}
use Rattle.ufl_tree.specs.Typed.{Typed}
use Rattle.ufl_tree.specs.Reading.{typed_of}
use Rattle.ufl_tree.specs.Functions.{EachFunction}
use Rattle.ufl_expr.specs.Elements.{position_space, number_of, function_in, piece_in}
use Rattle.ufl_expr.specs.Building.{built, positioned, BuildersKeep}

unfoldable pub FitsTable : Table → Typed → Type 0
FitsTable table = EachFunction (λ k f. function_in table f ≡ Ok k) (λ k f n. piece_in table f n ≡ Ok k)

-- the tree of an expression fits
abbrev pub Fits : Table → Tree → Type 0
Fits table t = FitsTable table (typed_of t)

-- a function fits the table that it was made by, and what the other builders give fits each table that their operands fit
pub record BuildersFit (table : Table) : Type 0 where
  pub of_function : (f : Function) (t : Tree) → built (function_in table f) (v.Fun f) ≡ Ok t → Fits table t
  pub of_position : (c : Cell) (t : Tree) → positioned c (number_of (position_space c) table) ≡ Ok t → Fits table t
  pub of_piece : (f : Function) (n : ℕ) (t : Tree) → built (piece_in table f n) (v.Piece f n) ≡ Ok t → Fits table t
  pub of_others : BuildersKeep (Fits table)
  -- what fits a table fits it with further elements too
  pub of_longer : (t : Tree) (more : Table) → Fits table t → Fits (table ++ more) t
