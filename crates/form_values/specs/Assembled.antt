-- An assembly of a form
use Rattle.std.specs.Prelude.{◌≡◌, ℕ, length, Option, None, Some}
use Rattle.spaces.specs.Space.{Space}
use Rattle.dofs.specs.Rows.{Numbering, numbering}
use Rattle.assembly.specs.Assembly.{Assembly, cell_count}
use Rattle.form_values.specs.Problem.{Problem, space_in}

-- the numbering of an element, if there is one
abbrev pub numbering_of : Problem → Option Space → Option Numbering
numbering_of p None = None
numbering_of p (Some s) = Some (numbering p.mesh s)

-- that of an argument, where the form has it
abbrev pub argument_numbering : Problem → Option ℕ → Option Numbering
argument_numbering p e = numbering_of p (space_in p e)

-- on the cells of the mesh, with the rows of the test function and those of the trial function
pub record IsAssemblyOf (p : Problem) (s : Assembly) : Type 0 where
  pub cells : cell_count s.runs ≡ length p.mesh.cells
  pub rows : s.rows ≡ argument_numbering p p.test
  pub cols : s.cols ≡ argument_numbering p p.trial
