-- A label determines a function on the whole mesh: what it is on each cell
use Rattle.std.specs.Prelude.{ℕ, ◌==◌, Bool, true, List, [], ◌∷◌, Option, None, Some, if◌then◌else◌}
use Rattle.calculus.specs.Polynomial.{Polynomial, nil}
use Rattle.calculus.specs.Simplex.{Simplex}
use Rattle.calculus.specs.LocalFunction.{label_function}
use Rattle.dofs.specs.Label.{Label}

-- a cell: its number in the mesh, its vertices, and where they are
pub record CellOf : Type 0 where
  pub number : ℕ
  pub vertices : List ℕ
  pub corners : Simplex

abbrev pub pairs : List ℕ → List ℕ → List (ℕ × ℕ)
pairs [] ws = []
pairs (v ∷ vs) [] = []
pairs (v ∷ vs) (w ∷ ws) = (v, w) ∷ pairs vs ws

-- a label without a cell lives on all of them
abbrev pub is_on : Option ℕ → ℕ → Bool
is_on None k = true
is_on (Some c) k = c == k

-- by Silvester's formula; 0 where the label has another cell, or a vertex that isn't the cell's
abbrev pub function_on : Label → CellOf → Polynomial
function_on l k = if is_on l.cell k.number then label_function (pairs l.vertices l.weights) k.vertices k.corners else nil

-- component i: only that of the label's own part isn't 0
abbrev pub basis_value : Label → CellOf → ℕ → Polynomial
basis_value l k i = if l.part == i then function_on l k else nil
