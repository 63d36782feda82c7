-- The shares of the cells of a mesh at their rows and columns
use Rattle.std.specs.Prelude.{◌≡◌, ℕ, suc, true, false, List, [], ◌∷◌, ◌++◌}
use Rattle.algebra.specs.Fraction.{Fraction, is_zero_fraction}
use Rattle.calculus.specs.Polynomial.{Polynomial}
use Rattle.calculus.specs.Simplex.{volume}
use Rattle.dofs.specs.Basis.{CellOf}
use Rattle.refint.specs.Local.{local_shares}
use Rattle.ufl_meaning.specs.Density.{density}
use Rattle.ufl_meaning.specs.Environment.{Environment}
use Rattle.assembly.specs.Sums.{Entry}
use Rattle.assembly.specs.Local.{local_entries}
use Rattle.form_values.specs.CellLayout.{Occurring, argument_rows, values_on, layout_of}
use Rattle.form_values.specs.Problem.{Problem, IsIn, cell_of_mesh, marker_of}

-- the density on cells with this marker: what the kernel of these cells integrates
abbrev pub density_on : Problem → ℕ → Environment → Polynomial
density_on p marker env = density p.elements p.form (record env { marker = marker })

-- the integrals of a cell by local nodes, row by row
abbrev pub shares_on : Problem → Occurring → CellOf → List Fraction
shares_on p o k =
    local_shares (density_on p (marker_of p.mesh k.number)) (layout_of p o) k.corners (values_on p o.coefficients k)

-- a local tensor, row by row, at the rows and columns of the cell
abbrev pub cell_entries : Problem → (CellOf → List Fraction) → CellOf → List Entry
cell_entries p tensor k = local_entries (argument_rows p p.test k) (argument_rows p p.trial k) (tensor k)

-- of all cells from number n on
abbrev pub entries_from : Problem → (CellOf → List Fraction) → ℕ → List (List ℕ) → List Entry
entries_from p tensor n [] = []
entries_from p tensor n (vertices ∷ cells) =
    cell_entries p tensor (cell_of_mesh p.mesh n vertices) ++ entries_from p tensor (suc n) cells

abbrev pub tensor_entries : Problem → (CellOf → List Fraction) → List Entry
tensor_entries p tensor = entries_from p tensor 0 p.mesh.cells

-- where the position occurs, the cell isn't flat: its values at the vertices then give the coordinates
abbrev pub IsWhole : Occurring → CellOf → Type 0
IsWhole o k = o.position ≡ true → is_zero_fraction (volume k.corners) ≡ false

-- the local tensor of a cell is its shares
pub record HasShares (p : Problem) (o : Occurring) (tensor : CellOf → List Fraction) (k : CellOf) : Type 0 where
  pub whole : IsWhole o k
  pub shares : tensor k ≡ shares_on p o k

-- that of each cell
abbrev pub HaveShares : Problem → Occurring → (CellOf → List Fraction) → Type 0
HaveShares p o tensor = (k : CellOf) → IsIn k p → HasShares p o tensor k
