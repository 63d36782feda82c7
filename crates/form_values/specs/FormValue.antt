-- The values of a form on a mesh, one for each pair of global basis functions: sums over the cells of integrals in
-- physical coordinates. They are polynomials on each cell, put together from the functions of labels; no local node,
-- row of a cell or kernel is named
use Rattle.std.specs.Prelude.{◌≡◌, ◌≢◌, ℕ, suc, Bool, ◌&&◌, List, [], ◌∷◌, nat_lt, Option, None, Some, slice_get, if◌then◌else◌}
use Rattle.std.specs.List.{AllByRecursion}
use Rattle.algebra.specs.Fraction.{Fraction, zero_fraction, add}
use Rattle.calculus.specs.Integral.{integral_value}
use Rattle.calculus.specs.Polynomial.{Polynomial, nil, plus, times, constant, coordinate}
use Rattle.spaces.specs.Cell.{dimension}
use Rattle.dofs.specs.Basis.{CellOf, basis_value}
use Rattle.dofs.specs.Label.{Label}
use Rattle.ufl_tree.specs.declared.function.Role.{Role}
use Rattle.ufl_tree.specs.declared.function.Role.TheVariants.{Test, Trial, Position, Coefficient}
use Rattle.ufl_meaning.specs.Density.{density}
use Rattle.ufl_meaning.specs.Environment.{Environment}
use Rattle.assembly.specs.Sums.{Entry, AreOrdered, entry_at}
use Rattle.form_values.specs.Problem.{Problem, cell_of_mesh, labels_of, marker_of, row_count}

-- ---- the functions on a cell, by component
-- the basis function of a row
abbrev pub row_value : Option Label → CellOf → ℕ → Polynomial
row_value None k i = nil
row_value (Some l) k i = basis_value l k i

-- the sum over the rows of value times basis function; rows without a value count as 0
abbrev pub rows_value : List Label → List Fraction → CellOf → ℕ → Polynomial
rows_value [] xs k i = nil
rows_value (l ∷ ls) [] k i = nil
rows_value (l ∷ ls) (x ∷ xs) k i = plus (times (constant x) (basis_value l k i)) (rows_value ls xs k i)

-- the coordinates of space themselves
abbrev pub coordinate_value : ℕ → ℕ → Polynomial
coordinate_value d i = if nat_lt i d then coordinate i else nil

-- with row g of the test function and row h of the trial function
abbrev pub start_value : Problem → CellOf → ℕ → ℕ → Role → ℕ → Polynomial
start_value p k g h Test i = row_value (slice_get (labels_of p p.test) g) k i
start_value p k g h Trial i = row_value (slice_get (labels_of p p.trial) h) k i
start_value p k g h Position i = coordinate_value (dimension p.mesh.kind) i
start_value p k g h (Coefficient n) i = rows_value (labels_of p (slice_get p.coefficients n)) (p.values n) k i

-- no variable is moved, and no parameter is in use
abbrev pub start : Problem → CellOf → ℕ → ℕ → Environment
start p k g h = record {
  cell = k.corners;
  marker = marker_of p.mesh k.number;
  value = start_value p k g h;
  offset = λ l b. nil;
  used = 0;
}

-- ---- the values
-- the integral over one cell
abbrev pub cell_value : Problem → ℕ → ℕ → CellOf → Fraction
cell_value p g h k = integral_value k.corners (density p.elements p.form (start p k g h))

-- there are such rows
abbrev pub is_in_range : Problem → ℕ → ℕ → Bool
is_in_range p g h = nat_lt g (row_count p p.test) && nat_lt h (row_count p p.trial)

-- what one cell adds
unfoldable pub share_value : Problem → ℕ → ℕ → CellOf → Fraction
share_value p g h k = if is_in_range p g h then cell_value p g h k else zero_fraction

-- the sum over the cells from number n on
abbrev pub cells_value : Problem → ℕ → ℕ → ℕ → List (List ℕ) → Fraction
cells_value p g h n [] = zero_fraction
cells_value p g h n (vertices ∷ cells) =
    add (cell_value p g h (cell_of_mesh p.mesh n vertices)) (cells_value p g h (suc n) cells)

-- 0 beyond the last row or column
unfoldable pub form_value : Problem → ℕ → ℕ → Fraction
form_value p g h = if is_in_range p g h then cells_value p g h 0 p.mesh.cells else zero_fraction

-- all values that are not 0, by row and then by column
pub record AreTriples (p : Problem) (triples : List Entry) : Type 0 where
  pub ordered : AreOrdered triples
  pub nonzero : AllByRecursion (λ e. e.value ≢ zero_fraction) triples
  pub exact : (row col : ℕ) → entry_at triples row col ≡ form_value p row col

-- the same of what one cell adds
pub record AreCellTriples (p : Problem) (k : CellOf) (triples : List Entry) : Type 0 where
  pub ordered : AreOrdered triples
  pub nonzero : AllByRecursion (λ e. e.value ≢ zero_fraction) triples
  pub exact : (row col : ℕ) → entry_at triples row col ≡ share_value p row col k
