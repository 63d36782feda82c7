-- The values of the form `c*u*v*dx` for hat functions on intervals, the continuous functions of degree one: by
-- vertices, without elements, labels or trees. That the values of the form's problem are these is a law
--
-- A row or column is the place of a vertex among those that occur in some cell, by rising number. Its hat function is
-- on each cell the local function of that vertex, by Silvester's formula, and 0 on the cells that don't have it. A
-- value is the sum over all cells of the integral of c times the product of the two hat functions, in physical
-- coordinates.
use Rattle.std.specs.Prelude.{ℕ, zero, suc, ◌==◌, Bool, List, [], ◌∷◌, ◌++◌, length, map, slice_get, Option, None, Some, if◌then◌else◌}
use Rattle.std.specs.List.{list_any}
use Rattle.algebra.specs.Fraction.{Fraction}
use Rattle.algebra.specs.Sums.{total}
use Rattle.calculus.specs.Polynomial.{Polynomial, nil, times, constant}
use Rattle.calculus.specs.Integral.{integral_value}
use Rattle.calculus.specs.LocalFunction.{local_function}
use Rattle.mesh_in.specs.MeshData.{MeshData}
use Rattle.form_values.specs.Problem.{corners_of}

-- a cell has the vertex
abbrev pub has_vertex : ℕ → List ℕ → Bool
has_vertex v cell = list_any (λ w. w == v) cell

-- some cell has it
abbrev pub occurs : List (List ℕ) → ℕ → Bool
occurs cells v = list_any (has_vertex v) cells

-- the vertices below a number that occur
unfoldable pub rows_below : List (List ℕ) → ℕ → List ℕ
rows_below cells zero = []
rows_below cells (suc v) = rows_below cells v ++ (if occurs cells v then v ∷ [] else [])

-- the vertices that occur in some cell, by rising number: number r is that of row r
abbrev pub row_vertices : MeshData Fraction → List ℕ
row_vertices m = rows_below m.cells (length m.points)

-- the weights of the node of degree one at a vertex: 1 there and 0 at the other corners
abbrev pub weights_at : ℕ → List ℕ → List ℕ
weights_at v [] = []
weights_at v (w ∷ ws) = (if w == v then 1 else 0) ∷ weights_at v ws

-- the hat function of a vertex on a cell
abbrev pub hat_function : MeshData Fraction → ℕ → List ℕ → Polynomial
hat_function m v cell = if has_vertex v cell then local_function (corners_of m cell) (weights_at v cell) else nil

-- that of a row, or of a column
abbrev pub hat_of_row : MeshData Fraction → Option ℕ → List ℕ → Polynomial
hat_of_row m None cell = nil
hat_of_row m (Some v) cell = hat_function m v cell

-- c times the trial function of the column and the test function of the row
abbrev pub hat_density : MeshData Fraction → Fraction → Option ℕ → Option ℕ → List ℕ → Polynomial
hat_density m c row col cell = times (constant c) (times (hat_of_row m col cell) (hat_of_row m row cell))

-- the sum over all cells of the integral
abbrev pub hat_value_over : MeshData Fraction → Fraction → Option ℕ → Option ℕ → List (List ℕ) → Fraction
hat_value_over m c row col cells =
    total (map (λ cell. integral_value (corners_of m cell) (hat_density m c row col cell)) cells)

-- the form's value at a row and a column, 0 beyond the last ones
unfoldable pub hat_value : MeshData Fraction → Fraction → ℕ → ℕ → Fraction
hat_value m c row col = hat_value_over m c (slice_get (row_vertices m) row) (slice_get (row_vertices m) col) m.cells
