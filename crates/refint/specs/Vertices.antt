-- The coordinates of space as functions with a value at each vertex of a cell
use Rattle.std.specs.Prelude.{ℕ, [], List, slice_index_or}
use Rattle.calculus.specs.Jacobian.{vertex_at}
use Rattle.calculus.specs.LocalFunction.{local_function}
use Rattle.calculus.specs.Polynomial.{Polynomial, times, constant}
use Rattle.calculus.specs.Simplex.{Simplex, dimension, along_axis}
use Rattle.spaces.specs.Nodes.{nodes_of}
use Rattle.refint.specs.Local.{cell_in}

-- the weights of the node of degree 1 at a vertex
abbrev pub vertex_node : ℕ → ℕ → List ℕ
vertex_node d j = slice_index_or (nodes_of (cell_in d) 1) j []

-- coordinate i of vertex j times the vertex's function
abbrev pub coordinate_part : Simplex → ℕ → ℕ → Polynomial
coordinate_part v i j = times (constant (along_axis i (vertex_at v j))) (local_function v (vertex_node (dimension v) j))
