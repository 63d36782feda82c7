-- The rows of an element on a mesh: the labels that occur, in order. A row number is a place in this list
use Rattle.std.specs.Prelude.{ℕ, zero, suc, List, [], ◌∷◌, ◌++◌, map, None}
use Rattle.spaces.specs.declared.cell.Cell.{Cell}
use Rattle.spaces.specs.declared.family.Family.{Family}
use Rattle.spaces.specs.declared.family.Family.TheVariants.{Lagrange, Dg, Real}
use Rattle.spaces.specs.Scalar.{Scalar}
use Rattle.spaces.specs.Space.{Space, scalars}
use Rattle.spaces.specs.Nodes.{nodes_of}
use Rattle.mesh_in.specs.MeshData.{MeshData}
use Rattle.dofs.specs.Label.{Label, node_label}
use Rattle.dofs.specs.Order.{label_cmp, sorted_set, place}

-- of the local nodes of one part on cell k, in their order
abbrev pub part_labels : Cell → ℕ → Scalar → ℕ → List ℕ → List Label
part_labels kind part s k vertices = map (node_label part s.family k vertices) (nodes_of kind s.degree)

-- of all parts from this one on
abbrev pub local_labels : Cell → ℕ → List Scalar → ℕ → List ℕ → List Label
local_labels kind part [] k vertices = []
local_labels kind part (s ∷ ss) k vertices = part_labels kind part s k vertices ++ local_labels kind (suc part) ss k vertices

-- of all cells from cell k on
abbrev pub labels_from : Cell → List Scalar → ℕ → List (List ℕ) → List Label
labels_from kind ss k [] = []
labels_from kind ss k (vertices ∷ cells) = local_labels kind zero ss k vertices ++ labels_from kind ss (suc k) cells

abbrev pub constant_label : ℕ → Label
constant_label part = record { part = part; cell = None; vertices = []; weights = [] }

abbrev pub constant : ℕ → Family → List Label
constant part Lagrange = []
constant part Dg = []
constant part Real = constant_label part ∷ []

-- one number for the whole mesh, with or without cells
abbrev pub constants : ℕ → List Scalar → List Label
constants part [] = []
constants part (s ∷ ss) = constant part s.family ++ constants (suc part) ss

-- the labels that there are, in any order and as often as they occur
abbrev pub occurring : Cell → List Scalar → List (List ℕ) → List Label
occurring kind ss cells = constants zero ss ++ labels_from kind ss zero cells

abbrev pub rows_of : Cell → List Scalar → List (List ℕ) → List Label
rows_of kind ss cells = sorted_set label_cmp (occurring kind ss cells)

-- the row numbers of the local nodes of each cell from cell k on
abbrev pub cell_rows : Cell → List Scalar → List Label → ℕ → List (List ℕ) → List (List ℕ)
cell_rows kind ss labels k [] = []
cell_rows kind ss labels k (vertices ∷ cells) = map (λ l. place label_cmp l labels) (local_labels kind zero ss k vertices) ∷ cell_rows kind ss labels (suc k) cells

pub record Numbering : Type 0 where
  -- by row
  pub labels : List Label
  -- the rows of the local nodes of each cell: parts in order, nodes in order
  pub cells : List (List ℕ)

unfoldable pub numbering : {A : Type 0} → MeshData A → Space → Numbering
numbering m s = record {
  labels = rows_of m.kind (scalars s) m.cells;
  cells = cell_rows m.kind (scalars s) (rows_of m.kind (scalars s) m.cells) zero m.cells;
}
