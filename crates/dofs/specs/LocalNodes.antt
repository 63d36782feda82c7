-- The local nodes of a space, their labels and their rows
use Rattle.std.specs.Prelude.{◌≡◌, ◌⊎◌, ℕ, zero, suc, List, [], ◌∷◌, ◌++◌, map, slice_get, Some}
use Rattle.spaces.specs.declared.cell.Cell.{Cell}
use Rattle.spaces.specs.declared.family.Family.{Family}
use Rattle.spaces.specs.declared.family.Family.TheVariants.{Real}
use Rattle.spaces.specs.Scalar.{Scalar}
use Rattle.spaces.specs.Space.{Space, scalars}
use Rattle.spaces.specs.Nodes.{nodes_of}
use Rattle.mesh_in.specs.MeshData.{MeshData}
use Rattle.dofs.specs.Label.{Label, node_label}
use Rattle.dofs.specs.Rows.{Numbering, constant_label}

-- the number and the family of its part, and its weight at each vertex of the cell
pub record LocalNode : Type 0 where
  pub part : ℕ
  pub family : Family
  pub weights : List ℕ

abbrev pub node_of : ℕ → Family → List ℕ → LocalNode
node_of part family weights = record { part = part; family = family; weights = weights }

-- of the parts from this one on
abbrev pub nodes_from : Cell → ℕ → List Scalar → List LocalNode
nodes_from kind part [] = []
nodes_from kind part (s ∷ ss) = map (node_of part s.family) (nodes_of kind s.degree) ++ nodes_from kind (suc part) ss

-- parts in order, nodes in order
abbrev pub local_nodes : Cell → Space → List LocalNode
local_nodes kind s = nodes_from kind zero (scalars s)

-- its label on cell k with these vertices
abbrev pub label_on : ℕ → List ℕ → LocalNode → Label
label_on k vertices node = node_label node.part node.family k vertices node.weights

-- a local node of some cell has the label
pub record IsOfNode {A : Type 0} (m : MeshData A) (s : Space) (l : Label) : Type 0 where
  pub cell : ℕ
  pub vertices : List ℕ
  pub number : ℕ
  pub node : LocalNode
  pub is_cell : slice_get m.cells cell ≡ Some vertices
  pub is_node : slice_get (local_nodes m.kind s) number ≡ Some node
  pub label : l ≡ label_on cell vertices node

-- it is that of a part which is one number for the whole mesh
pub record IsConstant (s : Space) (l : Label) : Type 0 where
  pub part : ℕ
  pub scalar : Scalar
  pub is_part : slice_get (scalars s) part ≡ Some scalar
  pub is_real : scalar.family ≡ Real
  pub label : l ≡ constant_label part

abbrev pub Occurs : {A : Type 0} → MeshData A → Space → Label → Type 0
Occurs m s l = IsOfNode m s l ⊎ IsConstant s l

-- local node a of cell k has a row, and this is the row's label
pub record HasRow (n : Numbering) (k a : ℕ) (l : Label) : Type 0 where
  pub rows : List ℕ
  pub row : ℕ
  pub of_cell : slice_get n.cells k ≡ Some rows
  pub of_node : slice_get rows a ≡ Some row
  pub label : slice_get n.labels row ≡ Some l
