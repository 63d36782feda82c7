-- The numbers in the line of a cell: its vertices, and in version 2 its marker
use Rattle.std.specs.Prelude.{◌≡◌, ℕ, ◌+◌, List, length, take, slice_index}
use Rattle.spaces.specs.Cell.{dimension}
use Rattle.spaces.specs.declared.cell.Cell.{Cell}
use Rattle.mesh_in.specs.declared.header.Header.{Header}
use Rattle.mesh_in.specs.MeshData.{IsCell}
use Rattle.mesh_in.specs.Version.{marker_count}

-- how many there are
abbrev pub cell_size : Header → ℕ
cell_size h = dimension h.kind + 1 + marker_count h.version

-- the first of them
abbrev pub vertices_in : Cell → List ℕ → List ℕ
vertices_in kind numbers = take (dimension kind + 1) numbers

-- the one behind them, and 0 where none is
abbrev pub marker_in : Cell → List ℕ → ℕ
marker_in kind numbers = slice_index numbers (dimension kind + 1)

-- just so many, and the vertices are those of a cell
pub record IsCellLine (h : Header) (numbers : List ℕ) : Type 0 where
  pub size : length numbers ≡ cell_size h
  pub cell : IsCell (dimension h.kind) h.vertices (vertices_in h.kind numbers)
