-- The numbers in the line of a cell
use Rattle.std.proofs.Common.{◌≡◌, ℕ, ◌+◌, true, List, length, arith}
use Rattle.std.proofs.lemmas.List.{length-take-le}
use Rattle.spaces.specs.Cell.{dimension}
use Rattle.mesh_in.specs.declared.header.Header.{Header}
use Rattle.mesh_in.specs.CellLine.{cell_size, vertices_in, IsCellLine}
use Rattle.mesh_in.specs.MeshData.{are_below, is_distinct}

-- there are as many vertices as a cell has
pub length-vertices : (h : Header) (numbers : List ℕ) → length numbers ≡ cell_size h → length (vertices_in h.kind numbers) ≡ dimension h.kind + 1
length-vertices h numbers size = length-take-le (dimension h.kind + 1) numbers (omega arith)

pub line_of_cell : (h : Header) (numbers : List ℕ) → length numbers ≡ cell_size h → are_below h.vertices (vertices_in h.kind numbers) ≡ true → is_distinct (vertices_in h.kind numbers) ≡ true → IsCellLine h numbers
line_of_cell h numbers size below distinct = record { size = size; cell = record { size = length-vertices h numbers size; in_range = below; distinct = distinct } }
