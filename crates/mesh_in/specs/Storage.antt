-- A mesh as two lists, of all coordinates and of all numbers in the lines of cells
use Rattle.std.specs.Prelude.{◌≡◌, ℕ, ◌*◌, ◌≤◌, List, length}
use Rattle.std.specs.List.{AllByRecursion}
use Rattle.ratio.specs.declared.reduced.Ratio.{Ratio}
use Rattle.spaces.specs.Cell.{dimension}
use Rattle.mesh_in.specs.declared.header.Header.{Header}
use Rattle.mesh_in.specs.CellLine.{cell_size, IsCellLine}
use Rattle.mesh_in.specs.MeshData.{MeshData, rows, most}
use Rattle.mesh_in.specs.MeshText.{mesh_of}

abbrev pub stored : Header → List Ratio → List ℕ → MeshData Ratio
stored h coordinates numbers = mesh_of h.kind (rows (dimension h.kind) h.vertices coordinates) (rows (cell_size h) h.cells numbers)

pub record IsStored (h : Header) (coordinates : List Ratio) (numbers : List ℕ) : Type 0 where
  pub all_coordinates : length coordinates ≡ h.vertices * dimension h.kind
  pub all_numbers : length numbers ≡ h.cells * cell_size h
  pub few_vertices : h.vertices ≤ most
  pub few_cells : h.cells ≤ most
  pub all_cells : AllByRecursion (IsCellLine h) (rows (cell_size h) h.cells numbers)
