use Rattle.std.proofs.Common.{◌≡◌, ◌*◌, List, length, []}
use Rattle.std.specs.List.{AllByRecursion}
use Rattle.algebra.specs.Fraction.{Fraction}
use Rattle.mesh_in.specs.CellLine.{cell_size, IsCellLine}
use Rattle.mesh_in.specs.MeshData.{rows}
use Rattle.mesh_in.specs.MeshText.{begun}
use Rattle.mesh_in.specs.Reader.{remaining}
use Rattle.mesh_in.proofs.read.read_cells.Given as goal

abbrev pub invariant-cells : goal.invariant-cells
invariant-cells l = record {
  fit : length l.numbers.items ≡ l.counter * cell_size l.header;
  cells : AllByRecursion (IsCellLine l.header) (rows (cell_size l.header) l.counter l.numbers.items);
  goes_on : (points : List (List Fraction)) → length points ≡ l.header.vertices → remaining l.fn.lines (begun l.header points []) ≡ remaining l.lines (begun l.header points (rows (cell_size l.header) l.counter l.numbers.items));
}
