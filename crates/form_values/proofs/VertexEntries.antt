-- The shares of the mass form's cells at the rows of their vertices
use Rattle.std.proofs.Common.{ℕ, List, map}
use Rattle.std.specs.List.{flat_map}
use Rattle.algebra.specs.Fraction.{Fraction}
use Rattle.kernel.specs.MassShare.{mass_shares}
use Rattle.mesh_in.specs.MeshData.{MeshData}
use Rattle.assembly.specs.Sums.{Entry}
use Rattle.assembly.specs.Local.{local_entries}
use Rattle.form_values.specs.MassMatrix.{end_of}
use Rattle.form_values.proofs.RowLaws.{row_of}

abbrev pub vertex_entries_on : MeshData Fraction → Fraction → List ℕ → List Entry
vertex_entries_on m c cell = local_entries (map (row_of m.cells) cell) (map (row_of m.cells) cell) (mass_shares c (end_of m cell 0) (end_of m cell 1))

-- cell by cell
abbrev pub vertex_entries : MeshData Fraction → Fraction → List Entry
vertex_entries m c = flat_map (vertex_entries_on m c) m.cells
