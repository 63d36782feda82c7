use Rattle.std.proofs.Common.{◌≡◌, ◌++◌, drop}
use Rattle.c_unit.specs.Meaning.{fractions_of}
use Rattle.mesh_in.specs.MeshData.{fractions}
use Rattle.assembly.specs.Run.{coordinates_of}
use Rattle.assembly.proofs.runs.gather_coordinates.Given as goal

-- what is gathered and the coordinates of the vertices that are left are all
abbrev pub invariant-loop-vertex : goal.invariant-loop-vertex
invariant-loop-vertex l = fractions_of l.x.items ++ coordinates_of (fractions l.mesh) (drop l.vertex-index l.vertices) ≡ coordinates_of (fractions l.mesh) l.vertices
