use Rattle.std.proofs.Common.{◌∙◌, [], ap, sym, arith}
use Rattle.std.proofs.lemmas.Option.{get_or_from_slice_get}
use Rattle.mesh_in.specs.MeshData.{fractions}
use Rattle.assembly.specs.Run.{coordinates_of}
use Rattle.assembly.proofs.GatherLaws.{coordinates_more, coordinates_end}
use Rattle.assembly.proofs.runs.gather_coordinates.Goals as goal

pub loop-vertex-preserved : goal.loop-vertex-preserved
loop-vertex-preserved c =
    coordinates_more c.args.mesh.now c.cell.result.vertices.now c.loop-vertex.vertex-index c.loop-vertex.x.items c.point.result.now c.extend_from_slice.new.self.items _ (omega arith)
    c.point.ensures.coordinates c.in_ok-extend_from_slice.ensures.items c.loop-vertex.invariant

pub returns : goal.returns
returns c =
    coordinates_end c.args.mesh.now c.cell.result.vertices.now c.loop-vertex.vertex-index c.loop-vertex.x.items _ (omega arith) c.loop-vertex.invariant
    ∙ ap (coordinates_of (fractions c.args.mesh.now)) (sym (get_or_from_slice_get c.args.mesh.now.cells c.args.k c.cell.result.vertices.now [] c.cell.ensures.vertices))
