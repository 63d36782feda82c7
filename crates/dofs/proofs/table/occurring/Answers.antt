use Rattle.std.proofs.Common.{◌<◌, length, map, arith}
use Rattle.spaces.specs.Scalar.{scalar_of}
use Rattle.dofs.proofs.TableLaws.{keys_more}
use Rattle.dofs.proofs.table.occurring.Goals as goal

pub loop-k-preserved : goal.loop-k-preserved
loop-k-preserved c =
    let inside : c.loop-k.k < length c.args.mesh.now.cells = omega (arith, c.loop-k-test.true, c.cells-k-end.ensures) in
    keys_more c.args.mesh.now.kind c.kind-kind.result (map scalar_of c.args.parts.now) c.args.mesh.now.cells c.loop-k.k c.cell.result.vertices.now c.loop-k.keys.items c.push_local.new.keys.items _
    inside c.cell.ensures.vertices c.kind-kind.ensures.kind c.in_ok-push_local.ensures c.loop-k.invariant
