use Rattle.dofs.proofs.SupportLaws.{few_behind}
use Rattle.dofs.proofs.support.node_support.Goals as goal

pub with-found-requires : goal.with-found-requires
with-found-requires c =
    few_behind c.args.vertices.now c.args.weights c.vertices.i c.vertices.found c.requires.weights c.vertices-test.true c.if-weights-i-gt0.true c.vertices.invariant.found
