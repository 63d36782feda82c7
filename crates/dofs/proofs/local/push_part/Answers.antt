use Rattle.std.proofs.Common.{◌++◌, ap, ◌∙◌}
use Rattle.spaces.specs.Scalar.{scalar_of}
use Rattle.dofs.proofs.LocalLaws.{table_sum, table_labels}
use Rattle.dofs.proofs.local.push_part.Goals as goal

pub node_support-requires-clause-weights : goal.node_support-requires-clause-weights
node_support-requires-clause-weights c =
    table_sum c.args.cell.kind c.args.part.degree c.loop-node.node-index c.weights-node-items.result.now c.requires.degree c.weights-node-items.ensures c.loop-node-test.true

pub returns : goal.returns
returns c =
    c.loop-node.invariant
    ∙ ap (λ ks. c.args.keys.now.items ++ ks)
    (table_labels c.args.cell.kind c.args.number (scalar_of c.args.part) c.args.cell.number c.loop-node.node-index c.args.cell.vertices.now c.weights-node-items.result.now c.requires.degree c.requires.vertices c.weights-node-items.ensures c.loop-node-test.false)
