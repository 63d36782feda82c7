use Rattle.ufl_tree.specs.Reading.{kind_of}
use Rattle.std.proofs.Common.{arith}
use Rattle.passes.proofs.AboveLaws.{names_next}
use Rattle.passes.proofs.above.+names.Goals as goal

pub names_above-returns : goal.names_above-returns
names_above-returns t c = c.node_names.ensures (kind_of c.args.tree.now)

pub list_names-loop-tree-preserved : goal.list_names-loop-tree-preserved
list_names-loop-tree-preserved t c =
    names_next c.args.trees.now c.loop-tree.tree-index c.tree-item.result c.loop-tree.most c.names_above.result c.max-most.result c.loop-tree-test.true c.tree-item.is c.loop-tree.invariant c.names_above.ensures (omega arith)
