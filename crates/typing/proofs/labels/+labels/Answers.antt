use Rattle.ufl_tree.specs.Reading.{kind_of}
use Rattle.typing.proofs.LabelLaws.{labels_next}
use Rattle.typing.proofs.labels.+labels.Goals as goal

pub tree_labels-returns : goal.tree_labels-returns
tree_labels-returns t c = c.node_labels.ensures (kind_of c.args.tree.now)

pub list_labels-loop-tree-preserved : goal.list_labels-loop-tree-preserved
list_labels-loop-tree-preserved t c =
    labels_next c.args.trees.now c.loop-tree.tree-index c.tree-item.result c.loop-tree-test.true c.tree-item.is c.loop-tree.invariant c.tree_labels.ensures
