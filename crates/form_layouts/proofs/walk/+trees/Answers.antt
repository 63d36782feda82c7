use Rattle.std.proofs.Common.{sym}
use Rattle.ufl_tree.specs.Reading.{kind_of}
use Rattle.form_layouts.proofs.WalkLaws.{next_tree, last_tree}
use Rattle.form_layouts.proofs.walk.+trees.Goals as goal

pub mark_tree-returns : goal.mark_tree-returns
mark_tree-returns t c = c.mark_node.ensures (kind_of c.args.tree.now)

pub mark_all-loop-tree-preserved : goal.mark_all-loop-tree-preserved
mark_all-loop-tree-preserved t c =
    next_tree c.args.trees.now c.loop-tree.tree-index c.tree-item.result _ c.loop-tree.marks c.mark_tree.new.marks c.loop-tree-test.true c.tree-item.is c.mark_tree.ensures
    c.loop-tree.invariant

pub mark_all-returns : goal.mark_all-returns
mark_all-returns t c = sym (last_tree c.args.trees.now c.loop-tree.tree-index _ c.loop-tree.marks c.loop-tree-test.false c.loop-tree.invariant)
