use Rattle.spaces.proofs.EqualityLaws.{same_vector, same_tensor, same_end}
use Rattle.spaces.proofs.equality.+same.Goals as goal

pub same_element-returns-then-dim-d : goal.same_element-returns-then-dim-d
same_element-returns-then-dim-d t c =
    same_vector c.args.tree.now c.args.other.now c.get.result.now c.get-then-dim-d.result.now _ _ _ _ _
    c.in-Vector.is c.in-Vector-other-2.is c.if-dim-d.true c.get.ensures c.get-then-dim-d.ensures c.same_element.ensures

pub same_element-returns-then-same : goal.same_element-returns-then-same
same_element-returns-then-same t c =
    same_tensor c.args.tree.now c.args.other.now c.get-then-same.result.now c.get-then-same-2.result.now _ _ _ _ _ _ _ _
    c.in-Tensor.is c.in-Tensor-other-3.is c.same_sizes-same.ensures c.if-same.true c.get-then-same.ensures c.get-then-same-2.ensures c.same_element-then-same.ensures

pub same_elements-returns : goal.same_elements-returns
same_elements-returns t c =
    same_end c.args.trees.now c.loop-tree.tree-index c.loop-tree.left.now _ _ c.loop-tree-test.false c.is_empty.ensures c.loop-tree.invariant
