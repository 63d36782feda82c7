use Rattle.spaces.specs.Reading.{spaces_in}
use Rattle.ufl_expr.proofs.PieceLaws.{counts_Scalar, counts_Vector, counts_Tensor, counts_Mixed, counting_start, counting_step, counting_end}
use Rattle.ufl_expr.proofs.pieces.+counts.Goals as goal

pub scalar_count-returns-in-Scalar : goal.scalar_count-returns-in-Scalar
scalar_count-returns-in-Scalar t c h = (counts_Scalar c.args.tree.now _ _ _ c.in-Scalar.is).count

pub scalar_count-returns-in-Vector : goal.scalar_count-returns-in-Vector
scalar_count-returns-in-Vector t c h = (counts_Vector c.args.tree.now c.in-Vector.part c.in-Vector.dim c.in-Vector.is h).count

pub scalar_count-returns-in-Tensor : goal.scalar_count-returns-in-Tensor
scalar_count-returns-in-Tensor t c h = (counts_Tensor c.args.tree.now c.in-Tensor.part c.in-Tensor.rows c.in-Tensor.cols c.in-Tensor.is h).count

pub scalar_count-returns-in-Mixed : goal.scalar_count-returns-in-Mixed
scalar_count-returns-in-Mixed t c h =
    (counts_Mixed c.args.tree.now c.in-Mixed.parts c.as_slice.result.now c.scalar_counts.result c.in-Mixed.is c.as_slice.ensures c.scalar_counts.ensures h).count

pub scalar_counts-loop-tree-init : goal.scalar_counts-loop-tree-init
scalar_counts-loop-tree-init t c = counting_start (spaces_in c.args.trees.now)

pub scalar_counts-loop-tree-preserved : goal.scalar_counts-loop-tree-preserved
scalar_counts-loop-tree-preserved t c =
    counting_step c.loop-tree.count c.scalar_count.result c.saturating_add-count.result c.args.trees.now c.loop-tree.tree-index c.tree-item.result (spaces_in c.args.trees.now)
    c.loop-tree-test.true c.tree-item.is c.scalar_count.ensures c.saturating_add-count.ensures c.loop-tree.invariant

pub scalar_counts-returns : goal.scalar_counts-returns
scalar_counts-returns t c = counting_end c.loop-tree.count c.loop-tree.tree-index c.args.trees.now (spaces_in c.args.trees.now) c.loop-tree-test.false c.loop-tree.invariant
