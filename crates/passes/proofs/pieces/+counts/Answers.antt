use Rattle.std.proofs.Common.{◌∙◌, ap, ◌*◌}
use Rattle.passes.proofs.ResultLaws.{ok_same}
use Rattle.passes.proofs.PieceLaws.{count_scalar, count_vector, count_tensor, count_mixed, count_next}
use Rattle.passes.proofs.pieces.+counts.Goals as goal

pub count-returns-in-Scalar : goal.count-returns-in-Scalar
count-returns-in-Scalar t c = count_scalar c.args.tree.now c.in-Scalar.family c.in-Scalar.cell c.in-Scalar.degree c.in-Scalar.is

pub count-returns-in_ok-one-in-Vector : goal.count-returns-in_ok-one-in-Vector
count-returns-in_ok-one-in-Vector t c =
    ok_same c.product.result _ _
    (ap (λ m. c.in-Vector.dim * m) c.in_ok-one-in-Vector.ensures ∙ count_vector c.args.tree.now c.in-Vector.part c.get.result.now c.in-Vector.dim c.in-Vector.is c.get.ensures)
    c.product.ensures

pub count-returns-in_ok-one-in-Tensor : goal.count-returns-in_ok-one-in-Tensor
count-returns-in_ok-one-in-Tensor t c =
    ok_same c.product-in-Tensor.result _ _
    (ap (λ m. (c.in-Tensor.rows * c.in-Tensor.cols) * m) c.in_ok-one-in-Tensor.ensures
    ∙ count_tensor c.args.tree.now c.in-Tensor.part c.get-in-Tensor.result.now c.in-Tensor.rows c.in-Tensor.cols c.in-Tensor.is c.get-in-Tensor.ensures)
    c.product-in-Tensor.ensures

pub count-returns-in-Mixed : goal.count-returns-in-Mixed
count-returns-in-Mixed t c = ok_same c.count_all.result _ _ (count_mixed c.args.tree.now c.in-Mixed.parts c.as_slice.result.now c.in-Mixed.is c.as_slice.ensures) c.count_all.ensures

pub count_all-loop-part-preserved : goal.count_all-loop-part-preserved
count_all-loop-part-preserved t c =
    count_next c.args.parts.now c.loop-part.part-index c.part-item.result c.loop-part.total c.in_ok-total.total c.in_ok-count.field-0 c.loop-part-test.true c.part-item.is c.loop-part.invariant c.in_ok-count.ensures
    c.in_ok-total.ensures
