use Rattle.tree_values.proofs.PieceLaws.{piece_scalar, piece_vector, piece_tensor, piece_mixed}
use Rattle.tree_values.proofs.ResultLaws.{ok_same}
use Rattle.tree_values.proofs.place.in_mixed.Goals as goal

pub returns-in-Mixed : goal.returns-in-Mixed
returns-in-Mixed c =
    ok_same c.in_parts.result _ _ (piece_mixed c.args.tree.now c.in-Mixed.parts c.as_slice.result.now c.args.which c.args.at.now c.in-Mixed.is c.as_slice.ensures) c.in_parts.ensures

pub returns-in-Scalar : goal.returns-in-Scalar
returns-in-Scalar c = piece_scalar c.args.tree.now c.in-Scalar.family c.in-Scalar.cell c.in-Scalar.degree c.args.which c.args.at.now c.in-Scalar.is

pub returns-in-Vector : goal.returns-in-Vector
returns-in-Vector c = piece_vector c.args.tree.now c.in-Vector.part c.in-Vector.dim c.args.which c.args.at.now c.in-Vector.is

pub returns-in-Tensor : goal.returns-in-Tensor
returns-in-Tensor c = piece_tensor c.args.tree.now c.in-Tensor.part c.in-Tensor.rows c.in-Tensor.cols c.args.which c.args.at.now c.in-Tensor.is
