use Rattle.std.proofs.Common.{◌∙◌}
use Rattle.spaces.proofs.ReadingLaws.{space_of-Scalar, space_of-Vector, space_of-Tensor}
use Rattle.tree_values.proofs.PlaceLaws.{shape_in}
use Rattle.tree_values.proofs.PieceLaws.{place_mixed}
use Rattle.tree_values.proofs.ResultLaws.{ok_same}
use Rattle.tree_values.proofs.place.in_shape.Goals as goal

pub returns-in-Scalar : goal.returns-in-Scalar
returns-in-Scalar c = c.in_scalar.ensures ∙ shape_in c.args.tree.now _ _ c.args.at.now c.in-Scalar.is (space_of-Scalar _ _ _)

pub returns-in-Vector : goal.returns-in-Vector
returns-in-Vector c = c.in_vector.ensures ∙ shape_in c.args.tree.now _ _ c.args.at.now c.in-Vector.is (space_of-Vector _ _)

pub returns-in-Tensor : goal.returns-in-Tensor
returns-in-Tensor c = c.in_matrix.ensures ∙ shape_in c.args.tree.now _ _ c.args.at.now c.in-Tensor.is (space_of-Tensor _ _ _)

pub returns-in_ok-size-in-Mixed : goal.returns-in_ok-size-in-Mixed
returns-in_ok-size-in-Mixed c =
    ok_same c.in_list.result _ _ (place_mixed c.args.tree.now c.in-Mixed.parts c.as_slice.result.now c.in_ok-size-in-Mixed.size c.args.at.now c.in-Mixed.is c.as_slice.ensures c.in_ok-size-in-Mixed.ensures) c.in_list.ensures
