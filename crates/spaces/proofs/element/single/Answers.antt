use Rattle.spaces.proofs.SpaceLaws.{single_Scalar, single_degree, other_Vector, other_Tensor, other_Mixed}
use Rattle.spaces.proofs.element.single.Goals as goal

pub node_count-requires : goal.node_count-requires
node_count-requires c = single_degree _ _ _ _ _ c.in-Scalar.is c.tree.ensures.same c.tree.ensures.lawful

pub returns-in-Scalar : goal.returns-in-Scalar
returns-in-Scalar c = single_Scalar _ _ _ _ _ _ c.in-Scalar.is c.tree.ensures.same c.tree.ensures.lawful c.node_count.ensures

pub returns-in-Vector : goal.returns-in-Vector
returns-in-Vector c = other_Vector _ _ _ _ c.in-Vector.is c.tree.ensures.same

pub returns-in-Tensor : goal.returns-in-Tensor
returns-in-Tensor c = other_Tensor _ _ _ _ _ c.in-Tensor.is c.tree.ensures.same

pub returns-in-Mixed : goal.returns-in-Mixed
returns-in-Mixed c = other_Mixed _ _ _ c.in-Mixed.is c.tree.ensures.same
