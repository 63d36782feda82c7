use Rattle.std.proofs.Common.{◌≡◌, drop}
use Rattle.ufl_expr.specs.Shapes.{rest_shape}
use Rattle.ufl_expr.proofs.shapes.rest_shape.Given as goal

abbrev pub invariant-loop-index : goal.invariant-loop-index
invariant-loop-index l = rest_shape l.at l.shape ≡ rest_shape (drop l.index-index l.at) l.left
