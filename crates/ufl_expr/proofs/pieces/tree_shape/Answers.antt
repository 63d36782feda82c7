use Rattle.std.proofs.Common.{arith}
use Rattle.spaces.specs.Reading.{space_of}
use Rattle.ufl_expr.proofs.PieceLaws.{lawful_few}
use Rattle.ufl_expr.proofs.pieces.tree_shape.Goals as goal

pub overflow_cast-scalar_count : goal.overflow_cast-scalar_count
overflow_cast-scalar_count c = omega (arith, c.scalar_count.ensures c.requires, lawful_few (space_of c.args.tree.now) c.requires)
