use Rattle.std.proofs.Common.{inr, ◌∙◌}
use Rattle.ufl_expr.proofs.FreeLaws.{rest_end}
use Rattle.ufl_expr.proofs.shapes.rest_shape.Goals as goal

pub returns-in-None : goal.returns-in-None
returns-in-None c =
    inr (c.loop-index.invariant ∙ rest_end c.args.at.now c.loop-index.index-index c.loop-index.left.now c.loop-index-test.true c.in-None.ensures.cases)
