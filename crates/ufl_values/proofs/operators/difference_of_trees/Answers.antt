use Rattle.std.proofs.Common.{subst, arith}
use Rattle.ufl_expr.specs.Answer.{Gives}
use Rattle.ufl_values.proofs.DifferenceLaws.{large_difference, small_difference, is_large}
use Rattle.ufl_values.proofs.operators.difference_of_trees.Goals as goal

pub returns-then-is_full : goal.returns-then-is_full
returns-then-is_full c =
    let large = is_large c.args.b _ _ c.nodes.ensures.count c.height.ensures.depth c.if-is_full.ensures.full in
    subst (Gives c.two.result) (large_difference c.args.a c.args.b large) c.two.ensures

pub returns : goal.returns
returns c =
    subst (Gives c.sum_with.result) (small_difference c.args.a c.args.b (omega (arith, c.if-is_full.ensures.room.0)) (omega (arith, c.if-is_full.ensures.room.1))) (c.sum_with.ensures _ c.one.ensures)
