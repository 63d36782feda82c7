use Rattle.std.proofs.Common.{◌≡◌}
use Rattle.ufl_expr.proofs.expr.trees.Given as goal

abbrev pub invariant-loop-item : goal.invariant-loop-item
invariant-loop-item l = l.all ≡ l.yielded
