use Rattle.std.proofs.Common.{drop}
use Rattle.ufl_expr.proofs.ListLaws.{Counting, listed}
use Rattle.ufl_expr.proofs.expr.extent_of.Given as goal

abbrev pub invariant-loop-item : goal.invariant-loop-item
invariant-loop-item l = Counting l.nodes l.height l.item-index (listed (drop l.item-index l.items)) (listed l.items)
