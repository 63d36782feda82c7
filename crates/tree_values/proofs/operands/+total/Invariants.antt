use Rattle.std.proofs.Common.{length}
use Rattle.tree_values.proofs.operands.+total.Given as goal

abbrev pub decreases-total : goal.decreases-total
decreases-total l = length l.all.now
