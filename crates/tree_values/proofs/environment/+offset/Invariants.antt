use Rattle.std.proofs.Common.{length}
use Rattle.tree_values.proofs.environment.+offset.Given as goal

abbrev pub decreases-offset : goal.decreases-offset
decreases-offset l = length l.changes.now
