use Rattle.std.proofs.Common.{length}
use Rattle.tree_values.proofs.environment.+used.Given as goal

abbrev pub decreases-used : goal.decreases-used
decreases-used l = length l.changes.now
