use Rattle.std.proofs.Common.{length}
use Rattle.admit.proofs.trees.+count.Given as goal

abbrev pub decreases-count : goal.decreases-count
decreases-count l = length l.all.now
