use Rattle.std.proofs.Common.{length}
use Rattle.tree_values.proofs.summed.+named.Given as goal

abbrev pub decreases-named : goal.decreases-named
decreases-named l = length l.at.now
