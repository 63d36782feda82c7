use Rattle.std.proofs.Common.{length}
use Rattle.passes.proofs.summed.+named.Given as goal

abbrev pub decreases-named : goal.decreases-named
decreases-named l = length l.at.now
