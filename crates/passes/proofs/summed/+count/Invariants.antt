use Rattle.std.proofs.Common.{length}
use Rattle.passes.proofs.summed.+count.Given as goal

abbrev pub decreases-count : goal.decreases-count
decreases-count l = length l.free.now
