use Rattle.std.proofs.Common.{length}
use Rattle.passes.proofs.summed.+repeated.Given as goal

abbrev pub decreases-repeated : goal.decreases-repeated
decreases-repeated l = length l.free.now
