use Rattle.std.proofs.Common.{length}
use Rattle.tree_values.proofs.summed.+repeated.Given as goal

abbrev pub decreases-repeated : goal.decreases-repeated
decreases-repeated l = length l.free.now
