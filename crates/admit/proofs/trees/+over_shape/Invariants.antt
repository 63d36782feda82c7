use Rattle.std.proofs.Common.{length}
use Rattle.admit.proofs.trees.+over_shape.Given as goal

abbrev pub decreases-over_shape : goal.decreases-over_shape
decreases-over_shape l = length l.shape.now
