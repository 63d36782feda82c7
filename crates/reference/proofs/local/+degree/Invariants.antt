use Rattle.std.proofs.Common.{length}
use Rattle.reference.proofs.local.+degree.Given as goal

abbrev pub decreases-degree : goal.decreases-degree
decreases-degree l = length l.weights.now
