use Rattle.std.proofs.Common.{length}
use Rattle.reference.proofs.local.+vertex_factors.Given as goal

abbrev pub decreases-vertex_factors : goal.decreases-vertex_factors
decreases-vertex_factors l = length l.weights.now
