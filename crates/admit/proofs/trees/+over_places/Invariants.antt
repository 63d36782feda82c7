use Rattle.std.proofs.Common.{length}
use Rattle.admit.proofs.trees.+over_places.Given as goal

abbrev pub decreases-over_places : goal.decreases-over_places
decreases-over_places l = length l.at.now
