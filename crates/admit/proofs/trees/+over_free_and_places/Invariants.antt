use Rattle.std.proofs.Common.{length}
use Rattle.admit.proofs.trees.+over_free_and_places.Given as goal

abbrev pub decreases-over_free_and_places : goal.decreases-over_free_and_places
decreases-over_free_and_places l = length l.free.now
