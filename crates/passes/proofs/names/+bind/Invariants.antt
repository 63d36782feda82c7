use Rattle.std.proofs.Common.{length}
use Rattle.passes.proofs.names.+bind.Given as goal

abbrev pub decreases-bind : goal.decreases-bind
decreases-bind l = length l.by.now
