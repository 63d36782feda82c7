use Rattle.std.proofs.Common.{length}
use Rattle.passes.proofs.names.+bind_summed.Given as goal

abbrev pub decreases-bind_summed : goal.decreases-bind_summed
decreases-bind_summed l = length l.free.now
