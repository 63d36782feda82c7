use Rattle.std.proofs.Common.{length}
use Rattle.normal.proofs.names.+name_value.Given as goal

abbrev pub decreases-name_value : goal.decreases-name_value
decreases-name_value l = length l.bounds.now
