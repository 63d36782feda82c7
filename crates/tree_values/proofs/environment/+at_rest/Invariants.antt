use Rattle.std.proofs.Common.{length}
use Rattle.tree_values.proofs.environment.+at_rest.Given as goal

abbrev pub decreases-at_rest : goal.decreases-at_rest
decreases-at_rest l = length l.functions.now
