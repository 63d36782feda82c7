use Rattle.std.proofs.Common.{length}
use Rattle.tree_values.proofs.scene.+with_all_bound.Given as goal

abbrev pub decreases-with_all_bound : goal.decreases-with_all_bound
decreases-with_all_bound l = length l.by.now
