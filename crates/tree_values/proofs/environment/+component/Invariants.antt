use Rattle.std.proofs.Common.{length}
use Rattle.tree_values.proofs.environment.+component.Given as goal

abbrev pub decreases-component : goal.decreases-component
decreases-component l = length l.changes.now
