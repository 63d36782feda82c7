use Rattle.std.proofs.Common.{length}
use Rattle.derivatives.proofs.rules.+same_component.Given as goal

abbrev pub decreases-same_component : goal.decreases-same_component
decreases-same_component l = length l.own.now
