use Rattle.std.proofs.Common.{◌≡◌, ◌≤◌, ◌-◌}
use Rattle.ratio.specs.NumberText.{scaled_by_tens}
use Rattle.ratio.specs.Value.{fraction_of}
use Rattle.ratio.proofs.decimal.lowered.Given as goal

abbrev pub invariant-loop-left : goal.invariant-loop-left
invariant-loop-left l = record { within : l.left ≤ l.k; value : fraction_of l.value ≡ scaled_by_tens l.m 0 (l.k - l.left) }

abbrev pub decreases-loop-left : goal.decreases-loop-left
decreases-loop-left l = l.left
