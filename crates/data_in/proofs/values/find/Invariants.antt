use Rattle.std.proofs.Common.{◌-◌}
use Rattle.data_in.proofs.BlockLaws.{IsBetween}
use Rattle.data_in.proofs.values.find.Given as goal

abbrev pub invariant-halves : goal.invariant-halves
invariant-halves l = IsBetween l.blocks l.number l.low l.high

abbrev pub decreases-halves : goal.decreases-halves
decreases-halves l = l.high - l.low
