use Rattle.std.proofs.Common.{◌≡◌, map, drop}
use Rattle.data_in.specs.CoefficientValues.{values_in}
use Rattle.data_in.specs.Needs.{first_unmet}
use Rattle.data_in.proofs.values.first_unmet.Given as goal

abbrev pub invariant-loop-need : goal.invariant-loop-need
invariant-loop-need l = first_unmet (map values_in l.blocks) l.needs ≡ first_unmet (map values_in l.blocks) (drop l.need-index l.needs)
