use Rattle.std.proofs.Common.{arith}
use Rattle.ufl_values.specs.Values.{height_of}
use Rattle.ufl_values.proofs.TotalLaws.{highest_end}
use Rattle.ufl_values.proofs.value.+heights.Goals as goal

pub height_of_all-returns : goal.height_of_all-returns
height_of_all-returns t c =
    highest_end height_of c.args.values.now c.loop-value.value-index c.loop-value.height _ (omega arith) c.loop-value.invariant.0 c.loop-value.invariant.1
