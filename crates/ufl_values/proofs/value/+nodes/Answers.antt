use Rattle.std.proofs.Common.{arith}
use Rattle.ufl_values.specs.Values.{nodes_of}
use Rattle.ufl_values.proofs.TotalLaws.{total_end}
use Rattle.ufl_values.proofs.value.+nodes.Goals as goal

pub nodes_of_all-returns : goal.nodes_of_all-returns
nodes_of_all-returns t c =
    total_end nodes_of c.args.values.now c.loop-value.value-index c.loop-value.count _ (omega arith) c.loop-value.invariant.0 c.loop-value.invariant.1
