use Rattle.std.proofs.Common.{arith}
use Rattle.derivatives.proofs.NamingLaws.{names_next}
use Rattle.derivatives.proofs.above.+names.Goals as goal

pub list_names-loop-e-preserved : goal.list_names-loop-e-preserved
list_names-loop-e-preserved t c =
    names_next c.args.items.now c.loop-e.e-index c.e-item.result c.loop-e.most c.names_above.result c.max-most.result c.loop-e-test.true c.e-item.is c.loop-e.invariant c.names_above.ensures (omega arith)
