use Rattle.tensors.proofs.SpreadLaws.{spread_next}
use Rattle.tensors.proofs.tests.is_small.Goals as goal

pub loop-atom-preserved : goal.loop-atom-preserved
loop-atom-preserved c =
    spread_next c.args.l.now c.args.atoms.now c.loop-atom.atom-index c.loop-atom.spread _ c.in-Some.with c.loop-atom-test.true c.loop-atom.invariant
    c.in-Some.ensures.0 c.in-Some.ensures.1
