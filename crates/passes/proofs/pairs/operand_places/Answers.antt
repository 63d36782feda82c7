use Rattle.passes.proofs.ResultLaws.{ok_then}
use Rattle.passes.proofs.PairLaws.{suits_inner}
use Rattle.passes.proofs.pairs.operand_places.Goals as goal

pub returns-in-Inner : goal.returns-in-Inner
returns-in-Inner c =
    ok_then c.of_inner.result (λ p h. suits_inner c.args.op c.args.shape.now c.args.other.now c.args.at.now c.args.next p.left p.right p.sizes c.in-Inner.is h.0 h.1 h.2) c.of_inner.ensures
