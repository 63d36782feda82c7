use Rattle.reference.proofs.Steps.{answered, exact_sum}
use Rattle.reference.proofs.number.sum.Goals as goal

pub returns : goal.returns
returns c = answered c.add.result c.ok_or.result _ _ c.add.ensures c.ok_or.ensures.ok_part (exact_sum _ _)
