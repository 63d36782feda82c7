use Rattle.reference.proofs.Steps.{answered, exact_difference}
use Rattle.reference.proofs.number.difference.Goals as goal

pub returns : goal.returns
returns c = answered c.sub.result c.ok_or.result _ _ c.sub.ensures c.ok_or.ensures.ok_part (exact_difference _ _)
