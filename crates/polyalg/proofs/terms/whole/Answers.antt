use Rattle.std.proofs.Common.{◌∙◌}
use Rattle.polyalg.proofs.SmallLaws.{over-one}
use Rattle.polyalg.proofs.terms.whole.Goals as goal

pub returns : goal.returns
returns c = c.quotient.ensures ∙ over-one c.args.n
