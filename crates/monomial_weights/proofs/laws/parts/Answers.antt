use Rattle.monomial_weights.proofs.EntryLaws.{parts_counted}
use Rattle.monomial_weights.proofs.laws.parts.Goals as goal

pub returns : goal.returns
returns c = parts_counted
