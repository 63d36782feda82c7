use Rattle.monomial_weights.proofs.ItemLaws.{items_within}
use Rattle.monomial_weights.proofs.laws.items.Goals as goal

pub returns : goal.returns
returns c = items_within
