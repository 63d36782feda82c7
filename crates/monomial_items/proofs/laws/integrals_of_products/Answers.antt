use Rattle.monomial_items.proofs.ItemLaws.{items_are}
use Rattle.monomial_items.proofs.laws.integrals_of_products.Goals as goal

pub returns : goal.returns
returns c = items_are
