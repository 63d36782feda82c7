use Rattle.refint.proofs.WorkedItems.{mass_items}
use Rattle.refint.proofs.laws.worked_items.Goals as goal

pub returns : goal.returns
returns c = mass_items
