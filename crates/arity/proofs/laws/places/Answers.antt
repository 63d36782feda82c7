use Rattle.arity.proofs.Places.{all_placed}
use Rattle.arity.proofs.laws.places.Goals as goal

pub returns : goal.returns
returns c = all_placed
