use Rattle.arity.proofs.Directions.{all_directions}
use Rattle.arity.proofs.laws.directions.Goals as goal

pub returns : goal.returns
returns c = all_directions
