use Rattle.weigh.proofs.WorkedWeights.{mass, laplacian, heavy, too_heavy, position_is}
use Rattle.weigh.proofs.laws.worked_weights.Goals as goal

pub returns : goal.returns
returns c = record { mass = mass; laplacian = laplacian; heavy = heavy; too_heavy = too_heavy; position = position_is }
