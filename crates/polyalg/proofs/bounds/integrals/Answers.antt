use Rattle.polyalg.proofs.IntegralBounds.{integrals}
use Rattle.polyalg.proofs.bounds.integrals.Goals as goal

pub returns : goal.returns
returns c = integrals
