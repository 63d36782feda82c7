use Rattle.calculus.proofs.PulledBackDerivative.{derivative_law}
use Rattle.calculus.proofs.laws.derivatives.Goals as goal

pub returns : goal.returns
returns c = derivative_law
