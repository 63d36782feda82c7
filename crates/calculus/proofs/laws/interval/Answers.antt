use Rattle.calculus.proofs.ChangeOfVariables.{interval_law}
use Rattle.calculus.proofs.laws.interval.Goals as goal

pub returns : goal.returns
returns c = interval_law
