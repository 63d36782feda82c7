use Rattle.calculus.proofs.WholeIntegral.{whole_integral}
use Rattle.calculus.proofs.laws.whole_integral.Goals as goal

pub returns : goal.returns
returns c = whole_integral
