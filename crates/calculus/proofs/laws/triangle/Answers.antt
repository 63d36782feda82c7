use Rattle.calculus.proofs.ChangeOfVariables.{triangle_law}
use Rattle.calculus.proofs.laws.triangle.Goals as goal

pub returns : goal.returns
returns c = triangle_law
