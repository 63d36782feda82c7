use Rattle.calculus.proofs.ChangeOfVariables.{tetrahedron_law}
use Rattle.calculus.proofs.laws.tetrahedron.Goals as goal

pub returns : goal.returns
returns c = tetrahedron_law
