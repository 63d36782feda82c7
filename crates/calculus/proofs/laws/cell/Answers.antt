use Rattle.calculus.proofs.ChangeOfVariables.{cell_law}
use Rattle.calculus.proofs.laws.cell.Goals as goal

pub returns : goal.returns
returns c = cell_law
