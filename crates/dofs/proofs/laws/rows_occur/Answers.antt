use Rattle.dofs.proofs.LocalNodeLaws.{rows_are}
use Rattle.dofs.proofs.laws.rows_occur.Goals as goal

pub returns : goal.returns
returns c = λ m s l. rows_are m s l
