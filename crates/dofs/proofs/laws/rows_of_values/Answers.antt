use Rattle.dofs.proofs.LocalNodeLaws.{same_rows}
use Rattle.dofs.proofs.laws.rows_of_values.Goals as goal

pub returns : goal.returns
returns c = same_rows
