use Rattle.dofs.proofs.LocalNodeLaws.{one_row}
use Rattle.dofs.proofs.laws.distinct_rows.Goals as goal

pub returns : goal.returns
returns c = one_row
