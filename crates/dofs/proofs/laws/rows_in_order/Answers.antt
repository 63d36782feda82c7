use Rattle.dofs.proofs.LocalNodeLaws.{in_order}
use Rattle.dofs.proofs.laws.rows_in_order.Goals as goal

pub returns : goal.returns
returns c = λ m s. in_order m s
