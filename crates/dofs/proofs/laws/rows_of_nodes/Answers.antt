use Rattle.dofs.proofs.LocalNodeLaws.{row_of_node}
use Rattle.dofs.proofs.laws.rows_of_nodes.Goals as goal

pub returns : goal.returns
returns c = λ m s k vertices a node. row_of_node m s k vertices a node
