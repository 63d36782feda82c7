use Rattle.calculus.proofs.Nodes.{own_node, other_node}
use Rattle.calculus.proofs.laws.nodes.Goals as goal

pub returns-clause-own : goal.returns-clause-own
returns-clause-own c = own_node

pub returns-clause-other : goal.returns-clause-other
returns-clause-other c = other_node
