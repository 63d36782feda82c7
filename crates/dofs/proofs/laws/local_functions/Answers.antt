use Rattle.dofs.proofs.LocalNodeLaws.{function_is}
use Rattle.dofs.proofs.laws.local_functions.Goals as goal

pub returns : goal.returns
returns c = function_is
