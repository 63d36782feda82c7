use Rattle.dofs.proofs.LocalNodeLaws.{constant_is_one}
use Rattle.dofs.proofs.laws.constants.Goals as goal

pub returns : goal.returns
returns c = constant_is_one
