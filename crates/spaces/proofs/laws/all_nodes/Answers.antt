use Rattle.spaces.proofs.AllNodes.{complete, sound, strict_order}
use Rattle.spaces.proofs.laws.all_nodes.Goals as goal

pub returns-clause-complete : goal.returns-clause-complete
returns-clause-complete c = complete

pub returns-clause-sound : goal.returns-clause-sound
returns-clause-sound c = sound

pub returns-clause-order : goal.returns-clause-order
returns-clause-order c = strict_order
