use Rattle.room.proofs.PartLaws.{part_within}
use Rattle.room.proofs.laws.parts.Goals as goal

pub returns : goal.returns
returns c = part_within
