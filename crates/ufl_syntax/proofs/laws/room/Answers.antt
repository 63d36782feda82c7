use Rattle.ufl_syntax.proofs.Refusal.{depth_within, room_enough}
use Rattle.ufl_syntax.proofs.laws.room.Goals as goal

pub returns : goal.returns
returns c = record {
  needed = depth_within;
  enough = room_enough;
}
