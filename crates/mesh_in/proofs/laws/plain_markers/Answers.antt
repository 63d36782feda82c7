use Rattle.mesh_in.proofs.MarkerLaws.{plain_markers}
use Rattle.mesh_in.proofs.laws.plain_markers.Goals as goal

pub returns : goal.returns
returns c = plain_markers
