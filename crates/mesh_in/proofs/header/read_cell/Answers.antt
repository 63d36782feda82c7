use Rattle.mesh_in.proofs.HeaderLemmas.{is_named}
use Rattle.mesh_in.proofs.header.read_cell.Goals as goal

pub returns : goal.returns
returns c = is_named c.args.name.now c.named.result c.named.ensures.found c.named.ensures.none
