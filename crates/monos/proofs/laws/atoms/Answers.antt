use Rattle.monos.proofs.LayoutLaws.{directions_count}
use Rattle.monos.proofs.laws.atoms.Goals as goal

pub returns : goal.returns
returns c = directions_count
