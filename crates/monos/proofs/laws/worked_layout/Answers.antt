use Rattle.monos.proofs.LayoutLaws.{line_lawful, line_only}
use Rattle.monos.proofs.laws.worked_layout.Goals as goal

pub returns : goal.returns
returns c = record { lawful = line_lawful; only = line_only }
