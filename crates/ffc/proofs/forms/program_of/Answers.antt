use Rattle.ffc.proofs.FormsLaws.{exported}
use Rattle.ffc.proofs.forms.program_of.Goals as goal

pub returns-in-Ok-clause-exported : goal.returns-in-Ok-clause-exported
returns-in-Ok-clause-exported c = exported c.args.file.now c.in-Ok.program c.in-Ok.ensures
