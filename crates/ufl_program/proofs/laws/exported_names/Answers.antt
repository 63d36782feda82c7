use Rattle.ufl_program.proofs.ExportLaws.{exported_targets}
use Rattle.ufl_program.proofs.laws.exported_names.Goals as goal

pub returns : goal.returns
returns c = record { targets = λ file sts. (exported_targets file sts).0; distinct = λ file sts. (exported_targets file sts).1 }
