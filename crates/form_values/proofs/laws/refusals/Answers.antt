use Rattle.form_values.proofs.MassRunLaws.{refuses, only_memory}
use Rattle.form_values.proofs.laws.refusals.Goals as goal

pub returns-clause-cause : goal.returns-clause-cause
returns-clause-cause g = refuses

pub returns-clause-apart : goal.returns-clause-apart
returns-clause-apart g = only_memory
