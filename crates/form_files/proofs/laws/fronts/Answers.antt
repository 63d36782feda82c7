use Rattle.form_files.proofs.OutcomeLaws.{front_program, front_admitted, front_check}
use Rattle.form_files.proofs.laws.fronts.Goals as goal

pub returns : goal.returns
returns c = record { program = front_program; admitted = front_admitted; check = front_check }
