use Rattle.form_files.specs.Admissions.{admitted_program}
use Rattle.form_files.specs.Checks.{checked}
use Rattle.form_files.proofs.OutcomeLaws.{one_program, one_of}
use Rattle.form_files.proofs.laws.one_outcome.Goals as goal

pub returns : goal.returns
returns c = record {
  program = one_program;
  admitted = λ file. one_of file admitted_program;
  check = λ file. one_of file (checked file);
}
