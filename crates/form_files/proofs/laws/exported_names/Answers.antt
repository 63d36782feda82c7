use Rattle.form_files.proofs.NameLaws.{exported_names, admitted_names}
use Rattle.form_files.proofs.laws.exported_names.Goals as goal

pub returns : goal.returns
returns c = record { program = exported_names; admitted = admitted_names }
