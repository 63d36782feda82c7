use Rattle.std.proofs.Common.{◌≡◌, drop}
use Rattle.ufl_tree.specs.Places.{table_of}
use Rattle.form_files.specs.Admissions.{first_refused}
use Rattle.form_files.proofs.program.admit_all.Given as goal

abbrev pub invariant-loop-named : goal.invariant-loop-named
invariant-loop-named l = first_refused (table_of l.elements) l.forms ≡ first_refused (table_of l.elements) (drop l.named-index l.forms)
