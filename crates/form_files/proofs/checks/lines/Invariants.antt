use Rattle.std.proofs.Common.{◌≡◌, drop}
use Rattle.ufl_tree.specs.Places.{table_of}
use Rattle.form_files.specs.Checks.{behind, form_lines}
use Rattle.form_files.proofs.checks.lines.Given as goal

-- the lines so far come before those of the forms that are left
abbrev pub invariant-loop-named : goal.invariant-loop-named
invariant-loop-named l =
    form_lines l.file (table_of l.elements) l.forms ≡ behind l.text.items (form_lines l.file (table_of l.elements) (drop l.named-index l.forms))
