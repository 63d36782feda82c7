use Rattle.std.proofs.Common.{◌++◌, ◌∙◌, ap}
use Rattle.ufl_tree.specs.Places.{table_of}
use Rattle.form_files.specs.Checks.{form_line}
use Rattle.form_files.proofs.LineLaws.{lines_more}
use Rattle.form_files.proofs.checks.lines.Goals as goal

pub loop-named-preserved : goal.loop-named-preserved
loop-named-preserved c =
    lines_more c.args.file.now (table_of c.args.elements.now) c.args.forms.now c.loop-named.named-index c.named-item.result c.in_ok-form.form
    c.loop-named.text.items c.push_form.new.text.items c.loop-named-test.true c.named-item.is c.loop-named.invariant c.in_ok-form.ensures
    (c.in_ok-push_form.ensures ∙ ap (λ w. c.loop-named.text.items ++ form_line w c.in_ok-form.form) c.text.ensures)
