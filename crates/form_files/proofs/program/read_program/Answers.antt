use Rattle.std.proofs.Common.{sym, subst}
use Rattle.ufl_read.specs.Refusals.{IsFile}
use Rattle.form_files.specs.FileProgram.{Answers}
use Rattle.form_files.proofs.OutcomeLaws.{says_refused, says_given, handed_on}
use Rattle.form_files.proofs.program.read_program.Goals as goal

pub returns-in_err-statements : goal.returns-in_err-statements
returns-in_err-statements c =
    let e = c.in_err-statements.field-0.0 in
    handed_on (Answers c.args.text.now) c.from_residual.result e c.from_residual.ensures.0 c.from_residual.ensures.1
    (says_refused c.args.text.now e c.in_err-statements.ensures.refused)

pub returns : goal.returns
returns c =
    says_given c.args.text.now c.as_slice.result.now c.elaborate.result
    (subst (IsFile c.args.text.now) (sym c.as_slice.ensures) c.in_ok-statements.ensures.found) c.elaborate.ensures
