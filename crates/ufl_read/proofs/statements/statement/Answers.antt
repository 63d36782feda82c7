use Rattle.std.proofs.Common.{◌∙◌, ap, refl, arith}
use Rattle.std.proofs.lemmas.Result.{err_from_is_err_and}
use Rattle.ufl_syntax.specs.Machine.{a_statement, statement_on}
use Rattle.ufl_read.specs.Reads.{import_parts}
use Rattle.ufl_read.proofs.Turns.{short_at, take_at, stop_at, along}
use Rattle.ufl_read.proofs.Lines.{import_statement, no_statement_on, reads_first, reads_bracket}
use Rattle.ufl_read.proofs.statements.statement.Goals as goal

pub returns-in_default : goal.returns-in_default
returns-in_default c = λ stack. short_at (a_statement c.args.room) stack _ c.in_default.ensures refl

pub returns-in_err-end-in-From : goal.returns-in_err-end-in-From
returns-in_err-end-in-From c =
    let p = err_from_is_err_and c.from_residual.result c.from_residual.ensures.1 in
    rw (p.1, p.2) (λ stack. along c.args.tokens.now _ _ _
    (take_at (a_statement c.args.room) stack _ c.in-Some.first _ import_parts c.in-Some.ensures.0 (ap (statement_on c.args.room) c.in-From.is))
    (c.in_err-end-in-From.ensures stack))

pub returns-in_ok-end-in-From : goal.returns-in_ok-end-in-From
returns-in_ok-end-in-From c =
    let end = c.in_ok-end-in-From.ensures in (
      omega (arith, end.0),
      import_statement c.args.room c.in-Some.first _ _ _ c.in-From.is c.in-Some.ensures.0 end.1 (refl, c.new-targets.ensures, refl, refl, refl),
      λ stack. take_at (a_statement c.args.room) stack _ c.in-Some.first _ import_parts c.in-Some.ensures.0 (ap (statement_on c.args.room) c.in-From.is) ∙ end.2 stack,
    )

pub returns-in-Name : goal.returns-in-Name
returns-in-Name c = reads_first c.args.room c.args.tokens.now c.args.at c.in-Some.first c.in-Name.field-0 c.in-Some.ensures.0 c.in-Name.is _ c.named.ensures

pub returns-in-Open : goal.returns-in-Open
returns-in-Open c = reads_bracket c.args.room c.args.tokens.now c.args.at c.in-Some.first c.in-Some.ensures.0 c.in-Open.is _ c.bracketed.ensures

pub returns-in_default-class : goal.returns-in_default-class
returns-in_default-class c =
    λ stack. stop_at (a_statement c.args.room) stack _ c.in-Some.first _ c.in-Some.ensures.0 (no_statement_on c.args.room c.in-Some.first.class c.in_default-class.not-Name c.in_default-class.not-Open c.in_default-class.not-From)
