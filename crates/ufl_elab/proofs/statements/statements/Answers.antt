use Rattle.std.proofs.Common.{Err, subst}
use Rattle.ufl_elab.specs.Statements.{State, statement}
use Rattle.ufl_elab.specs.Answers.{file_in, state_in, Leaves}
use Rattle.ufl_elab.proofs.StatementLaws.{statements_stop, leaves_residual}
use Rattle.ufl_elab.proofs.statements.statements.Goals as goal

pub returns-in_err-statement-clause-state : goal.returns-in_err-statement-clause-state
returns-in_err-statement-clause-state c =
    let l = c.loop-st in
    let x = c.st-item.result in
    leaves_residual State (Unit {0}) c.from_residual.result c.in_err-statement.field-0.0 _ _ c.from_residual.ensures.0 c.from_residual.ensures.1
    (statements_stop (Unit {0}) (file_in c.args.names.now) c.args.sts.now l.st-index x (state_in l.names l.made) (state_in c.statement.new.names c.statement.new.made) (state_in c.statement.new.names c.statement.new.made) _ c.in_err-statement.field-0.0
    c.loop-st-test.true c.st-item.is
    (subst (λ f. Leaves {B = Unit {0}} (Err c.in_err-statement.field-0.0) (state_in c.statement.new.names c.statement.new.made) (statement f x (state_in l.names l.made))) l.invariant.file c.in_err-statement.ensures.state)
    l.invariant.run)
