use Rattle.std.proofs.Common.{[], ◌∷◌, ◌∙◌, arith}
use Rattle.std.proofs.lemmas.Result.{err_from_is_err_and}
use Rattle.ufl_syntax.specs.Machine.{statements}
use Rattle.ufl_syntax.proofs.Unique.{one_reading}
use Rattle.ufl_read.proofs.Turns.{along}
use Rattle.ufl_read.proofs.Lines.{all_read, one_more, next_statement, something_left, refusal_from}
use Rattle.ufl_read.proofs.statements.read_statements.Goals as goal

pub returns-then-at-tokens-clause-found : goal.returns-then-at-tokens-clause-found
returns-then-at-tokens-clause-found c = all_read 64 c.args.tokens.now c.all.at c.all.all c.if-at-tokens.true c.all.invariant.0

pub returns-then-at-tokens-clause-only : goal.returns-then-at-tokens-clause-only
returns-then-at-tokens-clause-only c = λ xs d. one_reading 64 c.args.tokens.now c.all.all xs (all_read 64 c.args.tokens.now c.all.at c.all.all c.if-at-tokens.true c.all.invariant.0) d

pub returns-in_err-one-clause-refused : goal.returns-in_err-one-clause-refused
returns-in_err-one-clause-refused c =
    let p = err_from_is_err_and c.from_residual.result c.from_residual.ensures.1 in
    rw (p.1, p.2) (refusal_from 64 c.args.tokens.now _ (omega arith) (along c.args.tokens.now _ _ _
    (c.all.invariant.1 ∙ next_statement 64 _ (something_left c.args.tokens.now c.all.at (omega (arith, c.if-at-tokens.false))))
    (c.in_err-one.ensures (statements 64 ∷ []))))

pub all-preserved : goal.all-preserved
all-preserved c = (
  one_more 64 c.args.tokens.now c.all.at c.in_ok-one.end c.in_ok-one.one _ _ c.in_ok-push.ensures.ok c.in_ok-one.ensures.1 c.all.invariant.0,
  c.all.invariant.1 ∙ next_statement 64 _ (something_left c.args.tokens.now c.all.at (omega (arith, c.if-at-tokens.false))) ∙ c.in_ok-one.ensures.2 (statements 64 ∷ []),
)
