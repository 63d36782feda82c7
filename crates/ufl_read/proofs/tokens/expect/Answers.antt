use Rattle.std.proofs.Common.{[], ◌∙◌, sym, ap, refl, arith}
use Rattle.ufl_syntax.specs.Machine.{token, if_same}
use Rattle.ufl_read.proofs.Turns.{short_at, take_at, stop_at}
use Rattle.ufl_read.proofs.tokens.expect.Goals as goal

pub returns-in_default : goal.returns-in_default
returns-in_default c = λ stack. short_at (token c.args.class) stack _ c.in_default.ensures refl

pub returns-then-same : goal.returns-then-same
returns-then-same c = (
  omega arith,
  (c.in-Some.ensures.0, sym c.same.ensures ∙ c.if-same.true),
  λ stack. take_at (token c.args.class) stack _ c.in-Some.first _ [] c.in-Some.ensures.0 (ap if_same (sym c.same.ensures ∙ c.if-same.true)),
)

pub returns-else-same : goal.returns-else-same
returns-else-same c =
    λ stack. stop_at (token c.args.class) stack _ c.in-Some.first _ c.in-Some.ensures.0 (ap if_same (sym c.same.ensures ∙ c.if-same.false))
