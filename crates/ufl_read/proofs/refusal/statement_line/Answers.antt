use Rattle.std.proofs.Common.{sym, ◌∙◌, ap}
use Rattle.ufl_read.specs.Refusals.{line_or}
use Rattle.ufl_read.proofs.Whole.{line_at_end}
use Rattle.ufl_read.proofs.refusal.statement_line.Goals as goal

pub returns-in-Some-line : goal.returns-in-Some-line
returns-in-Some-line c = sym (line_at_end c.args.tokens.now c.all.line c.all.at c.args.own c.all.invariant.1 c.in_default.ensures ∙ ap (λ l. line_or l c.args.own) c.in-Some-line.is)

pub returns-in-None : goal.returns-in-None
returns-in-None c = sym (line_at_end c.args.tokens.now c.all.line c.all.at c.args.own c.all.invariant.1 c.in_default.ensures ∙ ap (λ l. line_or l c.args.own) c.in-None.is)
