use Rattle.std.proofs.Common.{sym, ◌∙◌}
use Rattle.planner.proofs.ExampleLaws.{linear_of}
use Rattle.planner.proofs.tests.parts.Goals as goal

pub returns-in_ok-parts-in-Some : goal.returns-in_ok-parts-in-Some
returns-in_ok-parts-in-Some c = c.in_ok-parts-in-Some.ensures ∙ linear_of c.args.cell c.in-Some.element (sym c.scalar.ensures ∙ c.in-Some.is)
