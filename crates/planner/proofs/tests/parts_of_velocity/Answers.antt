use Rattle.std.proofs.Common.{sym, ◌∙◌}
use Rattle.planner.proofs.ExampleLaws.{velocity_of}
use Rattle.planner.proofs.tests.parts_of_velocity.Goals as goal

pub returns-in_ok-parts-in-Ok : goal.returns-in_ok-parts-in-Ok
returns-in_ok-parts-in-Ok c =
    c.in_ok-parts-in-Ok.ensures
    ∙ velocity_of c.in-Some.linear c.in-Ok.element c.vector.result (sym c.scalar.ensures ∙ c.in-Some.is) c.vector.ensures c.in-Ok.is
