use Rattle.tree_values.proofs.SceneLaws.{used_after}
use Rattle.tree_values.proofs.environment.+used.Goals as goal

pub returns-in-Some-clause-is : goal.returns-in-Some-clause-is
returns-in-Some-clause-is t c gs =
    used_after gs c.args.changes.now c.in-Some.before.now c.in-Some.last.now c.used.result c.parameters.result c.in-Some.ensures.cases.0 (c.used.ensures.is gs) c.parameters.ensures.is
