use Rattle.std.proofs.Common.{◌∙◌}
use Rattle.tree_values.proofs.SceneLaws.{looked}
use Rattle.tree_values.proofs.scene.look.Goals as goal

pub loop-one-preserved : goal.loop-one-preserved
loop-one-preserved c = c.chosen-value.ensures ∙ looked c.args.names.now c.loop-one.one-index _ c.args.index c.loop-one.value c.loop-one-test.true c.loop-one.invariant
