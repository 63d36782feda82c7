use Rattle.tree_values.specs.Scene.{names_of}
use Rattle.tree_values.proofs.SceneLaws.{listed}
use Rattle.tree_values.proofs.scene.numbers.Goals as goal

pub loop-i-preserved : goal.loop-i-preserved
loop-i-preserved c =
    listed (names_of c.args.names.now) c.args.at.now c.loop-i.i-index _ c.loop-i.all c.push.new.self c.number.result c.loop-i-test.true c.loop-i.invariant c.in_ok-push.ensures.ok c.number.ensures
