use Rattle.std.proofs.Common.{◌∙◌}
use Rattle.passes.proofs.NameLaws.{looked}
use Rattle.passes.proofs.names.look.Goals as goal

pub loop-one-preserved : goal.loop-one-preserved
loop-one-preserved c = c.chosen-index.ensures ∙ looked c.args.names.now c.loop-one.one-index _ c.args.name c.loop-one.index c.loop-one-test.true c.loop-one.invariant
