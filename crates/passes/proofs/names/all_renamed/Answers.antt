use Rattle.passes.specs.Names.{renaming_of}
use Rattle.passes.proofs.NameLaws.{listed}
use Rattle.passes.proofs.names.all_renamed.Goals as goal

pub loop-i-preserved : goal.loop-i-preserved
loop-i-preserved c =
    listed (renaming_of c.args.names.now) c.args.at.now c.loop-i.i-index _ c.loop-i.all c.push.new.self c.renamed.result c.loop-i-test.true c.loop-i.invariant c.in_ok-push.ensures.ok c.renamed.ensures
