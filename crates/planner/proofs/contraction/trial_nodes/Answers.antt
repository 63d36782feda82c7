use Rattle.std.proofs.Common.{sym, ◌∙◌, arith}
use Rattle.tensors.proofs.EntryLaws.{entries_few}
use Rattle.planner.proofs.NodeLaws.{trial_part}
use Rattle.planner.proofs.contraction.trial_nodes.Goals as goal

pub argument_nodes-requires : goal.argument_nodes-requires
argument_nodes-requires c p e =
    let within = trial_part c.args.l.now c.requires c.args.atoms.now p (sym c.trial_support.ensures.value ∙ e) in
    let few = entries_few c.requires.0 c.args.l.now.cols c.requires.1.cols in
    omega (arith, within.0, within.1, few)
