use Rattle.std.proofs.Common.{sym, ◌∙◌, arith}
use Rattle.tensors.proofs.EntryLaws.{entries_few}
use Rattle.planner.proofs.NodeLaws.{test_part}
use Rattle.planner.proofs.contraction.test_nodes.Goals as goal

pub argument_nodes-requires : goal.argument_nodes-requires
argument_nodes-requires c p e =
    let within = test_part c.args.l.now c.requires c.args.atoms.now p (sym c.test_support.ensures.value ∙ e) in
    let few = entries_few c.requires.0 c.args.l.now.rows c.requires.1.rows in
    omega (arith, within.0, within.1, few)
