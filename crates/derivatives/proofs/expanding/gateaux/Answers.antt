use Rattle.ufl_tree.specs.Reading.{term_of}
use Rattle.ufl_tree.specs.Term.{turn}
use Rattle.derivatives.proofs.ExpansionLaws.{expands, tree_of_turn}
use Rattle.derivatives.proofs.expanding.gateaux.Goals as goal

pub returns : goal.returns
returns c =
    expands term_of c.turned.result (turn c.args.coef c.args.dir (term_of c.args.e.now)) _
    (tree_of_turn c.args.coef c.args.dir (term_of c.args.e.now) _ c.in_ok-body.ensures.tree) c.turned.ensures
