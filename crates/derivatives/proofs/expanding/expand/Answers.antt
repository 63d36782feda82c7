use Rattle.ufl_tree.specs.Reading.{term_of}
use Rattle.derivatives.proofs.ExpansionLaws.{expands, tree_of_itself}
use Rattle.derivatives.proofs.expanding.expand.Goals as goal

pub returns : goal.returns
returns c = expands term_of c.expanded.result (term_of c.args.e.now) _ (tree_of_itself (term_of c.args.e.now) _ c.names_above.ensures) c.expanded.ensures
