use Rattle.ufl_tree.specs.Reading.{kind_of}
use Rattle.ufl_form.proofs.tree_patterns.+sets.Goals as goal

pub tree_patterns-returns : goal.tree_patterns-returns
tree_patterns-returns t c = c.node_patterns.ensures (kind_of c.args.tree.now)
