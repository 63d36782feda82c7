use Rattle.ufl_tree.specs.Reading.{kind_of}
use Rattle.ufl_form.proofs.arguments.+elements.Goals as goal

pub tree_arguments-returns : goal.tree_arguments-returns
tree_arguments-returns t c = c.node_arguments.ensures (kind_of c.args.tree.now)
