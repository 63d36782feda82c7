use Rattle.ufl_tree.specs.Reading.{kind_of}
use Rattle.ufl_expr.proofs.arguments.label_of.Goals as goal

pub returns : goal.returns
returns c = c.node_label.ensures (kind_of c.args.tree.now)
