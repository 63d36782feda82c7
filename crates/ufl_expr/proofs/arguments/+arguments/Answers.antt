use Rattle.ufl_tree.specs.Reading.{kind_of}
use Rattle.ufl_expr.proofs.arguments.+arguments.Goals as goal

pub has_argument-returns : goal.has_argument-returns
has_argument-returns t c = c.node_argument.ensures (kind_of c.args.tree.now)
