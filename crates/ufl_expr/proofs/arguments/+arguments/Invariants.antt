use Rattle.std.proofs.Common.{◌≡◌, drop, map}
use Rattle.ufl_tree.specs.Reading.{typed_of, typed_list}
use Rattle.ufl_expr.specs.Table.{have_argument}
use Rattle.ufl_expr.proofs.arguments.+arguments.Given as goal

abbrev pub invariant-have_argument-loop-tree : goal.invariant-have_argument-loop-tree
invariant-have_argument-loop-tree l = have_argument (typed_list (map typed_of l.trees)) ≡ have_argument (typed_list (map typed_of (drop l.tree-index l.trees)))
