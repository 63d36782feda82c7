use Rattle.std.proofs.Common.{◌≡◌, drop, map, Some}
use Rattle.ufl_tree.specs.Reading.{typed_of, typed_list}
use Rattle.ufl_form.specs.Arguments.{no_arguments, arguments_behind}
use Rattle.ufl_form.proofs.arguments.+elements.Given as goal

abbrev pub invariant-arguments_of_all-loop-tree : goal.invariant-arguments_of_all-loop-tree
invariant-arguments_of_all-loop-tree l = arguments_behind (Some no_arguments) (typed_list (map typed_of l.trees)) ≡ arguments_behind l.all (typed_list (map typed_of (drop l.tree-index l.trees)))
