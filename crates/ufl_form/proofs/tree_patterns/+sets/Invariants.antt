use Rattle.std.proofs.Common.{◌≡◌, drop, map}
use Rattle.ufl_tree.specs.Reading.{typed_of, typed_list}
use Rattle.ufl_form.specs.Patterns.{no_pairs, patterns_behind}
use Rattle.ufl_form.proofs.tree_patterns.+sets.Given as goal

abbrev pub invariant-patterns_of_all-loop-tree : goal.invariant-patterns_of_all-loop-tree
invariant-patterns_of_all-loop-tree l = patterns_behind no_pairs (typed_list (map typed_of l.trees)) ≡ patterns_behind l.all (typed_list (map typed_of (drop l.tree-index l.trees)))
