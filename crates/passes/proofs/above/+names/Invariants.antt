use Rattle.std.proofs.Common.{◌≡◌, take, map}
use Rattle.ufl_tree.specs.Reading.{typed_of, typed_list}
use Rattle.lower.specs.Keeping.{all_names_above}
use Rattle.passes.proofs.above.+names.Given as goal

abbrev pub invariant-list_names-loop-tree : goal.invariant-list_names-loop-tree
invariant-list_names-loop-tree l = l.most ≡ all_names_above (typed_list (map typed_of (take l.tree-index l.trees)))
