use Rattle.std.proofs.Common.{take, map}
use Rattle.ufl_tree.specs.Reading.{typed_of, typed_list}
use Rattle.typing.specs.Sizes.{HaveByteLabels}
use Rattle.typing.proofs.labels.+labels.Given as goal

abbrev pub invariant-list_labels-loop-tree : goal.invariant-list_labels-loop-tree
invariant-list_labels-loop-tree l = HaveByteLabels (typed_list (map typed_of (take l.tree-index l.trees)))
