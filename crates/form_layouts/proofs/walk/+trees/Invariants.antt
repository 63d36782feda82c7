use Rattle.std.proofs.Common.{◌≡◌, drop, map}
use Rattle.ufl_tree.specs.Reading.{typed_of, typed_list}
use Rattle.form_layouts.specs.Marks.{with_trees}
use Rattle.form_layouts.proofs.walk.+trees.Given as goal

abbrev pub invariant-mark_all-loop-tree : goal.invariant-mark_all-loop-tree
invariant-mark_all-loop-tree l = with_trees (typed_list (map typed_of l.trees)) l.fn.marks ≡ with_trees (typed_list (map typed_of (drop l.tree-index l.trees))) l.marks
