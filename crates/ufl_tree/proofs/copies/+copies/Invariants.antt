use Rattle.std.proofs.Common.{◌≡◌, take}
use Rattle.ufl_tree.proofs.copies.+copies.Given as goal

abbrev pub invariant-copy_list-loop-tree : goal.invariant-copy_list-loop-tree
invariant-copy_list-loop-tree l = l.all ≡ take l.tree-index l.items
