use Rattle.std.proofs.Common.{◌≡◌, take}
use Rattle.ufl_tree.proofs.copies.+plains.Given as goal

abbrev pub invariant-copy_items-loop-e : goal.invariant-copy_items-loop-e
invariant-copy_items-loop-e l = l.all ≡ take l.e-index l.items
