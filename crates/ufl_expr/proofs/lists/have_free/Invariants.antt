use Rattle.std.proofs.Common.{◌≡◌, drop, map}
use Rattle.ufl_tree.specs.Reading.{kind_of}
use Rattle.ufl_expr.specs.Table.{have_free}
use Rattle.ufl_expr.proofs.lists.have_free.Given as goal

abbrev pub invariant-loop-item : goal.invariant-loop-item
invariant-loop-item l = have_free l.free (map kind_of l.items) ≡ have_free l.free (map kind_of (drop l.item-index l.items))
