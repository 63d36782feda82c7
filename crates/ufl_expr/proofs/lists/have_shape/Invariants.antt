use Rattle.std.proofs.Common.{◌≡◌, drop, map}
use Rattle.ufl_tree.specs.Reading.{kind_of}
use Rattle.ufl_expr.specs.Table.{have_shape}
use Rattle.ufl_expr.proofs.lists.have_shape.Given as goal

abbrev pub invariant-loop-item : goal.invariant-loop-item
invariant-loop-item l = have_shape l.shape (map kind_of l.items) ≡ have_shape l.shape (map kind_of (drop l.item-index l.items))
