use Rattle.std.proofs.Common.{◌≡◌, drop, map, None}
use Rattle.ufl_tree.specs.Reading.{kind_of}
use Rattle.ufl_expr.specs.Table.{cell_behind}
use Rattle.ufl_expr.proofs.lists.cell_of_all.Given as goal

abbrev pub invariant-loop-item : goal.invariant-loop-item
invariant-loop-item l = cell_behind None (map kind_of l.items) ≡ cell_behind l.cell (map kind_of (drop l.item-index l.items))
