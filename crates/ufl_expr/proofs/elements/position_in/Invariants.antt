use Rattle.std.proofs.Common.{◌≡◌, drop}
use Rattle.ufl_tree.specs.Places.{table_of}
use Rattle.ufl_expr.specs.Elements.{position_space, number_from}
use Rattle.ufl_expr.proofs.elements.position_in.Given as goal

abbrev pub invariant-loop-number : goal.invariant-loop-number
invariant-loop-number l =
    number_from 0 (position_space l.cell) (table_of l.items) ≡ number_from l.number (position_space l.cell) (table_of (drop l.number l.items))
