use Rattle.std.proofs.Common.{◌≡◌, drop}
use Rattle.spaces.specs.Reading.{space_of}
use Rattle.ufl_tree.specs.Places.{table_of}
use Rattle.ufl_expr.specs.Elements.{number_from}
use Rattle.ufl_expr.proofs.elements.number_of.Given as goal

abbrev pub invariant-loop-number : goal.invariant-loop-number
invariant-loop-number l =
    number_from 0 (space_of l.tree) (table_of l.items) ≡ number_from l.number (space_of l.tree) (table_of (drop l.number l.items))
