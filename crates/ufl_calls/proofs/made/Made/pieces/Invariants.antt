use Rattle.std.proofs.Common.{◌≡◌, ◌-◌, []}
use Rattle.ufl_tree.specs.Places.{table_of}
use Rattle.ufl_calls.specs.Made.{pieces_from}
use Rattle.ufl_calls.proofs.made.Made.pieces.Given as goal

abbrev pub invariant-loop-which : goal.invariant-loop-which
invariant-loop-which l =
    pieces_from (table_of l.self.elements) l.f [] 0 l.count ≡ pieces_from (table_of l.self.elements) l.f l.all l.which (l.count - l.which)
