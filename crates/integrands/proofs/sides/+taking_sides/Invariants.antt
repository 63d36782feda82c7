use Rattle.std.proofs.Common.{◌≡◌, take, map}
use Rattle.ufl_tree.specs.Reading.{term_of}
use Rattle.integrands.specs.Sides.{left_side}
use Rattle.integrands.proofs.sides.+taking_sides.Given as goal

abbrev pub invariant-left_sides-loop-e : goal.invariant-left_sides-loop-e
invariant-left_sides-loop-e l = map term_of l.all ≡ map (λ e. left_side (term_of e)) (take l.e-index l.items)
