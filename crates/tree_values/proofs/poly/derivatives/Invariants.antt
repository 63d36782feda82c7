use Rattle.std.proofs.Common.{◌≡◌, take}
use Rattle.tree_values.specs.TermValue.{sum_of}
use Rattle.ufl_meaning.specs.Operators.{along}
use Rattle.tree_values.proofs.poly.derivatives.Given as goal

abbrev pub invariant-loop-t : goal.invariant-loop-t
invariant-loop-t l = sum_of l.terms ≡ along l.direction (sum_of (take l.t-index l.p))
