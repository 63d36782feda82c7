use Rattle.std.proofs.Common.{◌≡◌, take}
use Rattle.tree_values.specs.TermValue.{sum_of}
use Rattle.calculus.specs.Polynomial.{coefficient_of}
use Rattle.ufl_meaning.specs.Environment.{parameter_number}
use Rattle.tree_values.proofs.poly.constant_parts.Given as goal

abbrev pub invariant-loop-t : goal.invariant-loop-t
invariant-loop-t l = sum_of l.terms ≡ coefficient_of (parameter_number l.k) 0 (sum_of (take l.t-index l.p))
