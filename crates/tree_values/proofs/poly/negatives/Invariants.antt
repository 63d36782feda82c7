use Rattle.std.proofs.Common.{◌≡◌, take}
use Rattle.tree_values.specs.TermValue.{sum_of}
use Rattle.calculus.specs.Polynomial.{negative}
use Rattle.tree_values.proofs.poly.negatives.Given as goal

abbrev pub invariant-loop-t : goal.invariant-loop-t
invariant-loop-t l = sum_of l.terms ≡ negative (sum_of (take l.t-index l.p))
