use Rattle.std.proofs.Common.{◌≡◌, take}
use Rattle.ratio.specs.Value.{fraction_of}
use Rattle.calculus.specs.Polynomial.{constant_term}
use Rattle.reference.specs.TermValue.{sum_of}
use Rattle.reference.proofs.poly.Poly.constant_term.Given as goal

abbrev pub invariant-loop-t : goal.invariant-loop-t
invariant-loop-t l = fraction_of l.total ≡ constant_term (sum_of (take l.t-index l.t-items))
