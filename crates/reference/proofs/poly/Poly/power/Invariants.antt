use Rattle.std.proofs.Common.{◌≡◌}
use Rattle.calculus.specs.Polynomial.{power}
use Rattle.reference.specs.TermValue.{sum_of}
use Rattle.reference.proofs.poly.Poly.power.Given as goal

abbrev pub invariant-loop-i : goal.invariant-loop-i
invariant-loop-i l = sum_of l.out.terms.items ≡ power (sum_of l.self.terms.items) l._i
