use Rattle.std.proofs.Common.{◌≡◌}
use Rattle.calculus.specs.Polynomial.{power}
use Rattle.tree_values.specs.PolyValue.{value_of}
use Rattle.tree_values.proofs.poly.Poly.power.Given as goal

abbrev pub invariant-loop-i : goal.invariant-loop-i
invariant-loop-i l = value_of l.out ≡ power (value_of l.self) l._i
