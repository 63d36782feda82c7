use Rattle.std.proofs.Common.{◌≡◌}
use Rattle.calculus.specs.LocalFunction.{falling}
use Rattle.reference.specs.PolyValue.{value_of}
use Rattle.reference.proofs.local.falling.Given as goal

abbrev pub invariant-loop-i : goal.invariant-loop-i
invariant-loop-i l = value_of l.out ≡ falling (value_of l.x) l.i
