use Rattle.std.proofs.Common.{◌≡◌, Some}
use Rattle.ratio.specs.Value.{fraction_of}
use Rattle.polyalg.specs.ReferenceIntegral.{raised}
use Rattle.polyalg.proofs.integral.raised.Given as goal

abbrev pub invariant-loop-i : goal.invariant-loop-i
invariant-loop-i l = raised l.below l.i (fraction_of l.fn.start) ≡ Some (fraction_of l.product)
