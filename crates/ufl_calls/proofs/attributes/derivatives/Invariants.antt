use Rattle.std.proofs.Common.{◌≡◌, drop}
use Rattle.ufl_calls.specs.Calls.{derivatives}
use Rattle.ufl_calls.proofs.attributes.derivatives.Given as goal

abbrev pub invariant-loop-direction : goal.invariant-loop-direction
invariant-loop-direction l = derivatives l.fn.a l.directions ≡ derivatives l.all (drop l.direction-index l.directions)
