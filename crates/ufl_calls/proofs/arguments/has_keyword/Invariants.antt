use Rattle.std.proofs.Common.{◌≡◌, drop}
use Rattle.ufl_calls.specs.Arguments.{has_keyword}
use Rattle.ufl_calls.proofs.arguments.has_keyword.Given as goal

abbrev pub invariant-loop-argument : goal.invariant-loop-argument
invariant-loop-argument l = has_keyword l.keyed l.known ≡ has_keyword (drop l.argument-index l.keyed) l.known
