use Rattle.std.proofs.Common.{◌≡◌, drop}
use Rattle.ufl_calls.specs.Arguments.{unknown_keyword}
use Rattle.ufl_calls.proofs.arguments.unknown_keyword.Given as goal

abbrev pub invariant-loop-argument : goal.invariant-loop-argument
invariant-loop-argument l = unknown_keyword l.keyed l.known ≡ unknown_keyword (drop l.argument-index l.keyed) l.known
