use Rattle.std.proofs.Common.{◌≡◌, length}
use Rattle.ufl_calls.specs.Arguments.{keyword_value}
use Rattle.ufl_calls.proofs.arguments.keyword_value.Given as goal

abbrev pub invariant-loop-rest : goal.invariant-loop-rest
invariant-loop-rest l = keyword_value l.keyed l.known ≡ keyword_value l.rest l.known

abbrev pub decreases-loop-rest : goal.decreases-loop-rest
decreases-loop-rest l = length l.rest
