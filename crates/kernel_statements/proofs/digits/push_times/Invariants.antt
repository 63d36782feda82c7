use Rattle.std.proofs.Common.{◌≡◌, ◌++◌, replicate}
use Rattle.kernel_statements.proofs.digits.push_times.Given as goal

abbrev pub invariant-loop : goal.invariant-loop
invariant-loop l = l.directions.items ≡ l.fn.directions.items ++ replicate l.counter l.direction
