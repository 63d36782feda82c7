use Rattle.std.proofs.Common.{◌≡◌, map}
use Rattle.kernel_statements.proofs.body.tables_of.Given as goal

abbrev pub invariant-loop-contraction : goal.invariant-loop-contraction
invariant-loop-contraction l = l.tables ≡ map (λ c. c.items.items) l.yielded
