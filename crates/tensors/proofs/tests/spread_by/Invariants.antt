use Rattle.std.proofs.Common.{◌≡◌, ◌*◌, ◌^◌, ◌≤◌}
use Rattle.tensors.proofs.tests.spread_by.Given as goal

abbrev pub invariant-loop : goal.invariant-loop
invariant-loop l = (l.product ≡ l.spread * l.factor ^ l.counter) × (l.product ≤ 2 ^ 20)
