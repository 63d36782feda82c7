use Rattle.std.proofs.Common.{◌≡◌, ◌^◌}
use Rattle.tensors.proofs.formed.direction_lists.Given as goal

abbrev pub invariant-loop : goal.invariant-loop
invariant-loop l = l.lists ≡ l.d ^ l.counter
