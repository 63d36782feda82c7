use Rattle.std.proofs.Common.{◌≡◌, drop, map}
use Rattle.ufl_calls.specs.Tensors.{item_of, items_of, items_from}
use Rattle.ufl_calls.proofs.tensor_calls.+lists.Given as goal

abbrev pub invariant-items-loop-value : goal.invariant-items-loop-value
invariant-items-loop-value l = items_of l.values ≡ items_from l.all.items l.is_odd (map item_of (drop l.value-index l.values))
