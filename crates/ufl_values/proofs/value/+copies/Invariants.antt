use Rattle.std.proofs.Common.{◌≡◌, take}
use Rattle.ufl_values.proofs.value.+copies.Given as goal

abbrev pub invariant-copy_values-loop-value : goal.invariant-copy_values-loop-value
invariant-copy_values-loop-value l = l.all ≡ take l.value-index l.values
