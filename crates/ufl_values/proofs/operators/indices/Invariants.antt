use Rattle.std.proofs.Common.{◌≡◌, drop}
use Rattle.ufl_values.specs.Numbers.{indices_of, indices_from}
use Rattle.ufl_values.proofs.operators.indices.Given as goal

abbrev pub invariant-loop-value : goal.invariant-loop-value
invariant-loop-value l = indices_of l.values ≡ indices_from l.all (drop l.value-index l.values)
