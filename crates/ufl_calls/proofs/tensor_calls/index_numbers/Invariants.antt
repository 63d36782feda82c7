use Rattle.std.proofs.Common.{◌≡◌, drop}
use Rattle.ufl_calls.specs.Tensors.{index_numbers_of, index_numbers_from}
use Rattle.ufl_calls.proofs.tensor_calls.index_numbers.Given as goal

abbrev pub invariant-loop-value : goal.invariant-loop-value
invariant-loop-value l = index_numbers_of l.values ≡ index_numbers_from l.all (drop l.value-index l.values)
