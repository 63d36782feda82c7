use Rattle.std.proofs.Common.{◌≡◌, drop}
use Rattle.ufl_calls.specs.Elements.{elements_in, elements_from}
use Rattle.ufl_calls.proofs.element_calls.elements_in.Given as goal

abbrev pub invariant-loop-value : goal.invariant-loop-value
invariant-loop-value l = elements_in l.values ≡ elements_from l.parts.items (drop l.value-index l.values)
