use Rattle.std.proofs.Common.{◌≡◌, ◌+◌, ◌≤◌, min, map, drop}
use Rattle.ufl_values.specs.Values.{nodes_of, total}
use Rattle.ufl_values.proofs.value.+nodes.Given as goal

abbrev pub invariant-nodes_of_all-loop-value : goal.invariant-nodes_of_all-loop-value
invariant-nodes_of_all-loop-value l =
    (l.count ≤ 4294967295)
    × (min (l.count + total (map nodes_of (drop l.value-index l.values))) 4294967295 ≡ min (total (map nodes_of l.values)) 4294967295)
