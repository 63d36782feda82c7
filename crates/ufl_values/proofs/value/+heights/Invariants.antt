use Rattle.std.proofs.Common.{◌≡◌, ◌≤◌, min, max, map, drop}
use Rattle.ufl_values.specs.Values.{height_of, highest}
use Rattle.ufl_values.proofs.value.+heights.Given as goal

abbrev pub invariant-height_of_all-loop-value : goal.invariant-height_of_all-loop-value
invariant-height_of_all-loop-value l =
    (l.height ≤ 4294967295)
    × (min (max l.height (highest (map height_of (drop l.value-index l.values)))) 4294967295 ≡ min (highest (map height_of l.values)) 4294967295)
