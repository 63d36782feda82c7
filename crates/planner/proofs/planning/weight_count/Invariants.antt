use Rattle.std.proofs.Common.{◌≡◌, ◌+◌, drop}
use Rattle.monos.specs.Layout.{value_count}
use Rattle.planner.proofs.planning.weight_count.Given as goal

-- the values so far and those of the coefficients that are left are all
abbrev pub invariant-loop-place : goal.invariant-loop-place
invariant-loop-place l = l.count + value_count (drop l.place-index l.coefs) ≡ value_count l.coefs
