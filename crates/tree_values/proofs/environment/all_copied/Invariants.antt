use Rattle.std.proofs.Common.{◌≡◌, take}
use Rattle.tree_values.proofs.environment.all_copied.Given as goal

abbrev pub invariant-loop-one : goal.invariant-loop-one
invariant-loop-one l = l.all ≡ take l.one-index l.changes
