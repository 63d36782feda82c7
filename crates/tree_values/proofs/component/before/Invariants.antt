use Rattle.std.proofs.Common.{◌≡◌, take, ◌∷◌}
use Rattle.tree_values.proofs.component.before.Given as goal

abbrev pub invariant-loop-k : goal.invariant-loop-k
invariant-loop-k l = l.all ≡ l.i ∷ take l.k-index l.at
