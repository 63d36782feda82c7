use Rattle.std.proofs.Common.{◌≡◌, [], ◌∷◌}
use Rattle.tree_values.specs.Scene.{gathered}
use Rattle.tree_values.proofs.operands.before_each.Given as goal

abbrev pub invariant-loop-k : goal.invariant-loop-k
invariant-loop-k l = l.all ≡ gathered l.k (λ k. (k ∷ l.at) ∷ [])
