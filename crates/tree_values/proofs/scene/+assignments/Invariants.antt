use Rattle.std.proofs.Common.{◌≡◌, length, ◌++◌, [], ◌∷◌}
use Rattle.tree_values.specs.Scene.{assigned, gathered}
use Rattle.tree_values.proofs.scene.+assignments.Given as goal

abbrev pub decreases-assignments : goal.decreases-assignments
decreases-assignments l = length l.summed.now

abbrev pub invariant-loop-k : goal.invariant-loop-k
invariant-loop-k l = l.all ≡ gathered l.k (λ k. assigned l.rest (l.names ++ record { index = l.first.index; value = k } ∷ []))
