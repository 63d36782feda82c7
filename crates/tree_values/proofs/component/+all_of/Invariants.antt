use Rattle.std.proofs.Common.{◌≡◌, length, ◌∷◌, map}
use Rattle.tree_values.specs.Scene.{gathered}
use Rattle.tree_values.proofs.component.+all_of.Given as goal

abbrev pub decreases-all_of : goal.decreases-all_of
decreases-all_of l = length l.shape.now

abbrev pub invariant-loop-k : goal.invariant-loop-k
invariant-loop-k l = l.all ≡ gathered l.k (λ k. map (λ b. k ∷ b) l.behind)
