use Rattle.std.proofs.Common.{◌≡◌, [], ◌∷◌}
use Rattle.ufl_tree.specs.Indices.{followed_by}
use Rattle.tree_values.specs.Scene.{gathered}
use Rattle.tree_values.proofs.operands.behind_each.Given as goal

abbrev pub invariant-loop-k : goal.invariant-loop-k
invariant-loop-k l = l.all ≡ gathered l.k (λ k. followed_by l.at k ∷ [])
