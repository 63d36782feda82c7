use Rattle.std.proofs.Common.{◌≡◌, take, ◌∷◌, map}
use Rattle.tree_values.proofs.component.all_before.Given as goal

abbrev pub invariant-loop-at : goal.invariant-loop-at
invariant-loop-at l = l.all ≡ map (λ b. l.k ∷ b) (take l.at-index l.components)
