use Rattle.std.proofs.Common.{◌≡◌, take, ◌∷◌}
use Rattle.passes.proofs.indices.before.Given as goal

abbrev pub invariant-loop-k : goal.invariant-loop-k
invariant-loop-k l = l.all ≡ l.fn.i ∷ take l.k-index l.at
