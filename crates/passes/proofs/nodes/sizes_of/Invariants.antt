use Rattle.std.proofs.Common.{◌≡◌, take, map}
use Rattle.passes.proofs.nodes.sizes_of.Given as goal

abbrev pub invariant-loop-one : goal.invariant-loop-one
invariant-loop-one l = l.all ≡ map (λ x. x.dim) (take l.one-index l.free)
