use Rattle.std.proofs.Common.{◌≡◌, take, map}
use Rattle.ufl_tree.specs.Reading.{term_of}
use Rattle.derivatives.specs.Derivation.{derivative_of}
use Rattle.derivatives.proofs.derivation.+differentiating.Given as goal

abbrev pub invariant-all_derivatives-loop-e : goal.invariant-all_derivatives-loop-e
invariant-all_derivatives-loop-e l = map term_of l.all ≡ map (λ e. derivative_of l.by (term_of e)) (take l.e-index l.items)
