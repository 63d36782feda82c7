use Rattle.std.proofs.Common.{◌≡◌, take, map}
use Rattle.ufl_tree.specs.Reading.{term_of}
use Rattle.integrands.specs.Substitution.{substituted}
use Rattle.integrands.proofs.substitution.+substituting.Given as goal

abbrev pub invariant-all_substituted-loop-e : goal.invariant-all_substituted-loop-e
invariant-all_substituted-loop-e l = map term_of l.all ≡ map (λ e. substituted l.by (term_of e)) (take l.e-index l.items)
