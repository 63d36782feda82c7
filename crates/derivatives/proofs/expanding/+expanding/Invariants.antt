use Rattle.std.proofs.Common.{◌≡◌, take, map}
use Rattle.ufl_tree.specs.Reading.{term_of}
use Rattle.passes.specs.Names.{renaming_of}
use Rattle.perturb.specs.Expanding.{expand}
use Rattle.derivatives.proofs.expanding.+expanding.Given as goal

abbrev pub invariant-all_expanded-loop-e : goal.invariant-all_expanded-loop-e
invariant-all_expanded-loop-e l = map term_of l.all ≡ map (λ e. expand (term_of e) (renaming_of l.names) l.next) (take l.e-index l.items)
