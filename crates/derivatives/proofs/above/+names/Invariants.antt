use Rattle.std.proofs.Common.{◌≡◌, take, map}
use Rattle.ufl_tree.specs.Reading.{term_of, terms_of}
use Rattle.derivatives.specs.Naming.{terms_above}
use Rattle.derivatives.proofs.above.+names.Given as goal

abbrev pub invariant-list_names-loop-e : goal.invariant-list_names-loop-e
invariant-list_names-loop-e l = l.most ≡ terms_above (terms_of (map term_of (take l.e-index l.items)))
