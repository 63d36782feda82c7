use Rattle.std.proofs.Common.{◌≡◌, ◌++◌, drop, map}
use Rattle.ufl_tree.specs.Reading.{term_of}
use Rattle.integrands.specs.Integrands.{integrands_of}
use Rattle.form_monomials.specs.Markers.{bodies_in}
use Rattle.form_monomials.proofs.choice.bodies.Given as goal

-- the bodies that are copied and those of the integrands that are left are all
abbrev pub invariant-loop-p : goal.invariant-loop-p
invariant-loop-p l = map term_of l.all.items ++ bodies_in l.marker (integrands_of (drop l.p-index l.integrands)) ≡ bodies_in l.marker (integrands_of l.integrands)
