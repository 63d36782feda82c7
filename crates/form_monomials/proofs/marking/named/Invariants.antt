use Rattle.std.proofs.Common.{◌≡◌, ◌++◌, drop}
use Rattle.integrands.specs.Integrands.{integrands_of}
use Rattle.form_monomials.specs.Markers.{named}
use Rattle.form_monomials.proofs.marking.named.Given as goal

-- the markers that are found and those of the integrands that are left are all
abbrev pub invariant-loop-p : goal.invariant-loop-p
invariant-loop-p l = l.all.items ++ named (integrands_of (drop l.p-index l.integrands)) ≡ named (integrands_of l.integrands)
