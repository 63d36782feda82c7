use Rattle.std.proofs.Common.{◌≡◌, take}
use Rattle.std.specs.List.{flat_map}
use Rattle.monos.specs.Monomial.{directions}
use Rattle.kernel_statements.proofs.digits.directions.Given as goal

-- the directions of the atoms so far
abbrev pub invariant-loop-atom : goal.invariant-loop-atom
invariant-loop-atom l = l.all.items ≡ flat_map directions (take l.atom-index l.atoms)
