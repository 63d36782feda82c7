use Rattle.std.proofs.Common.{◌≡◌, ◌++◌, drop}
use Rattle.kernel_statements.specs.Digits.{coefficient_digits}
use Rattle.kernel_statements.proofs.digits.coefficients.Given as goal

-- the digits so far and those of the atoms that are left are all
abbrev pub invariant-loop-atom : goal.invariant-loop-atom
invariant-loop-atom l = l.digits.items ++ coefficient_digits l.l (drop l.atom-index l.atoms) ≡ coefficient_digits l.l l.atoms
