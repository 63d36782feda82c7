use Rattle.std.proofs.Common.{◌≡◌, ◌++◌, drop}
use Rattle.std.specs.List.{flat_map}
use Rattle.c_unit.specs.Meaning.{fractions_of}
use Rattle.assembly.specs.Assembly.{coefficient_values}
use Rattle.assembly.proofs.runs.gather_values.Given as goal

-- what is gathered and the values of the coefficients that are left are all
abbrev pub invariant-loop-coef : goal.invariant-loop-coef
invariant-loop-coef l = fractions_of l.w.items ++ flat_map (coefficient_values l.k) (drop l.coef-index l.coefs) ≡ flat_map (coefficient_values l.k) l.coefs
