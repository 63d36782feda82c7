use Rattle.std.proofs.Common.{◌≡◌, ◌++◌, drop, map, get_or}
use Rattle.algebra.specs.Fraction.{zero_fraction}
use Rattle.c_unit.specs.Meaning.{fractions_of}
use Rattle.assembly.proofs.runs.push_values.Given as goal

-- what is gathered and the values of the rows that are left are all
abbrev pub invariant-loop-row : goal.invariant-loop-row
invariant-loop-row l =
    fractions_of l.w.items ++ map (λ r. get_or (fractions_of l.coef.values.items) r zero_fraction) (drop l.row-index l.rows)
    ≡ fractions_of l.initial.w.items ++ map (λ r. get_or (fractions_of l.coef.values.items) r zero_fraction) l.rows
