use Rattle.std.proofs.Common.{◌≡◌, drop}
use Rattle.c_unit.specs.Meaning.{fractions_of}
use Rattle.kernel_statements.specs.Counted.{is_zero_row, leading}
use Rattle.kernel_statements.proofs.counted.first_nonzero.Given as goal

-- the items so far are 0
abbrev pub invariant-loop-item : goal.invariant-loop-item
invariant-loop-item l = record {
  zero : is_zero_row (fractions_of l.row) ≡ is_zero_row (fractions_of (drop l.item-index l.row));
  leading : leading (fractions_of l.row) ≡ leading (fractions_of (drop l.item-index l.row));
}
