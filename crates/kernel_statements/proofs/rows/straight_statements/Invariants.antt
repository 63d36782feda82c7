use Rattle.std.proofs.Common.{◌≡◌, ◌+◌, ◌-◌, ◌*◌, ◌≤◌, drop}
use Rattle.c_unit.specs.Meaning.{fractions_of}
use Rattle.kernel_statements.specs.Emitted.{cut}
use Rattle.kernel_statements.proofs.RowLaws.{rows_count}
use Rattle.kernel_statements.proofs.rows.straight_statements.Given as goal

abbrev pub invariant-loop-k : goal.invariant-loop-k
invariant-loop-k l = record {
  counted : l.count + rows_count (cut l.width (l.rows - l.k) (fractions_of (drop (l.k * l.width) l.items))) ≡ rows_count (cut l.width l.rows (fractions_of l.items));
  few : l.count ≤ 3 * (l.k * l.width);
}
