use Rattle.std.proofs.Common.{◌≡◌, ◌+◌, ◌*◌, ◌≤◌, drop}
use Rattle.c_unit.specs.Meaning.{fractions_of}
use Rattle.kernel_statements.proofs.RowLaws.{nonzeros}
use Rattle.kernel_statements.proofs.rows.row_statements.Given as goal

abbrev pub invariant-loop-item : goal.invariant-loop-item
invariant-loop-item l = record {
  counted : l.count + 3 * nonzeros (fractions_of (drop l.item-index l.row)) ≡ 3 * nonzeros (fractions_of l.row);
  few : l.count ≤ 3 * l.item-index;
}
