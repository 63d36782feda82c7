use Rattle.std.proofs.Common.{◌≡◌, ◌≤◌, max, drop}
use Rattle.kernel_statements.specs.Statements.{most_columns, most_rows}
use Rattle.kernel_statements.proofs.body.buffers_of.Given as goal

abbrev pub invariant-loop-contraction : goal.invariant-loop-contraction
invariant-loop-contraction l = record {
  some : 1 ≤ l.buffers.columns;
  columns : max l.buffers.columns (most_columns (drop l.contraction-index l.contractions)) ≡ most_columns l.contractions;
  rows : max l.buffers.rows (most_rows (drop l.contraction-index l.contractions)) ≡ most_rows l.contractions;
}
