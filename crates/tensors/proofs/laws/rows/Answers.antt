use Rattle.tensors.proofs.RowLaws.{rows_at, rows_counted}
use Rattle.tensors.proofs.laws.rows.Goals as goal

pub returns-clause-row : goal.returns-clause-row
returns-clause-row c = rows_at

pub returns-clause-count : goal.returns-clause-count
returns-clause-count c = rows_counted
