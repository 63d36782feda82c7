use Rattle.form_values.proofs.MassRunLaws.{sums_are_values, has_matrix}
use Rattle.form_values.proofs.laws.matrix.Goals as goal

pub returns-clause-values : goal.returns-clause-values
returns-clause-values g = sums_are_values

pub returns-clause-whole : goal.returns-clause-whole
returns-clause-whole g = has_matrix
