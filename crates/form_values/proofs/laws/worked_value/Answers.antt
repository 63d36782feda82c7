use Rattle.form_values.proofs.WorkedValue.{square_value, no_second_row}
use Rattle.form_values.proofs.laws.worked_value.Goals as goal

pub returns-clause-value : goal.returns-clause-value
returns-clause-value g = square_value

pub returns-clause-only : goal.returns-clause-only
returns-clause-only g = no_second_row
