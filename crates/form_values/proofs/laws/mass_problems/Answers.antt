use Rattle.form_values.proofs.MassProblems.{same_values, test_rows, trial_rows}
use Rattle.form_values.proofs.laws.mass_problems.Goals as goal

pub returns-clause-values : goal.returns-clause-values
returns-clause-values c = same_values

pub returns-clause-rows : goal.returns-clause-rows
returns-clause-rows c = test_rows

pub returns-clause-columns : goal.returns-clause-columns
returns-clause-columns c = trial_rows
