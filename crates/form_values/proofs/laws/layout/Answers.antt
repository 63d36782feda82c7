use Rattle.form_values.proofs.Layouts.{layout_lawful}
use Rattle.form_values.proofs.Starts.{length-values}
use Rattle.form_values.proofs.laws.layout.Goals as goal

pub returns-clause-lawful : goal.returns-clause-lawful
returns-clause-lawful g = layout_lawful

pub returns-clause-values : goal.returns-clause-values
returns-clause-values g = λ p o fits k. length-values p o k fits
