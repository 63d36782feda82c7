use Rattle.form_values.proofs.LinearForms.{multilinear}
use Rattle.form_values.proofs.laws.linearity.Goals as goal

pub returns : goal.returns
returns g = multilinear
