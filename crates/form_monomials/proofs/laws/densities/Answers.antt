use Rattle.form_monomials.proofs.FormLaws.{density_there, density_everywhere}
use Rattle.form_monomials.proofs.laws.densities.Goals as goal

pub returns-clause-there : goal.returns-clause-there
returns-clause-there c = density_there

pub returns-clause-everywhere : goal.returns-clause-everywhere
returns-clause-everywhere c = density_everywhere
