use Rattle.std.proofs.Common.{refl}
use Rattle.spaces.specs.declared.cell.Cell.TheVariants.{Interval}
use Rattle.form_values.specs.Mass.{mass_problem, no_others}
use Rattle.form_values.proofs.MassCase.{mass_case, mass_rows}
use Rattle.form_values.proofs.MassLaws.{mass_fits, mass_is_multilinear}
use Rattle.form_values.proofs.laws.mass_case.Goals as goal

pub returns-clause-fits : goal.returns-clause-fits
returns-clause-fits g = mass_fits

pub returns-clause-multilinear : goal.returns-clause-multilinear
returns-clause-multilinear g = λ c m. mass_is_multilinear (mass_problem c m) no_others Interval c 0 refl

pub returns-clause-values : goal.returns-clause-values
returns-clause-values g = mass_case

pub returns-clause-rows : goal.returns-clause-rows
returns-clause-rows g = mass_rows
