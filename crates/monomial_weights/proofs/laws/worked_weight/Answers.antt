use Rattle.monomial_weights.proofs.WorkedWeight.{mass_admitted, mass_within}
use Rattle.monomial_weights.proofs.laws.worked_weight.Goals as goal

pub returns-clause-admitted : goal.returns-clause-admitted
returns-clause-admitted c = mass_admitted

pub returns-clause-within : goal.returns-clause-within
returns-clause-within c = mass_within
