use Rattle.form_monomials.proofs.FormLaws.{form_within, weight_admitted}
use Rattle.form_monomials.proofs.laws.admitted.Goals as goal

pub returns-clause-within : goal.returns-clause-within
returns-clause-within c = form_within

pub returns-clause-admitted : goal.returns-clause-admitted
returns-clause-admitted c = weight_admitted
