use Rattle.monomial_items.proofs.ZeroLaws.{number_zero, partless_zero, tests_zero, trials_zero}
use Rattle.monomial_items.proofs.laws.zeros.Goals as goal

pub returns-clause-number : goal.returns-clause-number
returns-clause-number c = number_zero

pub returns-clause-partless : goal.returns-clause-partless
returns-clause-partless c = partless_zero

pub returns-clause-tests : goal.returns-clause-tests
returns-clause-tests c = tests_zero

pub returns-clause-trials : goal.returns-clause-trials
returns-clause-trials c = trials_zero
