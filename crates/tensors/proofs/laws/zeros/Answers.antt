use Rattle.tensors.proofs.ExhaustedLaws.{dead_zero}
use Rattle.tensors.proofs.OutsideLaws.{outside_tests, outside_trials}
use Rattle.tensors.proofs.laws.zeros.Goals as goal

pub returns-clause-tests : goal.returns-clause-tests
returns-clause-tests c = outside_tests

pub returns-clause-trials : goal.returns-clause-trials
returns-clause-trials c = outside_trials

pub returns-clause-exhausted : goal.returns-clause-exhausted
returns-clause-exhausted c = dead_zero
