use Rattle.form_weights.proofs.WeightLaws.{sum_weighed, all_within}
use Rattle.form_weights.proofs.laws.weights.Goals as goal

pub returns-clause-sum : goal.returns-clause-sum
returns-clause-sum c = sum_weighed

pub returns-clause-each : goal.returns-clause-each
returns-clause-each c = all_within
