use Rattle.kernel_runs.proofs.TensorRun.{tensor_shares}
use Rattle.kernel_runs.proofs.BodyRun.{planned_shares}
use Rattle.kernel_runs.proofs.laws.planned_shares.Goals as goal

pub returns-clause-tensors : goal.returns-clause-tensors
returns-clause-tensors c = tensor_shares

pub returns-clause-fits : goal.returns-clause-fits
returns-clause-fits c = planned_shares ⊥
