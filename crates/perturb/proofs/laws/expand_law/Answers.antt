use Rattle.ufl_meaning.proofs.EnvironmentLaws.{raised_only_used, turned_only_used}
use Rattle.perturb.proofs.BoundsKept.{whatever_bounds}
use Rattle.perturb.proofs.CoefficientsOf.{coefficient_laws, parameter_times_one}
use Rattle.perturb.proofs.MeaningKept.{expand_means, expand_ready}
use Rattle.perturb.proofs.laws.expand_law.Goals as goal

pub returns : goal.returns
returns c = record {
  meaning = λ elements e env u n w v r s.
      expand_means coefficient_laws elements (λ k l b env. raised_only_used l b env) turned_only_used parameter_times_one e env u n w v r s;
  ready = expand_ready;
  bounds = whatever_bounds;
}
