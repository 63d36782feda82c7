use Rattle.ufl_read.proofs.Outcome.{one_file, one_refusal, not_refused}
use Rattle.ufl_read.proofs.laws.one_outcome.Goals as goal

pub returns : goal.returns
returns c = record {
  statements = one_file;
  refusal = one_refusal;
  apart = not_refused;
}
