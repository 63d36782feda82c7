use Rattle.ufl_read.proofs.Exact.{statements_or_fault, one_fault, no_fault}
use Rattle.ufl_read.proofs.laws.one_fault.Goals as goal

pub returns : goal.returns
returns c = record {
  some = statements_or_fault;
  only = one_fault;
  apart = λ n all sts e f. no_fault n all sts.0 e sts.1 f;
}
