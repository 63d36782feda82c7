use Rattle.ufl_syntax.proofs.Chains.{one_chain, flat_value}
use Rattle.ufl_syntax.proofs.laws.chains.Goals as goal

pub returns : goal.returns
returns c = record {
  one = one_chain;
  base = λ n ts e rest d. flat_value d;
}
