use Rattle.monos.specs.Monomial.{monomial_of}
use Rattle.monomial_weights.proofs.SmallLaws.{is_small}
use Rattle.tensors.proofs.formed.tensor.Goals as goal

pub tensor_of-requires-clause-small : goal.tensor_of-requires-clause-small
tensor_of-requires-clause-small c = is_small c.args.l.now c.args.w.now (monomial_of c.args.m.now) c.requires.admitted c.requires.within
