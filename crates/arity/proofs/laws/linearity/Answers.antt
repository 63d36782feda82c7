use Rattle.arity.proofs.Multilinear.{admitted_multilinear}
use Rattle.arity.proofs.laws.linearity.Goals as goal

pub returns : goal.returns
returns c = admitted_multilinear
