use Rattle.lagrange.proofs.SumLaws.{sum_of_basis}
use Rattle.lagrange.proofs.laws.sum_of_basis.Goals as goal

pub returns : goal.returns
returns c = sum_of_basis
