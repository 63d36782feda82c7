use Rattle.refint.proofs.LocalLaws.{density_shares}
use Rattle.refint.proofs.laws.density_shares.Goals as goal

pub returns : goal.returns
returns c = density_shares
