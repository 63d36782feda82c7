use Rattle.calculus.proofs.MassShare.{mass_share_value}
use Rattle.calculus.proofs.laws.mass_share.Goals as goal

pub returns : goal.returns
returns c = mass_share_value
