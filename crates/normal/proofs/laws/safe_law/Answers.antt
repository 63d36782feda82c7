use Rattle.normal.proofs.SafeLaws.{admitted_safe}
use Rattle.normal.proofs.laws.safe_law.Goals as goal

pub returns : goal.returns
returns c = admitted_safe
