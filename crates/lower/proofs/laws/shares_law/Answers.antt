use Rattle.lower.proofs.ShareLaws.{share_is, shares_weigh}
use Rattle.lower.proofs.laws.shares_law.Goals as goal

pub returns : goal.returns
returns c = record { value = share_is; weight = shares_weigh }
