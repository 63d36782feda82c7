use Rattle.std.proofs.Common.{refl}
use Rattle.lower.proofs.BoundsKept.{lower_bounds}
use Rattle.lower.proofs.ShareLaws.{shares_weigh}
use Rattle.lower.specs.Shares.{share_of}
use Rattle.lower.proofs.laws.bounds_law.Goals as goal

pub returns : goal.returns
returns c = record {
  bounds = λ elements. lower_bounds elements share_of shares_weigh;
  nothing = λ elements e n env v. refl;
}
