use Rattle.typing.proofs.FittingLaws.{fitting}
use Rattle.typing.proofs.laws.fitting.Goals as goal

pub returns : goal.returns
returns c = fitting
