use Rattle.ufl_syntax.proofs.Unique.{one_reading}
use Rattle.ufl_syntax.proofs.laws.unambiguous.Goals as goal

pub returns : goal.returns
returns c = one_reading
