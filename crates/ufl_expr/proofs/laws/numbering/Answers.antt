use Rattle.ufl_expr.proofs.FitLaws as laws
use Rattle.ufl_expr.proofs.laws.numbering.Goals as goal

pub returns : goal.returns
returns c = laws.builders_number
