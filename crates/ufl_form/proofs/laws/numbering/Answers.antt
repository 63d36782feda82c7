use Rattle.ufl_form.proofs.FitLaws as laws
use Rattle.ufl_form.proofs.laws.numbering.Goals as goal

pub returns : goal.returns
returns c = laws.builders_number
