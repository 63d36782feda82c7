use Rattle.ufl_form.proofs.FitLaws as laws
use Rattle.ufl_form.proofs.laws.fitting.Goals as goal

pub returns : goal.returns
returns c = laws.builders_fit
