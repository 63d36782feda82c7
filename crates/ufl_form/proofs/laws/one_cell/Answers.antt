use Rattle.ufl_form.proofs.CellLaws as laws
use Rattle.ufl_form.proofs.laws.one_cell.Goals as goal

pub returns : goal.returns
returns c = laws.form_on
