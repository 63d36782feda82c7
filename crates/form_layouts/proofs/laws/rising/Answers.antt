use Rattle.form_layouts.proofs.OccurringLaws.{coefficients_rise}
use Rattle.form_layouts.proofs.laws.rising.Goals as goal

pub returns : goal.returns
returns c = coefficients_rise
