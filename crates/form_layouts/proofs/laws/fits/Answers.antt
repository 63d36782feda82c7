use Rattle.form_layouts.proofs.FitLaws.{form_fits}
use Rattle.form_layouts.proofs.laws.fits.Goals as goal

pub returns : goal.returns
returns c = form_fits
