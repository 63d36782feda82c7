use Rattle.polyalg.proofs.DerivedBounds.{derivatives_fit, derived_bounded}
use Rattle.polyalg.proofs.bounds.derivatives.Goals as goal

pub returns-clause-fits : goal.returns-clause-fits
returns-clause-fits c l b n k terms h g p d s = derivatives_fit l b n k terms h g p.terms d s

pub returns-clause-bounds : goal.returns-clause-bounds
returns-clause-bounds c = derived_bounded
