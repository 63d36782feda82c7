use Rattle.polyalg.proofs.Variables.{only_first}
use Rattle.polyalg.proofs.tests.on_interval.Goals as goal

pub ref_integral-requires-clause-variables : goal.ref_integral-requires-clause-variables
ref_integral-requires-clause-variables c = c.in_ok-p.ensures.variables 1 (λ i l. only_first c.args.a i l)
