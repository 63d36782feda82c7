use Rattle.polyalg.proofs.Variables.{only_three}
use Rattle.polyalg.proofs.tests.in_tetrahedron.Goals as goal

pub ref_integral-requires-clause-variables : goal.ref_integral-requires-clause-variables
ref_integral-requires-clause-variables c = c.in_ok-p.ensures.variables 3 (λ i l. only_three _ _ _ i l)
