use Rattle.polyalg.proofs.Variables.{only_two}
use Rattle.polyalg.proofs.tests.on_triangle.Goals as goal

pub ref_integral-requires-clause-variables : goal.ref_integral-requires-clause-variables
ref_integral-requires-clause-variables c = c.in_ok-p.ensures.variables 2 (λ i l. only_two c.args.a c.args.b i l)
