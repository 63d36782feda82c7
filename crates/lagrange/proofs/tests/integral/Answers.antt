use Rattle.std.proofs.Common.{◌≤◌, sym, subst}
use Rattle.polyalg.specs.ReferenceIntegral.{VariablesBelow}
use Rattle.spaces.specs.Cell.{dimension}
use Rattle.spaces.proofs.NodeLaws.{dimension_range}
use Rattle.lagrange.proofs.tests.integral.Goals as goal

pub ref_integral-requires-clause-dimension : goal.ref_integral-requires-clause-dimension
ref_integral-requires-clause-dimension c = subst (λ d. (1 ≤ d) × (d ≤ 3)) (sym c.dim.ensures) (dimension_range c.args.cell)

pub ref_integral-requires-clause-variables : goal.ref_integral-requires-clause-variables
ref_integral-requires-clause-variables c =
    subst (λ d. VariablesBelow d c.in_ok-product.product) (sym c.dim.ensures)
    (c.in_ok-product.ensures.variables (dimension c.args.cell) c.in_ok-left.ensures.variables c.in_ok-right.ensures.variables)
