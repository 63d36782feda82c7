use Rattle.std.proofs.Common.{sym, ◌∙◌, subst}
use Rattle.polyalg.specs.ReferenceIntegral.{VariablesBelow}
use Rattle.polyalg.proofs.poly.Poly.derive.Goals as goal

pub returns-clause-variables : goal.returns-clause-variables
returns-clause-variables c d h = c.in_ok-terms.ensures.variables d (subst (VariablesBelow d) (sym (c.as_slice.ensures.value ∙ c.self.view_is)) h)
