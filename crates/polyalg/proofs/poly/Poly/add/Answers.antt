use Rattle.std.proofs.Common.{sym, ◌∙◌, subst}
use Rattle.polyalg.specs.ReferenceIntegral.{VariablesBelow}
use Rattle.polyalg.proofs.poly.Poly.add.Goals as goal

pub returns-clause-variables : goal.returns-clause-variables
returns-clause-variables c d h g =
    c.in_ok-terms.ensures.variables d (subst (VariablesBelow d) (sym (c.as_slice.ensures.value ∙ c.self.view_is)) h)
    (subst (VariablesBelow d) (sym (c.as_slice-2.ensures.value ∙ c.o.view_is)) g)
