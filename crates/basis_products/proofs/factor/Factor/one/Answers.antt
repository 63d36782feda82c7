use Rattle.std.proofs.Common.{◌++◌, [], ◌∷◌, map, ap, sym, subst, ◌∙◌}
use Rattle.polyalg.specs.Prelude.{value_of}
use Rattle.basis_products.specs.Functions.{AreBounded}
use Rattle.basis_products.proofs.ProductLaws.{one_value, one_bounded}
use Rattle.basis_products.proofs.factor.Factor.one.Goals as goal

pub returns-clause-value : goal.returns-clause-value
returns-clause-value c =
    ap (map value_of) (c.in_ok-push.ensures.items ∙ ap (λ r. r ++ c.in_ok-one.one ∷ []) c.new-functions.ensures.items)
    ∙ ap (λ p. p ∷ []) (one_value c.in_ok-one.one _ c.in_ok-one.ensures.value c.one.ensures)

pub returns-clause-bounds : goal.returns-clause-bounds
returns-clause-bounds c d =
    subst (AreBounded d 0 1 1) (sym (c.in_ok-push.ensures.items ∙ ap (λ r. r ++ c.in_ok-one.one ∷ []) c.new-functions.ensures.items))
    (one_bounded d c.in_ok-one.one _ c.in_ok-one.ensures.value c.one.ensures c.in_ok-one.ensures.degree (c.in_ok-one.ensures.variables d) c.in_ok-one.ensures.lawful, tt)
