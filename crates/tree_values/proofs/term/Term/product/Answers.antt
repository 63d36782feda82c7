use Rattle.std.proofs.Common.{ap₂, ◌∙◌, [], ◌∷◌}
use Rattle.calculus.specs.Polynomial.{monomial}
use Rattle.tree_values.proofs.Monomials.{product_term}
use Rattle.tree_values.proofs.term.Term.product.Goals as goal

pub returns : goal.returns
returns c =
    ap₂ monomial c.in_ok-product.ensures
    (ap₂ (λ x w. x ∷ w) c.in_ok-power_sum.ensures (ap₂ (λ x w. x ∷ w) c.in_ok-power_sum-2.ensures (ap₂ (λ x w. x ∷ w) c.in_ok-power_sum-3.ensures
    (ap₂ (λ x w. x ∷ w) c.in_ok-power_sum-4.ensures (ap₂ (λ x y. x ∷ y ∷ []) c.in_ok-power_sum-5.ensures c.in_ok-power_sum-6.ensures)))))
    ∙ product_term _ _ _ _ _ _ _ _ _ _ _ _ _ _
