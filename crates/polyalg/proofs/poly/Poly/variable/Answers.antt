use Rattle.std.proofs.Common.{◌≡◌, [], ◌∷◌, subst, IfOk, arith}
use Rattle.ratio.specs.Value.{fraction_of}
use Rattle.calculus.specs.Polynomial.{coordinate, monomial}
use Rattle.polyalg.specs.Terms.{value_of}
use Rattle.polyalg.proofs.MonomialLaws.{coordinate_0, coordinate_1, coordinate_2, coordinate_monomial}
use Rattle.polyalg.specs.Exponents.{exponent}
use Rattle.polyalg.proofs.Variables.{in_first, in_second, in_third}
use Rattle.polyalg.proofs.poly.Poly.variable.Goals as goal
use Rattle.polyalg.proofs.poly.Poly.variable.Goals.{in-0, in-1, in_default}

pub returns-clause-value : goal.returns-clause-value
returns-clause-value c =
    subst (λ q. IfOk c.single.result (λ p. value_of p ≡ q))
    (elim c.match-k.branch as (λ _. monomial (fraction_of c.one.result) c.match-k.e ≡ coordinate c.args.k) [
      | in-0 w ↦ coordinate_monomial c.args.k _ _ (1 ∷ 0 ∷ 0 ∷ []) 0 c.one.ensures w.e-is coordinate_0 w.in-0.is
      | in-1 w ↦ coordinate_monomial c.args.k _ _ (0 ∷ 1 ∷ 0 ∷ []) 1 c.one.ensures w.e-is coordinate_1 w.in-1.is
      | in_default w ↦ coordinate_monomial c.args.k _ _ (0 ∷ 0 ∷ 1 ∷ []) 2 c.one.ensures w.e-is coordinate_2 (omega arith)
    ])
    c.single.ensures.value

pub returns-clause-variables : goal.returns-clause-variables
returns-clause-variables c d h =
    c.single.ensures.variables d
    (λ i l. elim c.match-k.branch as (λ _. exponent c.match-k.e i ≡ 0) [
      | in-0 w ↦ in_first c.args.k d i c.match-k.e w.e-is w.in-0.is h l
      | in-1 w ↦ in_second c.args.k d i c.match-k.e w.e-is w.in-1.is h l
      | in_default w ↦ in_third c.args.k d i c.match-k.e w.e-is (omega arith) h l
    ])
