use Rattle.std.proofs.Common.{sym, ap, ◌∙◌}
use Rattle.calculus.specs.Polynomial.{monomial, coordinate}
use Rattle.tree_values.proofs.Monomials.{powers, first_coordinate, second_coordinate, third_coordinate}
use Rattle.tree_values.proofs.term.Term.coordinate.Goals as goal

pub returns-in-0 : goal.returns-in-0
returns-in-0 c = ap (λ x. monomial x (powers 1 0 0 0 0 0)) c.one-coefficient.ensures ∙ first_coordinate ∙ ap coordinate (sym c.in-0.is)

pub returns-in-1 : goal.returns-in-1
returns-in-1 c = ap (λ x. monomial x (powers 0 1 0 0 0 0)) c.one-coefficient.ensures ∙ second_coordinate ∙ ap coordinate (sym c.in-1.is)

pub returns-in-2 : goal.returns-in-2
returns-in-2 c = ap (λ x. monomial x (powers 0 0 1 0 0 0)) c.one-coefficient.ensures ∙ third_coordinate ∙ ap coordinate (sym c.in-2.is)
