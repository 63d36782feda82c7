use Rattle.std.proofs.Common.{◌∙◌, ap, [], ◌∷◌}
use Rattle.calculus.specs.Polynomial.{coordinate, monomial}
use Rattle.reference.specs.declared.term.Axis.TheVariants.{X, Y, Z}
use Rattle.reference.proofs.Monomials.{x_term_of, y_term_of, z_term_of, at_axis}
use Rattle.reference.proofs.term.Term.coordinate.Goals as goal

pub returns-in-X : goal.returns-in-X
returns-in-X c = ap (λ x. monomial x (1 ∷ 0 ∷ 0 ∷ [])) c.one-coefficient.ensures ∙ x_term_of ∙ at_axis c.args.axis X c.in-X.is coordinate

pub returns-in-Y : goal.returns-in-Y
returns-in-Y c = ap (λ x. monomial x (0 ∷ 1 ∷ 0 ∷ [])) c.one-coefficient.ensures ∙ y_term_of ∙ at_axis c.args.axis Y c.in-Y.is coordinate

pub returns-in-Z : goal.returns-in-Z
returns-in-Z c = ap (λ x. monomial x (0 ∷ 0 ∷ 1 ∷ [])) c.one-coefficient.ensures ∙ z_term_of ∙ at_axis c.args.axis Z c.in-Z.is coordinate
