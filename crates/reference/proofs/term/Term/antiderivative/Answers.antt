use Rattle.std.proofs.Common.{◌∙◌, sym, ap, ap₂, [], ◌∷◌}
use Rattle.ratio.specs.Value.{fraction_of}
use Rattle.calculus.specs.Polynomial.{antiderivative, monomial}
use Rattle.reference.specs.declared.term.Axis.TheVariants.{X, Y, Z}
use Rattle.reference.specs.TermValue.{term_of}
use Rattle.reference.proofs.Monomials.{x_antiderivative, y_antiderivative, z_antiderivative, at_axis}
use Rattle.reference.proofs.term.Term.antiderivative.Goals as goal

pub returns-in_ok-coefficient-in-X : goal.returns-in_ok-coefficient-in-X
returns-in_ok-coefficient-in-X c =
    ap₂ monomial c.in_ok-coefficient-in-X.ensures.coefficient (ap (λ x. x ∷ c.args.self.y ∷ c.args.self.z ∷ []) c.in_ok-coefficient-in-X.ensures.power)
    ∙ sym (x_antiderivative (fraction_of c.args.self.coefficient) c.args.self.x c.args.self.y c.args.self.z)
    ∙ at_axis c.args.axis X c.in-X.is (λ i. antiderivative i (term_of c.args.self))

pub returns-in_ok-coefficient-in-Y : goal.returns-in_ok-coefficient-in-Y
returns-in_ok-coefficient-in-Y c =
    ap₂ monomial c.in_ok-coefficient-in-Y.ensures.coefficient (ap (λ y. c.args.self.x ∷ y ∷ c.args.self.z ∷ []) c.in_ok-coefficient-in-Y.ensures.power)
    ∙ sym (y_antiderivative (fraction_of c.args.self.coefficient) c.args.self.x c.args.self.y c.args.self.z)
    ∙ at_axis c.args.axis Y c.in-Y.is (λ i. antiderivative i (term_of c.args.self))

pub returns-in_ok-coefficient-in-Z : goal.returns-in_ok-coefficient-in-Z
returns-in_ok-coefficient-in-Z c =
    ap₂ monomial c.in_ok-coefficient-in-Z.ensures.coefficient (ap (λ z. c.args.self.x ∷ c.args.self.y ∷ z ∷ []) c.in_ok-coefficient-in-Z.ensures.power)
    ∙ sym (z_antiderivative (fraction_of c.args.self.coefficient) c.args.self.x c.args.self.y c.args.self.z)
    ∙ at_axis c.args.axis Z c.in-Z.is (λ i. antiderivative i (term_of c.args.self))
