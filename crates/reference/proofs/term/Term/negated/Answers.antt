use Rattle.std.proofs.Common.{◌∙◌, ap, [], ◌∷◌}
use Rattle.calculus.specs.Polynomial.{monomial}
use Rattle.calculus.proofs.Monomials.{monomial-negative}
use Rattle.reference.proofs.term.Term.negated.Goals as goal

pub returns : goal.returns
returns c = ap (λ x. monomial x (c.args.self.x ∷ c.args.self.y ∷ c.args.self.z ∷ [])) c.neg.ensures ∙ monomial-negative _ _
