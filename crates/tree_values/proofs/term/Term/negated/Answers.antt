use Rattle.std.proofs.Common.{◌∙◌, ap}
use Rattle.calculus.specs.Polynomial.{monomial}
use Rattle.calculus.proofs.Monomials.{monomial-negative}
use Rattle.tree_values.proofs.Monomials.{powers}
use Rattle.tree_values.proofs.term.Term.negated.Goals as goal

pub returns : goal.returns
returns c =
    let t = c.args.self in
    ap (λ x. monomial x (powers t.x t.y t.z t.first t.second t.third)) c.neg.ensures ∙ monomial-negative _ _
