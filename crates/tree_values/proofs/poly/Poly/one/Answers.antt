use Rattle.std.proofs.Common.{◌∙◌, ap}
use Rattle.calculus.specs.Polynomial.{constant}
use Rattle.calculus.proofs.PolynomialLaws.{constant-one}
use Rattle.tree_values.proofs.poly.Poly.one.Goals as goal

pub returns : goal.returns
returns c = c.in_ok-one.ensures ∙ ap constant c.one.ensures ∙ constant-one
