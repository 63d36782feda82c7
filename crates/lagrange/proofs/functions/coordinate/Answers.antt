use Rattle.std.proofs.Common.{◌≡◌, arith, ap, ◌∙◌, sym, subst, IfOk}
use Rattle.calculus.specs.Polynomial.{constant}
use Rattle.calculus.proofs.PolynomialLaws.{constant-one}
use Rattle.calculus.proofs.Barycentric.{basis_coordinate}
use Rattle.polyalg.specs.Terms.{value_of}
use Rattle.lagrange.proofs.FactorLaws.{within_is, beyond_is}
use Rattle.lagrange.proofs.functions.coordinate.Goals as goal

pub returns-then-j-eq0-clause-value : goal.returns-then-j-eq0-clause-value
returns-then-j-eq0-clause-value c = subst (λ n. IfOk c.corner.result (λ p. value_of p ≡ basis_coordinate c.args.d n)) (sym c.if-j-eq0.true) c.corner.ensures.value

pub returns-then-j-d-clause-value : goal.returns-then-j-d-clause-value
returns-then-j-d-clause-value c = c.in_ok-one.ensures.value ∙ ap constant c.one.ensures ∙ constant-one ∙ sym (beyond_is c.args.d c.args.j (omega (arith, c.if-j-d.true)))

pub returns-clause-value : goal.returns-clause-value
returns-clause-value c = c.in_ok-variable.ensures.value ∙ sym (within_is c.args.d c.args.j (omega (arith, c.if-j-eq0.false)) (omega (arith, c.if-j-d.false)))

pub returns-then-j-d-clause-variables : goal.returns-then-j-d-clause-variables
returns-then-j-d-clause-variables c = c.in_ok-one.ensures.variables c.args.d
