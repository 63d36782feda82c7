use Rattle.std.proofs.Common.{sym, ap, ap₂, ◌∙◌}
use Rattle.algebra.specs.Fraction.{mul}
use Rattle.ratio.specs.Value.{fraction_of}
use Rattle.calculus.specs.Polynomial.{monomial, constant}
use Rattle.calculus.proofs.PolynomialLaws.{constant-zero}
use Rattle.ufl_meaning.specs.Operators.{along}
use Rattle.tree_values.specs.TermValue.{term_of}
use Rattle.tree_values.proofs.Monomials.{powers, x_derivative, y_derivative, z_derivative}
use Rattle.tree_values.proofs.Along.{no_direction}
use Rattle.tree_values.proofs.term.Term.along.Goals as goal

pub returns-in_ok-product : goal.returns-in_ok-product
returns-in_ok-product c =
    let t = c.args.self in
    ap₂ (λ x n. monomial x (powers n t.y t.z t.first t.second t.third)) (c.in_ok-product.ensures ∙ ap (λ x. mul x (fraction_of t.coefficient)) c.in_ok-whole.ensures) c.lower.ensures
    ∙ sym (x_derivative (fraction_of t.coefficient) t.x t.y t.z t.first t.second t.third)
    ∙ ap (λ d. along d (term_of t)) (sym c.if-direction-eq0.true)

pub returns-in_ok-product-2 : goal.returns-in_ok-product-2
returns-in_ok-product-2 c =
    let t = c.args.self in
    ap₂ (λ x n. monomial x (powers t.x n t.z t.first t.second t.third)) (c.in_ok-product-2.ensures ∙ ap (λ x. mul x (fraction_of t.coefficient)) c.in_ok-whole-2.ensures) c.lower-then-direction-eq1.ensures
    ∙ sym (y_derivative (fraction_of t.coefficient) t.x t.y t.z t.first t.second t.third)
    ∙ ap (λ d. along d (term_of t)) (sym c.if-direction-eq1.true)

pub returns-in_ok-product-3 : goal.returns-in_ok-product-3
returns-in_ok-product-3 c =
    let t = c.args.self in
    ap₂ (λ x n. monomial x (powers t.x t.y n t.first t.second t.third)) (c.in_ok-product-3.ensures ∙ ap (λ x. mul x (fraction_of t.coefficient)) c.in_ok-whole-3.ensures) c.lower-then-direction-eq2.ensures
    ∙ sym (z_derivative (fraction_of t.coefficient) t.x t.y t.z t.first t.second t.third)
    ∙ ap (λ d. along d (term_of t)) (sym c.if-direction-eq2.true)

pub returns-else-direction-eq2 : goal.returns-else-direction-eq2
returns-else-direction-eq2 c =
    c.constant.ensures ∙ ap constant c.zero.ensures ∙ constant-zero
    ∙ sym (no_direction c.args.direction (term_of c.args.self) c.if-direction-eq0.false c.if-direction-eq1.false c.if-direction-eq2.false)
