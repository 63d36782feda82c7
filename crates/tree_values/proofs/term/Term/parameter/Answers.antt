use Rattle.std.proofs.Common.{sym, ap, ◌∙◌}
use Rattle.calculus.specs.Polynomial.{monomial}
use Rattle.ufl_meaning.specs.Environment.{parameter}
use Rattle.tree_values.proofs.Monomials.{powers, first_parameter, second_parameter, third_parameter}
use Rattle.tree_values.proofs.term.Term.parameter.Goals as goal

pub returns-in-0 : goal.returns-in-0
returns-in-0 c = ap (λ x. monomial x (powers 0 0 0 1 0 0)) c.one-coefficient.ensures ∙ first_parameter ∙ ap parameter (sym c.in-0.is)

pub returns-in-1 : goal.returns-in-1
returns-in-1 c = ap (λ x. monomial x (powers 0 0 0 0 1 0)) c.one-coefficient.ensures ∙ second_parameter ∙ ap parameter (sym c.in-1.is)

pub returns-in-2 : goal.returns-in-2
returns-in-2 c = ap (λ x. monomial x (powers 0 0 0 0 0 1)) c.one-coefficient.ensures ∙ third_parameter ∙ ap parameter (sym c.in-2.is)
