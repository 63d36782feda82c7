use Rattle.std.proofs.Common.{sym, ap, ◌∙◌}
use Rattle.ratio.specs.Value.{fraction_of}
use Rattle.calculus.specs.Polynomial.{coefficient_of}
use Rattle.ufl_meaning.specs.Environment.{parameter_number}
use Rattle.tree_values.specs.TermValue.{term_of}
use Rattle.tree_values.proofs.Monomials.{no_parameter}
use Rattle.tree_values.proofs.term.Term.linear_part.Goals as goal

pub returns-then-k-eq0 : goal.returns-then-k-eq0
returns-then-k-eq0 c = c.first_part.ensures ∙ ap (λ k. coefficient_of (parameter_number k) 1 (term_of c.args.self)) (sym c.if-k-eq0.true)

pub returns-then-k-eq1 : goal.returns-then-k-eq1
returns-then-k-eq1 c = c.second_part.ensures ∙ ap (λ k. coefficient_of (parameter_number k) 1 (term_of c.args.self)) (sym c.if-k-eq1.true)

pub returns-then-k-eq2 : goal.returns-then-k-eq2
returns-then-k-eq2 c = c.third_part.ensures ∙ ap (λ k. coefficient_of (parameter_number k) 1 (term_of c.args.self)) (sym c.if-k-eq2.true)

pub returns-else-k-eq2 : goal.returns-else-k-eq2
returns-else-k-eq2 c =
    let t = c.args.self in
    sym (no_parameter c.args.k (fraction_of t.coefficient) t.x t.y t.z t.first t.second t.third c.if-k-eq0.false c.if-k-eq1.false c.if-k-eq2.false)
