use Rattle.std.proofs.Common.{sym, ap, ◌∙◌}
use Rattle.ratio.specs.Value.{fraction_of}
use Rattle.calculus.specs.Polynomial.{coefficient_of, monomial}
use Rattle.tree_values.proofs.Monomials.{powers, first_once, first_otherwise}
use Rattle.tree_values.proofs.term.Term.first_part.Goals as goal

pub returns-then-self-eq1 : goal.returns-then-self-eq1
returns-then-self-eq1 c =
    let t = c.args.self in
    sym (first_once (fraction_of t.coefficient) t.x t.y t.z t.second t.third)
    ∙ ap (λ n. coefficient_of 3 1 (monomial (fraction_of t.coefficient) (powers t.x t.y t.z n t.second t.third))) (sym c.if-self-eq1.true)

pub returns-else-self-eq1 : goal.returns-else-self-eq1
returns-else-self-eq1 c =
    let t = c.args.self in
    sym (first_otherwise (fraction_of t.coefficient) t.x t.y t.z t.first t.second t.third c.if-self-eq1.false)
