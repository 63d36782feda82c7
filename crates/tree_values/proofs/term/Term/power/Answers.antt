use Rattle.std.proofs.Common.{sym, ap, get_or}
use Rattle.ufl_meaning.specs.Environment.{parameter_number}
use Rattle.tree_values.specs.TermValue.{powers_of}
use Rattle.tree_values.proofs.Monomials.{no_power}
use Rattle.tree_values.proofs.term.Term.power.Goals as goal

pub returns-then-k-eq0 : goal.returns-then-k-eq0
returns-then-k-eq0 c = ap (λ k. get_or (powers_of c.args.self) (parameter_number k) 0) (sym c.if-k-eq0.true)

pub returns-then-k-eq1 : goal.returns-then-k-eq1
returns-then-k-eq1 c = ap (λ k. get_or (powers_of c.args.self) (parameter_number k) 0) (sym c.if-k-eq1.true)

pub returns-then-k-eq2 : goal.returns-then-k-eq2
returns-then-k-eq2 c = ap (λ k. get_or (powers_of c.args.self) (parameter_number k) 0) (sym c.if-k-eq2.true)

pub returns-else-k-eq2 : goal.returns-else-k-eq2
returns-else-k-eq2 c =
    let t = c.args.self in
    no_power c.args.k t.x t.y t.z t.first t.second t.third c.if-k-eq0.false c.if-k-eq1.false c.if-k-eq2.false
