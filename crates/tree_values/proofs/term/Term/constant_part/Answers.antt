use Rattle.std.proofs.Common.{sym, ◌∙◌}
use Rattle.ratio.specs.Value.{fraction_of}
use Rattle.ufl_meaning.specs.Environment.{parameter_number}
use Rattle.tree_values.specs.TermValue.{powers_of}
use Rattle.tree_values.proofs.Monomials.{constant_part, no_constant_part}
use Rattle.tree_values.proofs.term.Term.constant_part.Goals as goal

pub returns-then-power-eq0 : goal.returns-then-power-eq0
returns-then-power-eq0 c =
    sym (constant_part (parameter_number c.args.k) (fraction_of c.args.self.coefficient) (powers_of c.args.self) (sym c.power.ensures ∙ c.if-power-eq0.true))

pub returns-else-power-eq0 : goal.returns-else-power-eq0
returns-else-power-eq0 c =
    sym (no_constant_part (parameter_number c.args.k) c.power.result (fraction_of c.args.self.coefficient) (powers_of c.args.self) (sym c.power.ensures) c.if-power-eq0.false)
