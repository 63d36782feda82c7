use Rattle.std.proofs.Common.{◌∙◌, sym}
use Rattle.ratio.specs.Value.{fraction_of}
use Rattle.reference.proofs.Signs.{less_below, equal_not_below, greater_not_below}
use Rattle.reference.proofs.number.is_negative.Goals as goal

pub returns-in-Less : goal.returns-in-Less
returns-in-Less c = sym (less_below (fraction_of c.args.a) (sym c.cmp_zero.ensures ∙ c.in-Less.is))

pub returns-in-Equal : goal.returns-in-Equal
returns-in-Equal c = sym (equal_not_below (fraction_of c.args.a) (sym c.cmp_zero.ensures ∙ c.in-Equal.is))

pub returns-in-Greater : goal.returns-in-Greater
returns-in-Greater c = sym (greater_not_below (fraction_of c.args.a) (sym c.cmp_zero.ensures ∙ c.in-Greater.is))
