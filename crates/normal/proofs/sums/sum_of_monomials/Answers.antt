use Rattle.std.proofs.Common.{refl}
use Rattle.ufl_tree.specs.Places.{table_of}
use Rattle.ufl_tree.specs.Reading.{term_of}
use Rattle.monos.specs.Monomial.{monomials_of}
use Rattle.normal.proofs.WalkLaws.{normal_value, normal_safe}
use Rattle.normal.proofs.sums.sum_of_monomials.Goals as goal

pub returns-clause-value : goal.returns-clause-value
returns-clause-value c =
    normal_value (table_of c.args.elements.now) c.collected.result (term_of c.args.e.now) _ (monomials_of c.in_ok-ms.ms.items) refl c.collected.ensures.value c.in_ok-ms.ensures.value

pub returns-clause-range : goal.returns-clause-range
returns-clause-range c =
    normal_safe (table_of c.args.elements.now) c.collected.result (term_of c.args.e.now) _ (monomials_of c.in_ok-ms.ms.items) c.collected.ensures.range c.in_ok-ms.ensures.value
