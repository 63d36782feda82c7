use Rattle.std.proofs.Common.{ap, ◌∙◌}
use Rattle.calculus.specs.Polynomial.{coefficient_of, plus}
use Rattle.calculus.proofs.PolynomialLaws.{coefficient_of-plus}
use Rattle.ufl_meaning.specs.Environment.{parameter_number}
use Rattle.tree_values.specs.TermValue.{sum_of}
use Rattle.tree_values.proofs.Sums.{begun, grown}
use Rattle.tree_values.proofs.poly.constant_parts.Goals as goal

pub loop-t-init : goal.loop-t-init
loop-t-init c = begun (coefficient_of (parameter_number c.args.k) 0) (coefficient_of-plus (parameter_number c.args.k) 0) _ c.new-terms.ensures

pub loop-t-preserved : goal.loop-t-preserved
loop-t-preserved c =
    grown (coefficient_of (parameter_number c.args.k) 0) (coefficient_of-plus (parameter_number c.args.k) 0) c.args.p.now c.loop-t.t-index c.t-item.result c.loop-t-test.true c.t-item.is (sum_of c.loop-t.terms) (sum_of c.append_part.new.out)
    c.loop-t.invariant (c.in_ok-append_part.ensures ∙ ap (plus (sum_of c.loop-t.terms)) c.constant_part.ensures)
