use Rattle.algebra.specs.RingLaws.{add-mul}
use Rattle.calculus.specs.Polynomial.{times, polynomials}
use Rattle.tree_values.specs.TermValue.{sum_of}
use Rattle.tree_values.proofs.Sums.{begun, grown}
use Rattle.tree_values.proofs.poly.products.Goals as goal

pub loop-t-init : goal.loop-t-init
loop-t-init c = begun (λ p. times p (sum_of c.args.q.now)) (λ p r. add-mul polynomials p r (sum_of c.args.q.now)) _ c.new-terms.ensures

pub loop-t-preserved : goal.loop-t-preserved
loop-t-preserved c =
    grown (λ p. times p (sum_of c.args.q.now)) (λ p r. add-mul polynomials p r (sum_of c.args.q.now)) c.args.p.now c.loop-t.t-index c.t-item.result c.loop-t-test.true c.t-item.is (sum_of c.loop-t.terms) (sum_of c.append_multiple.new.out)
    c.loop-t.invariant c.in_ok-append_multiple.ensures
