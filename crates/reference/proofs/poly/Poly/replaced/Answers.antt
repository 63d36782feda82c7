use Rattle.std.proofs.Common.{◌∙◌, ap, sym}
use Rattle.calculus.specs.Polynomial.{plus, times, replaced, instead}
use Rattle.calculus.proofs.PolynomialLaws.{composed-plus}
use Rattle.reference.proofs.Monomials.{replaced_term}
use Rattle.reference.specs.TermValue.{term_of, sum_of, number_of}
use Rattle.reference.proofs.Loops.{begun, grown}
use Rattle.reference.proofs.poly.Poly.replaced.Goals as goal

pub loop-t-init : goal.loop-t-init
loop-t-init c = begun (λ p. replaced (number_of c.args.axis) (sum_of c.args.q.now.terms.items) p) (composed-plus (instead (number_of c.args.axis) (sum_of c.args.q.now.terms.items))) _ c.new-terms.ensures.items

pub loop-t-preserved : goal.loop-t-preserved
loop-t-preserved c =
    grown (λ p. replaced (number_of c.args.axis) (sum_of c.args.q.now.terms.items) p) (composed-plus (instead (number_of c.args.axis) (sum_of c.args.q.now.terms.items))) c.deref-t-items.result.now c.loop-t.t-index c.t-item.result c.loop-t-test.true c.t-item.is (sum_of c.loop-t.terms.items) (sum_of c.append_multiple.new.out.items)
    c.loop-t.invariant (c.in_ok-append_multiple.ensures
    ∙ ap (plus (sum_of c.loop-t.terms.items))
    (ap (times (term_of c.split-n.result.1)) (ap sum_of c.deref.ensures.value ∙ c.in_ok-factor.ensures)
    ∙ sym (replaced_term c.args.axis (sum_of c.args.q.now.terms.items) (term_of c.t-item.result) (term_of c.split-n.result.1) c.split-n.result.0 c.split-n.ensures.factors c.split-n.ensures.without)))
