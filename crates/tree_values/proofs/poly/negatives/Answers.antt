use Rattle.calculus.specs.Polynomial.{negative}
use Rattle.calculus.proofs.Linear.{negative-plus}
use Rattle.tree_values.proofs.Sums.{begun, pushed}
use Rattle.tree_values.proofs.poly.negatives.Goals as goal

pub loop-t-init : goal.loop-t-init
loop-t-init c = begun (λ p. negative p) negative-plus _ c.new-terms.ensures

pub loop-t-preserved : goal.loop-t-preserved
loop-t-preserved c =
    pushed (λ p. negative p) negative-plus c.args.p.now c.loop-t.t-index c.t-item.result c.loop-t-test.true c.t-item.is c.loop-t.terms c.push.new.self c.negated.result
    c.loop-t.invariant c.in_ok-push.ensures.ok c.negated.ensures
