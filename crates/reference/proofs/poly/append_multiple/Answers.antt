use Rattle.reference.specs.TermValue.{term_of, sum_of}
use Rattle.reference.proofs.Loops.{pushed_behind, nothing_behind}
use Rattle.reference.proofs.poly.append_multiple.Goals as goal

pub loop-u-init : goal.loop-u-init
loop-u-init c = nothing_behind _ _

pub loop-u-preserved : goal.loop-u-preserved
loop-u-preserved c =
    pushed_behind (sum_of c.args.out.now.items) (term_of c.args.t) c.args.q.now c.loop-u.u-index c.u-item.result c.loop-u-test.true c.u-item.is c.loop-u.out.items c.push.new.self.items c.in_ok-product.field-0
    c.loop-u.invariant c.in_ok-push.ensures.items c.in_ok-product.ensures
