use Rattle.calculus.specs.Polynomial.{times, times-plus}
use Rattle.tree_values.specs.TermValue.{term_of, sum_of}
use Rattle.tree_values.proofs.Sums.{pushed_behind, nothing_behind}
use Rattle.tree_values.proofs.poly.append_multiple.Goals as goal

pub loop-u-init : goal.loop-u-init
loop-u-init c = nothing_behind (times (term_of c.args.t)) (times-plus (term_of c.args.t)) _

pub loop-u-preserved : goal.loop-u-preserved
loop-u-preserved c =
    pushed_behind (times (term_of c.args.t)) (times-plus (term_of c.args.t)) (sum_of c.args.out.now) c.args.q.now c.loop-u.u-index c.u-item.result c.loop-u-test.true c.u-item.is c.loop-u.out c.push.new.self c.in_ok-product.field-0
    c.loop-u.invariant c.in_ok-push.ensures.ok c.in_ok-product.ensures
