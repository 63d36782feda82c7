use Rattle.std.proofs.Common.{refl}
use Rattle.tree_values.specs.TermValue.{sum_of}
use Rattle.tree_values.proofs.Sums.{pushed_behind, nothing_behind, itself}
use Rattle.tree_values.proofs.poly.append.Goals as goal

pub loop-u-init : goal.loop-u-init
loop-u-init c = nothing_behind (λ p. p) itself _

pub loop-u-preserved : goal.loop-u-preserved
loop-u-preserved c =
    pushed_behind (λ p. p) itself (sum_of c.args.out.now) c.args.q.now c.loop-u.u-index c.u-item.result c.loop-u-test.true c.u-item.is c.loop-u.out c.push.new.self c.u-item.result
    c.loop-u.invariant c.in_ok-push.ensures.ok refl
