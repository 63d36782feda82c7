use Rattle.ufl_meaning.specs.Operators.{along}
use Rattle.tree_values.proofs.Sums.{begun, pushed}
use Rattle.tree_values.proofs.Along.{along-plus}
use Rattle.tree_values.proofs.poly.derivatives.Goals as goal

pub loop-t-init : goal.loop-t-init
loop-t-init c = begun (along c.args.direction) (along-plus c.args.direction) _ c.new-terms.ensures

pub loop-t-preserved : goal.loop-t-preserved
loop-t-preserved c =
    pushed (along c.args.direction) (along-plus c.args.direction) c.args.p.now c.loop-t.t-index c.t-item.result c.loop-t-test.true c.t-item.is c.loop-t.terms c.push.new.self c.in_ok-along.field-0
    c.loop-t.invariant c.in_ok-push.ensures.ok c.in_ok-along.ensures
