use Rattle.std.proofs.Common.{ap, arith}
use Rattle.std.proofs.lemmas.List.{drop_all}
use Rattle.monos.specs.Layout.{value_count}
use Rattle.kernel_statements.proofs.LoopLaws.{drop_here}
use Rattle.planner.proofs.planning.weight_count.Goals as goal

pub overflow_add-count : goal.overflow_add-count
overflow_add-count c =
    let next = ap value_count (drop_here c.args.coefs.now c.loop-place.place-index c.place-item.result (omega arith) c.place-item.is) in
    omega (arith, next, c.loop-place.invariant, c.requires)

pub loop-place-preserved : goal.loop-place-preserved
loop-place-preserved c =
    let next = ap value_count (drop_here c.args.coefs.now c.loop-place.place-index c.place-item.result (omega arith) c.place-item.is) in
    omega (arith, next, c.loop-place.invariant)

pub returns : goal.returns
returns c =
    let none = ap value_count (drop_all c.loop-place.place-index c.args.coefs.now (omega arith)) in
    omega (arith, none, c.loop-place.invariant)
