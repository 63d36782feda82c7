use Rattle.std.proofs.Common.{drop, arith}
use Rattle.std.proofs.lemmas.List.{drop_all}
use Rattle.ufl_expr.proofs.ListLaws.{listed, extended_start, extended_step, extent_of}
use Rattle.ufl_expr.proofs.expr.extent_of.Goals as goal

pub loop-item-init : goal.loop-item-init
loop-item-init c = record { extended = extended_start (listed c.args.items.now); few = omega arith; flat = omega arith }

pub loop-item-preserved : goal.loop-item-preserved
loop-item-preserved c =
    let l = c.loop-item in
    let a = c.item in
    record {
      extended =
          extended_step l.nodes l.height a.inside.nodes a.inside.height c.max-height.result c.args.items.now l.item-index c.item-item.result a.inside.tree (listed c.args.items.now)
          c.loop-item-test.true c.item-item.is a.view_is a.invariant.typed a.invariant.count a.invariant.depth l.invariant.extended c.max-height.ensures;
      few = omega (arith, l.invariant.few, a.invariant.few);
      flat = omega (arith, l.invariant.flat, a.invariant.flat, c.max-height.ensures);
    }

pub overflow_add-nodes : goal.overflow_add-nodes
overflow_add-nodes c = omega (arith, c.loop-item.invariant.few, c.item.invariant.few, c.loop-item-test.true, c.requires)

pub returns : goal.returns
returns c =
    let l = c.loop-item in
    let ts = c.args.items.now in
    record {
      extent = extent_of l.nodes l.height (drop l.item-index ts) (listed ts) (drop_all l.item-index ts c.loop-item-test.false) l.invariant.extended;
      few = omega (arith, l.invariant.few, c.loop-item-test.false, c.loop-item.auto.item-index-end, c.requires);
      flat = l.invariant.flat;
    }
