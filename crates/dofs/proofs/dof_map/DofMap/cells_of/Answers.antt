use Rattle.std.proofs.Common.{◌-◌, length, take, drop, arith, sym, ap, ◌∙◌}
use Rattle.dofs.proofs.Counting.{row_part, no_places}
use Rattle.dofs.proofs.dof_map.DofMap.cells_of.Goals as goal

pub returns-then-n-count : goal.returns-then-n-count
returns-then-n-count c =
    let d = c.self.inside in
    sym (no_places d.labels.items d.rows.items d.local d.cells c.args.n c.args.self.now c.self.invariant.numbered c.self.view_is (omega (arith, c.count.ensures.count, c.if-n-count.true)))

pub split_at-requires : goal.split_at-requires
split_at-requires c =
    let d = c.self.inside in
    let part = row_part d.labels.items d.rows.items d.local d.cells d.starts.items d.places.items c.args.n c.index.result.now c.index-2.result.now c.args.self.now
    c.self.invariant c.self.view_is (omega (arith, c.count.ensures.count, c.if-n-count.false)) c.index.ensures c.index-2.ensures in
    omega (arith, part.order, part.within, ap length c.deref-2.ensures.value)

pub overflow_sub-end : goal.overflow_sub-end
overflow_sub-end c =
    let d = c.self.inside in
    (row_part d.labels.items d.rows.items d.local d.cells d.starts.items d.places.items c.args.n c.index.result.now c.index-2.result.now c.args.self.now
    c.self.invariant c.self.view_is (omega (arith, c.count.ensures.count, c.if-n-count.false)) c.index.ensures c.index-2.ensures).order

pub split_at-requires-2 : goal.split_at-requires-2
split_at-requires-2 c =
    let d = c.self.inside in
    let part = row_part d.labels.items d.rows.items d.local d.cells d.starts.items d.places.items c.args.n c.index.result.now c.index-2.result.now c.args.self.now
    c.self.invariant c.self.view_is (omega (arith, c.count.ensures.count, c.if-n-count.false)) c.index.ensures c.index-2.ensures in
    omega (arith, part.order, part.within, ap length c.deref-2.ensures.value, c.split_at.ensures.back_len)

pub returns : goal.returns
returns c =
    let d = c.self.inside in
    c.split_at-2.ensures.front
    ∙ ap (take (c.index-2.result.now - c.index.result.now)) (c.split_at.ensures.back ∙ ap (drop c.index.result.now) c.deref-2.ensures.value)
    ∙ (row_part d.labels.items d.rows.items d.local d.cells d.starts.items d.places.items c.args.n c.index.result.now c.index-2.result.now c.args.self.now
    c.self.invariant c.self.view_is (omega (arith, c.count.ensures.count, c.if-n-count.false)) c.index.ensures c.index-2.ensures).found
