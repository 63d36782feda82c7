use Rattle.std.proofs.Common.{◌*◌, ◌<◌, Some, length, take, drop, sym, ap, subst, ◌∙◌, arith}
use Rattle.std.specs.List.{All}
use Rattle.dofs.proofs.NumberingLaws.{cell_inside, cell_at, cell_below}
use Rattle.dofs.proofs.dof_map.DofMap.of_cell.Goals as goal

pub split_at-requires : goal.split_at-requires
split_at-requires c =
    let d = c.self.inside in
    omega (arith, cell_inside d.labels.items d.rows.items d.local d.cells c.args.k c.args.self.now c.self.invariant.numbered c.self.view_is c.requires, ap length c.deref.ensures.value)

pub split_at-requires-2 : goal.split_at-requires-2
split_at-requires-2 c =
    let d = c.self.inside in
    omega (arith, cell_inside d.labels.items d.rows.items d.local d.cells c.args.k c.args.self.now c.self.invariant.numbered c.self.view_is c.requires, ap length c.deref.ensures.value, c.split_at.ensures.back_len)

pub returns-clause-rows : goal.returns-clause-rows
returns-clause-rows c =
    let d = c.self.inside in
    cell_at d.labels.items d.rows.items d.local d.cells c.args.k c.args.self.now c.self.view_is c.requires
    ∙ ap (λ t. Some (take d.local (drop (c.args.k * d.local) t))) (sym c.deref.ensures.value)
    ∙ ap (λ t. Some (take d.local t)) (sym c.split_at.ensures.back)
    ∙ ap Some (sym c.split_at-2.ensures.front)

pub returns-clause-in_range : goal.returns-clause-in_range
returns-clause-in_range c =
    let d = c.self.inside in
    subst (λ t. All (λ n. n < length c.args.self.now.labels) t)
    (ap (λ t. take d.local (drop (c.args.k * d.local) t)) (sym c.deref.ensures.value) ∙ ap (take d.local) (sym c.split_at.ensures.back) ∙ sym c.split_at-2.ensures.front)
    (cell_below d.labels.items d.rows.items d.local d.cells c.args.k c.args.self.now c.self.invariant.numbered c.self.view_is)
