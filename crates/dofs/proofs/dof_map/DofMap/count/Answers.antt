use Rattle.dofs.proofs.Counting.{no_places}
use Rattle.dofs.proofs.dof_map.DofMap.count.Goals as goal

pub returns-clause-all : goal.returns-clause-all
returns-clause-all c =
    let d = c.self.inside in
    λ n le. no_places d.labels.items d.rows.items d.local d.cells n c.args.self.now c.self.invariant.numbered c.self.view_is le
