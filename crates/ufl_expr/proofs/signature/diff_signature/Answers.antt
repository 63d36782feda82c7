use Rattle.std.proofs.Common.{refl, ap₂, Ok, ◌++◌}
use Rattle.ufl_expr.specs.Table.{diff_cell, joined_cell}
use Rattle.ufl_expr.proofs.BuildingLaws.{gives_from}
use Rattle.ufl_expr.proofs.signature.diff_signature.Goals as goal

pub returns : goal.returns
returns c =
    let f = c.args.f.now in
    let v = c.args.v.now in
    gives_from _ c.diff_cell.result (diff_cell f.cell (joined_cell f.cell v.cell)) c.sizes.result _ (Ok (f.shape ++ v.shape)) c.free_of.result (Ok f.free) (Ok f.free)
    c.together.ensures c.diff_cell.ensures (ap₂ (λ x y. Ok (x ++ y)) c.as_slice.ensures c.as_slice-2.ensures) refl c.sizes.ensures c.free_of.ensures
