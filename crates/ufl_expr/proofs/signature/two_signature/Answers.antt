use Rattle.std.proofs.Common.{ap₂}
use Rattle.ufl_expr.specs.Shapes.{two_shape}
use Rattle.ufl_expr.specs.Frees.{two_free}
use Rattle.ufl_expr.specs.Table.{joined_cell}
use Rattle.ufl_expr.proofs.BuildingLaws.{gives_from}
use Rattle.ufl_expr.proofs.signature.two_signature.Goals as goal

pub returns : goal.returns
returns c =
    gives_from _ c.joined_cell.result (joined_cell c.args.a.now.cell c.args.b.now.cell) c.two_shape.result _ _ c.two_free.result _ _
    c.together.ensures c.joined_cell.ensures
    (ap₂ (two_shape c.args.op) c.as_slice.ensures c.as_slice-2.ensures)
    (ap₂ (two_free c.args.op) c.as_slice-3.ensures c.as_slice-4.ensures) c.two_shape.ensures c.two_free.ensures
