use Rattle.std.proofs.Common.{ap, Ok}
use Rattle.ufl_tree.specs.Reading.{typed_of}
use Rattle.ufl_expr.specs.Frees.{none_free}
use Rattle.ufl_expr.specs.Table.{has_argument, variable_cell}
use Rattle.ufl_expr.proofs.BuildingLaws.{gives_from, gives_same, same_sizes}
use Rattle.ufl_expr.proofs.signature.variable_signature.Goals as goal

pub returns : goal.returns
returns c =
    let a = c.args.a.now in
    gives_from _ c.variable_cell.result (variable_cell (has_argument (typed_of a)) a.cell) c.sizes.result _ (Ok a.shape) c.none_free.result _ (none_free a.free)
    c.together.ensures c.variable_cell.ensures (same_sizes _ _ c.as_slice.ensures) (ap none_free c.as_slice-2.ensures)
    c.sizes.ensures (gives_same _ _ c.none_free.ensures)
