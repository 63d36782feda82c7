use Rattle.std.proofs.Common.{refl, map, None}
use Rattle.ufl_tree.specs.Reading.{kind_of}
use Rattle.ufl_expr.specs.Table.{cell_behind, list_shape, list_free}
use Rattle.ufl_expr.proofs.BuildingLaws.{gives_from}
use Rattle.ufl_expr.proofs.lists.list_signature.Goals as goal

pub returns : goal.returns
returns c =
    let ks = map kind_of c.args.items.now in
    gives_from _ c.cell_of_all.result (cell_behind None ks) c.list_shape.result (list_shape ks) (list_shape ks) c.list_free.result (list_free ks) (list_free ks)
    c.together.ensures c.cell_of_all.ensures refl refl c.list_shape.ensures c.list_free.ensures
