use Rattle.std.proofs.Common.{refl, ap, Ok}
use Rattle.ufl_expr.specs.Shapes.{one_shape}
use Rattle.ufl_expr.proofs.BuildingLaws.{gives_from}
use Rattle.ufl_expr.proofs.signature.one_signature.Goals as goal

pub returns : goal.returns
returns c =
    let a = c.args.a.now in
    gives_from _ (Ok a.cell) (Ok a.cell) c.one_shape.result _ _ c.free_of.result (Ok a.free) (Ok a.free)
    c.together.ensures refl (ap (λ x. one_shape c.args.op x a.cell) c.as_slice.ensures) refl c.one_shape.ensures c.free_of.ensures
