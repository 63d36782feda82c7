use Rattle.std.proofs.Common.{refl, ap, ap₂, Ok, ◌∙◌}
use Rattle.ufl_expr.specs.Shapes.{shape_if, is_scalar}
use Rattle.ufl_expr.specs.Frees.{bound, sizes_of}
use Rattle.ufl_expr.proofs.BuildingLaws.{gives_from}
use Rattle.ufl_expr.proofs.signature.tensor_signature.Goals as goal

pub returns : goal.returns
returns c =
    let a = c.args.a.now in
    let by = c.args.by.now in
    gives_from _ (Ok a.cell) (Ok a.cell) c.shape_if.result _ (shape_if (is_scalar a.shape) (sizes_of by a.free)) c.bound.result _ (bound by a.free)
    c.together.ensures refl
    (ap₂ shape_if (c.is_scalar.ensures ∙ ap is_scalar c.as_slice-2.ensures) (c.as_slice-3.ensures ∙ c.in_ok-sizes.ensures ∙ ap (sizes_of by) c.as_slice.ensures))
    (ap (bound by) c.as_slice-4.ensures) c.shape_if.ensures c.bound.ensures
