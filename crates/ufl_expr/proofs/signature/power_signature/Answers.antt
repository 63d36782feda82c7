use Rattle.std.proofs.Common.{refl, ap, Ok, [], ◌∙◌}
use Rattle.ufl_expr.specs.Shapes.{shape_if, is_scalar}
use Rattle.ufl_expr.specs.Frees.{none_free}
use Rattle.ufl_expr.proofs.BuildingLaws.{gives_from, gives_same}
use Rattle.ufl_expr.proofs.signature.power_signature.Goals as goal

pub returns : goal.returns
returns c =
    let a = c.args.a.now in
    gives_from _ (Ok a.cell) (Ok a.cell) c.shape_if.result _ (shape_if (is_scalar a.shape) []) c.none_free.result _ (none_free a.free)
    c.together.ensures refl (ap (λ b. shape_if b []) (c.is_scalar.ensures ∙ ap is_scalar c.as_slice.ensures)) (ap none_free c.as_slice-2.ensures)
    c.shape_if.ensures (gives_same _ _ c.none_free.ensures)
