use Rattle.std.proofs.Common.{refl, ap, ap₂, Ok, ◌++◌, ◌∙◌}
use Rattle.ufl_tree.specs.Indices.{named}
use Rattle.ufl_expr.specs.Frees.{joined_free}
use Rattle.ufl_expr.specs.Shapes.{rest_shape}
use Rattle.ufl_expr.proofs.BuildingLaws.{gives_from, gives_kinds_memory}
use Rattle.ufl_expr.proofs.signature.index_signature.Goals as goal

pub returns : goal.returns
returns c =
    let a = c.args.a.now in
    let at = c.args.at.now in
    gives_from _ (Ok a.cell) (Ok a.cell) c.rest_shape.result _ (rest_shape at a.shape) c.joined.result _ (joined_free (a.free ++ named at a.shape))
    c.together.ensures refl (ap (rest_shape at) c.as_slice-2.ensures)
    (ap₂ (λ x y. joined_free (x ++ y)) c.as_slice-3.ensures (c.as_slice-4.ensures ∙ c.in_ok-names.ensures ∙ ap (named at) c.as_slice.ensures))
    c.rest_shape.ensures c.joined.ensures

pub returns-in_err-names : goal.returns-in_err-names
returns-in_err-names c = gives_kinds_memory c.from_residual.result _ c.from_residual.ensures.0 c.from_residual.ensures.1
