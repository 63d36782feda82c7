use Rattle.std.proofs.Common.{refl, ap, ap₂, Ok, ◌++◌, ◌∷◌, [], ◌∙◌}
use Rattle.ufl_tree.specs.Indices.{named, direction}
use Rattle.ufl_expr.specs.Shapes.{in_dimension, dimension_of, along_shape}
use Rattle.ufl_expr.specs.Frees.{joined_free}
use Rattle.ufl_expr.proofs.BuildingLaws.{gives_from}
use Rattle.ufl_expr.proofs.signature.partial_signature.Goals as goal

pub returns : goal.returns
returns c =
    let a = c.args.a.now in
    let at = c.args.at in
    gives_from _ (Ok a.cell) (Ok a.cell) c.along_shape.result _ (in_dimension (dimension_of a.cell) (along_shape at a.shape))
    c.joined.result _ (joined_free (a.free ++ direction at a.cell))
    c.together.ensures refl (ap (λ s. in_dimension (dimension_of a.cell) (along_shape at s)) c.as_slice.ensures)
    (ap₂ (λ x y. joined_free (x ++ y)) c.as_slice-2.ensures (c.as_slice-3.ensures ∙ c.in_ok-names.ensures ∙ ap (λ d. named (at ∷ []) (d ∷ [])) c.cell_size.ensures))
    c.along_shape.ensures c.joined.ensures
