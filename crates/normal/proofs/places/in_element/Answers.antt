use Rattle.std.proofs.Common.{[], ◌∷◌, length, sym, ◌∙◌, ap, subst}
use Rattle.spaces.specs.Space.{tensor, scalars, IsLawful}
use Rattle.spaces.specs.Reading.{space_of}
use Rattle.spaces.proofs.ReadingLaws.{space_of-Scalar, space_of-Vector, space_of-Tensor, space_of-Mixed}
use Rattle.ufl_tree.specs.Indices.{index_values, place}
use Rattle.normal.specs.Gathering.{names_of}
use Rattle.normal.proofs.PlaceSteps.{shape_at}
use Rattle.normal.proofs.places.in_element.Goals as goal

pub in_matrix-requires : goal.in_matrix-requires
in_matrix-requires c =
    let h : IsLawful (tensor (space_of c.in-Tensor.part) c.in-Tensor.rows c.in-Tensor.cols) =
    subst IsLawful (ap space_of (sym c.tree.ensures.same ∙ c.in-Tensor.is) ∙ space_of-Tensor _ _ _) c.tree.ensures.lawful in
    h.3

pub returns-in-Scalar : goal.returns-in-Scalar
returns-in-Scalar c = c.in_scalar.ensures (names_of c.args.bounds.now) ∙ shape_at c.args.element.now _ _ (ap space_of (sym c.tree.ensures.same ∙ c.in-Scalar.is) ∙ space_of-Scalar _ _ _)

pub returns-in-Vector : goal.returns-in-Vector
returns-in-Vector c = c.in_row.ensures ∙ shape_at c.args.element.now _ _ (ap space_of (sym c.tree.ensures.same ∙ c.in-Vector.is) ∙ space_of-Vector _ _)

pub returns-in-Tensor : goal.returns-in-Tensor
returns-in-Tensor c = c.in_matrix.ensures ∙ shape_at c.args.element.now _ _ (ap space_of (sym c.tree.ensures.same ∙ c.in-Tensor.is) ∙ space_of-Tensor _ _ _)

pub returns-in-Mixed : goal.returns-in-Mixed
returns-in-Mixed c =
    let e = ap space_of (sym c.tree.ensures.same ∙ c.in-Mixed.is) ∙ space_of-Mixed c.in-Mixed.parts in
    c.in_row-in-Mixed.ensures
    ∙ ap (λ n. place (n ∷ []) (index_values (names_of c.args.bounds.now) c.args.at.now)) (c.value_size.ensures.size ∙ ap (λ s. length (scalars s)) e)
    ∙ shape_at c.args.element.now _ _ e
