use Rattle.std.proofs.Common.{◌/◌, ◌%◌, ◌<◌, ◌≤◌, suc, ◌*◌, [], length, ap, sym, ◌∙◌, subst}
use Rattle.std.specs.Prelude.{slice_index_or}
use Rattle.basis_products.specs.Order.{piece}
use Rattle.tensors.specs.Stored.{kept_or_zeros}
use Rattle.tensors.proofs.StoredLaws.{stored_at, stored_fits}
use Rattle.tensors.proofs.reference.RefTensor.row.Goals as goal

pub piece-requires : goal.piece-requires
piece-requires c =
    let t = c.self.inside in
    subst (λ xs. suc c.in-Some.place * t.columns ≤ length xs) (sym c.as_slice.ensures.value)
    (stored_fits t.kept.tests t.kept.trials t.rows t.cols t.columns t.kept.items.items t.zeros.items c.self.invariant (c.args.k / t.cols) (c.args.k % t.cols) c.in-Some.place
    (sym c.kept_place-place.ensures ∙ c.in-Some.is))

pub returns-in-Some : goal.returns-in-Some
returns-in-Some c =
    let t = c.self.inside in
    sym
    (ap (λ rows. slice_index_or rows c.args.k []) (sym c.self.view_is)
    ∙ stored_at t.kept.tests t.kept.trials t.rows t.cols t.columns t.kept.items.items t.zeros.items c.args.k c.self.invariant.some (subst (λ rows. c.args.k < length rows) (sym c.self.view_is) c.requires)
    ∙ ap (kept_or_zeros t.columns t.kept.items.items t.zeros.items) (sym c.kept_place-place.ensures ∙ c.in-Some.is)
    ∙ ap (piece t.columns c.in-Some.place) (sym c.as_slice.ensures.value)
    ∙ sym c.piece.ensures)

pub returns-in-None : goal.returns-in-None
returns-in-None c =
    let t = c.self.inside in
    sym
    (ap (λ rows. slice_index_or rows c.args.k []) (sym c.self.view_is)
    ∙ stored_at t.kept.tests t.kept.trials t.rows t.cols t.columns t.kept.items.items t.zeros.items c.args.k c.self.invariant.some (subst (λ rows. c.args.k < length rows) (sym c.self.view_is) c.requires)
    ∙ ap (kept_or_zeros t.columns t.kept.items.items t.zeros.items) (sym c.kept_place-place.ensures ∙ c.in-None.is)
    ∙ sym c.as_slice-in-None.ensures.value)
