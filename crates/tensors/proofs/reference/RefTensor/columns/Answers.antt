use Rattle.std.proofs.Common.{◌/◌, ◌%◌, ◌<◌, [], length, ap, sym, ◌∙◌, subst}
use Rattle.std.specs.Prelude.{slice_index_or}
use Rattle.tensors.proofs.StoredLaws.{stored_at, stored_size}
use Rattle.tensors.proofs.reference.RefTensor.columns.Goals as goal

pub returns : goal.returns
returns c k h =
    let t = c.self.inside in
    ap (λ rows. length (slice_index_or rows k [])) (sym c.self.view_is)
    ∙ ap length (stored_at t.kept.tests t.kept.trials t.rows t.cols t.columns t.kept.items.items t.zeros.items k c.self.invariant.some (subst (λ rows. k < length rows) (sym c.self.view_is) h))
    ∙ stored_size t.kept.tests t.kept.trials t.rows t.cols t.columns t.kept.items.items t.zeros.items c.self.invariant (k / t.cols) (k % t.cols)
