use Rattle.std.proofs.Common.{length, sym, ap, ◌∙◌}
use Rattle.tensors.proofs.StoredLaws.{stored_length}
use Rattle.tensors.proofs.reference.RefTensor.rows.Goals as goal

pub returns : goal.returns
returns c =
    let t = c.self.inside in
    sym (ap length (sym c.self.view_is) ∙ stored_length t.kept.tests t.kept.trials t.rows t.cols t.columns t.kept.items.items t.zeros.items)
