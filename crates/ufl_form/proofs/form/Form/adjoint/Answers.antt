use Rattle.std.proofs.Common.{refl}
use Rattle.ufl_form.proofs.FormLaws.{described_adjoint, described_part, described_kept}
use Rattle.ufl_form.proofs.form.Form.adjoint.Goals as goal

pub finish-requires : goal.finish-requires
finish-requires c =
    let a = c.a.inside in
    let p = c.in_ok-new.field-0 in
    described_kept _ _ _ _ _ _ _ _ c.adjoint_kind.ensures c.turned-patterns.ensures refl
    (described_adjoint p a.kind a.patterns a.nodes a.height (described_part p a.tree a.kind a.patterns a.nodes a.height c.in_ok-new.ensures c.a.invariant.described))
