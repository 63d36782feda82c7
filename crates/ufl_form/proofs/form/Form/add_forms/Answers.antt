use Rattle.std.proofs.Common.{ap, ap₂, ◌∙◌, sym, inr, refl, ◌+◌}
use Rattle.ufl_expr.proofs.BuildingLaws.{gives_passed}
use Rattle.ufl_form.specs.declared.form_tree.FormTree.TheVariants as v
use Rattle.ufl_form.specs.Building.{formed}
use Rattle.ufl_form.proofs.FormLaws.{described_sum, described_part, described_kept, sum_refused}
use Rattle.ufl_form.proofs.form.Form.add_forms.Goals as goal

pub finish-requires : goal.finish-requires
finish-requires c =
    let a = c.a.inside in
    let b = c.b.inside in
    let p = c.in_ok-new.field-0 in
    let q = c.in_ok-new-2.field-0 in
    described_kept _ _ _ _ _ _ _ _ refl c.united.ensures (ap (λ x. x + 1) c.max.ensures)
    (described_sum p q a.kind b.kind c.in_ok-kind.kind a.patterns b.patterns a.nodes b.nodes a.height b.height (sym c.in_ok-kind.ensures)
    (described_part p a.tree a.kind a.patterns a.nodes a.height c.in_ok-new.ensures c.a.invariant.described)
    (described_part q b.tree b.kind b.patterns b.nodes b.height c.in_ok-new-2.ensures c.b.invariant.described))

pub returns-in_err-kind : goal.returns-in_err-kind
returns-in_err-kind c =
    let a = c.a.inside in
    let b = c.b.inside in
    gives_passed c.from_residual.result _ c.in_err-kind.field-0.0 c.from_residual.ensures.0 c.from_residual.ensures.1
    (inr
    (sym (ap₂ (λ x y. formed (v.Sum x y)) c.a.view_is c.b.view_is)
    ∙ sum_refused a.tree b.tree a.kind b.kind a.patterns b.patterns a.nodes b.nodes a.height b.height c.in_err-kind.field-0.0 (sym c.in_err-kind.ensures)
    c.a.invariant.described c.b.invariant.described))
