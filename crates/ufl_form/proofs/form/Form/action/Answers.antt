use Rattle.std.proofs.Common.{ap, ◌∙◌, sym, inr, refl}
use Rattle.ufl_expr.proofs.BuildingLaws.{gives_passed, gives_same}
use Rattle.ufl_form.specs.declared.form_tree.FormTree.TheVariants as v
use Rattle.ufl_form.specs.Building.{formed}
use Rattle.ufl_form.proofs.FormLaws.{described_action, described_part, described_kept, acted_as, action_refused}
use Rattle.ufl_form.proofs.form.Form.action.Goals as goal

pub finish-requires : goal.finish-requires
finish-requires c =
    let a = c.a.inside in
    let p = c.in_ok-body.body in
    described_kept _ _ _ _ _ _ _ _ refl c.without.ensures refl
    (described_action p a.kind c.in_ok-kind.kind a.patterns a.nodes a.height c.in_ok-last.last c.args.f (sym c.in_ok-last.ensures) (sym c.in_ok-kind.ensures)
    (described_part p a.tree a.kind a.patterns a.nodes a.height c.in_ok-body.ensures c.a.invariant.described))

pub returns : goal.returns
returns c =
    let a = c.a.inside in
    gives_same _ _
    (c.finish.ensures ∙ ap (λ t. formed (v.Action t c.in_ok-last.last c.args.f)) c.in_ok-body.ensures
    ∙ sym (acted_as a.tree c.args.a a.kind a.patterns a.nodes a.height c.args.f _ (sym c.in_ok-last.ensures) c.a.invariant.described c.a.view_is))

pub returns-in_err-last : goal.returns-in_err-last
returns-in_err-last c =
    let a = c.a.inside in
    gives_passed c.from_residual.result _ c.in_err-last.field-0.0 c.from_residual.ensures.0 c.from_residual.ensures.1
    (inr (acted_as a.tree c.args.a a.kind a.patterns a.nodes a.height c.args.f _ (sym c.in_err-last.ensures) c.a.invariant.described c.a.view_is))

pub returns-in_err-kind : goal.returns-in_err-kind
returns-in_err-kind c =
    let a = c.a.inside in
    gives_passed c.from_residual-in_err-kind.result _ c.in_err-kind.field-0.0 c.from_residual-in_err-kind.ensures.0 c.from_residual-in_err-kind.ensures.1
    (inr
    (acted_as a.tree c.args.a a.kind a.patterns a.nodes a.height c.args.f _ (sym c.in_ok-last.ensures) c.a.invariant.described c.a.view_is
    ∙ action_refused a.tree a.kind a.patterns a.nodes a.height c.in_ok-last.last c.args.f c.in_err-kind.field-0.0 (sym c.in_ok-last.ensures) (sym c.in_err-kind.ensures)
    c.a.invariant.described))
