use Rattle.std.proofs.Common.{ap, ◌∙◌, sym, inr, refl}
use Rattle.ufl_tree.specs.Places.{table_of}
use Rattle.ufl_expr.proofs.BuildingLaws.{gives_passed, gives_same}
use Rattle.ufl_form.specs.declared.form_tree.FormTree.TheVariants as v
use Rattle.ufl_form.specs.Patterns.{product}
use Rattle.ufl_form.specs.Building.{formed}
use Rattle.ufl_form.proofs.FormLaws.{described_derivative, described_part, described_kept, derived_as}
use Rattle.ufl_form.proofs.form.Form.derivative.Goals as goal

pub finish-requires : goal.finish-requires
finish-requires c =
    let a = c.a.inside in
    let p = c.in_ok-body.body in
    described_kept _ _ _ _ _ _ _ _ refl (c.product.ensures ∙ ap (product a.patterns) c.of_role.ensures) refl
    (described_derivative p a.kind c.in_ok-kind.kind a.patterns a.nodes a.height (table_of c.args.elements.now) c.args.w c.args.du (sym c.in_ok-kind.ensures)
    (described_part p a.tree a.kind a.patterns a.nodes a.height c.in_ok-body.ensures c.a.invariant.described))

pub returns : goal.returns
returns c =
    let a = c.a.inside in
    gives_same _ _
    (c.finish.ensures ∙ ap (λ t. formed (v.Derivative t c.args.w c.args.du)) c.in_ok-body.ensures
    ∙ sym (derived_as a.tree c.args.a a.kind a.patterns a.nodes a.height (table_of c.args.elements.now) c.args.w c.args.du _ (sym c.in_ok-kind.ensures) c.a.invariant.described
    c.a.view_is))

pub returns-in_err-kind : goal.returns-in_err-kind
returns-in_err-kind c =
    let a = c.a.inside in
    gives_passed c.from_residual.result _ c.in_err-kind.field-0.0 c.from_residual.ensures.0 c.from_residual.ensures.1
    (inr
    (derived_as a.tree c.args.a a.kind a.patterns a.nodes a.height (table_of c.args.elements.now) c.args.w c.args.du _ (sym c.in_err-kind.ensures) c.a.invariant.described
    c.a.view_is))
