use Rattle.std.proofs.Common.{◌++◌, map, refl, ◌∙◌, ap}
use Rattle.ufl_tree.specs.FormTerm.{integral, scale, left, right, action, adjoint, derivative}
use Rattle.ufl_tree.specs.Places.{table_of}
use Rattle.ufl_tree.specs.Reading.{typed_of}
use Rattle.ufl_form.specs.Reading.{form_of}
use Rattle.ufl_form.proofs.FormReadings as r
use Rattle.passes.proofs.ResultLaws.{ok_then}
use Rattle.integrands.specs.declared.operator.Operator.TheVariants as v
use Rattle.integrands.specs.Integrands.{integrands_of, with_body}
use Rattle.integrands.specs.Flattening.{under, flattened}
use Rattle.integrands.proofs.FlatteningLaws.{of_form, sum_behind, changed_behind}
use Rattle.integrands.proofs.forms.+flattening.Goals as goal

pub with_form-returns-in-Integral : goal.with_form-returns-in-Integral
with_form-returns-in-Integral t c =
    ok_then c.with_integral.result
    (λ all h. h ∙ of_form (table_of c.args.elements.now) c.args.form.now (integrands_of c.args.found.items) (integral c.in-Integral.on (typed_of c.in-Integral.body)) (ap form_of c.in-Integral.is ∙ r.form_of-Integral _ _))
    c.with_integral.ensures

pub with_form-returns-in_ok-first-in-Sum : goal.with_form-returns-in_ok-first-in-Sum
with_form-returns-in_ok-first-in-Sum t c =
    ok_then c.with_form-in-Sum.result
    (λ all h. sum_behind (table_of c.args.elements.now) c.args.form.now (integrands_of c.args.found.items) (form_of c.in-Sum.f) (form_of c.in-Sum.g) _ _ (ap form_of c.in-Sum.is ∙ r.form_of-Sum _ _)
    (c.in_ok-first-in-Sum.ensures ∙ ap (λ f. integrands_of c.args.found.items ++ flattened (table_of c.args.elements.now) (form_of f)) c.get.ensures)
    (h ∙ ap (λ f. integrands_of c.in_ok-first-in-Sum.first.items ++ flattened (table_of c.args.elements.now) (form_of f)) c.get-in-Sum.ensures))
    c.with_form-in-Sum.ensures

pub with_form-returns-in-Scale : goal.with_form-returns-in-Scale
with_form-returns-in-Scale t c =
    ok_then c.with_changed.result
    (λ all h. h ∙ changed_behind (table_of c.args.elements.now) c.args.form.now (integrands_of c.args.found.items) (v.Scale c.in-Scale.c) (scale c.in-Scale.c) c.in-Scale.f c.get-in-Scale.result.now (λ x. refl) (ap form_of c.in-Scale.is ∙ r.form_of-Scale _ _) c.get-in-Scale.ensures)
    c.with_changed.ensures

pub with_form-returns-in-Left : goal.with_form-returns-in-Left
with_form-returns-in-Left t c =
    ok_then c.with_changed-in-Left.result
    (λ all h. h ∙ changed_behind (table_of c.args.elements.now) c.args.form.now (integrands_of c.args.found.items) v.Left left c.in-Left.f c.get-in-Left.result.now (λ x. refl) (ap form_of c.in-Left.is ∙ r.form_of-Left _) c.get-in-Left.ensures)
    c.with_changed-in-Left.ensures

pub with_form-returns-in-Right : goal.with_form-returns-in-Right
with_form-returns-in-Right t c =
    ok_then c.with_changed-in-Right.result
    (λ all h. h ∙ changed_behind (table_of c.args.elements.now) c.args.form.now (integrands_of c.args.found.items) v.Right right c.in-Right.f c.get-in-Right.result.now (λ x. refl) (ap form_of c.in-Right.is ∙ r.form_of-Right _) c.get-in-Right.ensures)
    c.with_changed-in-Right.ensures

pub with_form-returns-in-Action : goal.with_form-returns-in-Action
with_form-returns-in-Action t c =
    ok_then c.with_changed-in-Action.result
    (λ all h. h ∙ changed_behind (table_of c.args.elements.now) c.args.form.now (integrands_of c.args.found.items) (v.Action c.in-Action.last c.in-Action.f.role) (λ x. action x c.in-Action.last c.in-Action.f)
    c.in-Action.body c.get-in-Action.result.now (λ x. refl) (ap form_of c.in-Action.is ∙ r.form_of-Action _ _ _) c.get-in-Action.ensures)
    c.with_changed-in-Action.ensures

pub with_form-returns-in-Adjoint : goal.with_form-returns-in-Adjoint
with_form-returns-in-Adjoint t c =
    ok_then c.with_changed-in-Adjoint.result
    (λ all h. h ∙ changed_behind (table_of c.args.elements.now) c.args.form.now (integrands_of c.args.found.items) v.Adjoint adjoint c.in-Adjoint.f c.get-in-Adjoint.result.now (λ x. refl) (ap form_of c.in-Adjoint.is ∙ r.form_of-Adjoint _) c.get-in-Adjoint.ensures)
    c.with_changed-in-Adjoint.ensures

pub with_form-returns-in-Derivative : goal.with_form-returns-in-Derivative
with_form-returns-in-Derivative t c =
    ok_then c.with_changed-in-Derivative.result
    (λ all h. h ∙ changed_behind (table_of c.args.elements.now) c.args.form.now (integrands_of c.args.found.items) (v.Derivative c.in-Derivative.w.role c.in-Derivative.du.role) (λ x. derivative x c.in-Derivative.w c.in-Derivative.du)
    c.in-Derivative.body c.get-in-Derivative.result.now (λ x. refl) (ap form_of c.in-Derivative.is ∙ r.form_of-Derivative _ _ _) c.get-in-Derivative.ensures)
    c.with_changed-in-Derivative.ensures

pub with_changed-returns : goal.with_changed-returns
with_changed-returns t c =
    ok_then c.with_all.result
    (λ all h. h ∙ ap (λ ps. integrands_of c.args.found.items ++ map (with_body (under c.args.operator)) ps) (c.in_ok-others.ensures ∙ ap (λ xs. integrands_of xs ++ flattened (table_of c.args.elements.now) (form_of c.args.form.now)) c.new.ensures.items))
    c.with_all.ensures
