use Rattle.std.proofs.Common.{◌≡◌, sym, ◌∙◌, ap, ap₂, if◌then◌else◌, Ok, Err, None, Some, true, false}
use Rattle.spaces.specs.Cell.{dimension}
use Rattle.ufl_form.specs.Reading.{form_of}
use Rattle.ufl_form.specs.Table.{form_kind, form_patterns}
use Rattle.ufl_tree.specs.Places.{table_of}
use Rattle.weigh.specs.declared.refusal.WeightRefusal.TheVariants.{Arity}
use Rattle.weigh.specs.Refusals.{weight_refusal}
use Rattle.weigh.specs.Weighing.{kept, form_weight}
use Rattle.admit.specs.Admission.{has_arity, by_weight}
use Rattle.admit.proofs.FormLaws.{ok_then, ok_always}
use Rattle.admit.proofs.forms.admit.Goals as goal

pub returns-then-not-has_arity : goal.returns-then-not-has_arity
returns-then-not-has_arity c =
    let arity : has_arity (form_patterns (form_of c.args.form.now)) ≡ false =
    ap has_arity (sym c.patterns.ensures) ∙ sym c.has_arity.ensures ∙ c.if-not-has_arity.true in
    let w = form_weight kept (table_of c.args.elements.now) (form_of c.args.form.now) in
    ok_always (form_kind (form_of c.args.form.now))
    (λ kind. sym (ap (λ b. if b then by_weight w (weight_refusal (dimension kind.cell) w) else Err Arity) arity))

pub returns-in-Some : goal.returns-in-Some
returns-in-Some c =
    let arity : has_arity (form_patterns (form_of c.args.form.now)) ≡ true =
    ap has_arity (sym c.patterns.ensures) ∙ sym c.has_arity.ensures ∙ c.if-not-has_arity.false in
    let w = form_weight kept (table_of c.args.elements.now) (form_of c.args.form.now) in
    ok_then (form_kind (form_of c.args.form.now))
    (λ kind h. sym (ap (λ b. if b then by_weight w (weight_refusal (dimension kind.cell) w) else Err Arity) arity
    ∙ ap (by_weight w) (ap₂ weight_refusal (ap dimension h ∙ sym c.dim.ensures) (sym c.weigh-weight.ensures) ∙ sym c.weight_refusal.ensures ∙ c.in-Some.is)))
    c.cell.ensures

pub returns-in-None : goal.returns-in-None
returns-in-None c =
    let arity : has_arity (form_patterns (form_of c.args.form.now)) ≡ true =
    ap has_arity (sym c.patterns.ensures) ∙ sym c.has_arity.ensures ∙ c.if-not-has_arity.false in
    let w = form_weight kept (table_of c.args.elements.now) (form_of c.args.form.now) in
    ok_then (form_kind (form_of c.args.form.now))
    (λ kind h. ap Ok c.weigh-weight.ensures ∙ sym (ap (λ b. if b then by_weight w (weight_refusal (dimension kind.cell) w) else Err Arity) arity
    ∙ ap (by_weight w) (ap₂ weight_refusal (ap dimension h ∙ sym c.dim.ensures) (sym c.weigh-weight.ensures) ∙ sym c.weight_refusal.ensures ∙ c.in-None.is)))
    c.cell.ensures
