use Rattle.std.proofs.Common.{◌≡◌, ap, if◌then◌else◌, Err}
use Rattle.ufl_form.specs.Table.{form_patterns}
use Rattle.weigh.specs.declared.refusal.WeightRefusal.TheVariants.{Arity}
use Rattle.weigh.specs.Refusals.{weight_refusal}
use Rattle.weigh.specs.Weighing.{exact, kept, form_weight}
use Rattle.weigh.proofs.DecisionLaws.{kept_decides}
use Rattle.weigh.proofs.TableLaws.{table_low_from_lawful}
use Rattle.admit.specs.Admission.{has_arity}
use Rattle.admit.proofs.FormLaws.{same_decision}
use Rattle.admit.proofs.forms.admission_law.Goals as goal

pub returns : goal.returns
returns c = λ d elements f h.
    let alike = kept_decides elements f (table_low_from_lawful elements h) in
    let v = form_weight kept elements f in
    let w = form_weight exact elements f in
    ap (λ r. if has_arity (form_patterns f) then r else Err Arity) (same_decision v w (weight_refusal d v) (weight_refusal d w) (alike.refusal d) (alike.weight d))
