-- Kept and exact numbers admit the same forms, and an admitted weight has a size that is kept as it is
use Rattle.std.proofs.Common.{◌≡◌, ℕ, ◌^◌, ◌<◌, Bool, true, false, if◌then◌else◌, Result, Ok, Err, IfOk, IsOk, sym, ◌∙◌, arith}
use Rattle.std.proofs.lemmas.Bool.{true≢false}
use Rattle.spaces.specs.Cell.{dimension}
use Rattle.ufl_tree.specs.FormTerm.{FormTerm}
use Rattle.ufl_tree.specs.Places.{Table, IsLawfulTable}
use Rattle.ufl_expr.specs.declared.refusal.TypeRefusal.{TypeRefusal}
use Rattle.ufl_form.specs.declared.table.FormKind.{FormKind}
use Rattle.ufl_form.specs.Table.{form_kind, form_patterns}
use Rattle.monos.specs.declared.weight.Weight.{Weight}
use Rattle.weigh.specs.declared.refusal.WeightRefusal.{WeightRefusal}
use Rattle.weigh.specs.declared.refusal.WeightRefusal.TheVariants.{Arity}
use Rattle.weigh.specs.Refusals.{size, weight_refusal}
use Rattle.weigh.specs.Weighing.{exact, kept, form_weight}
use Rattle.admit.specs.Admission.{has_arity, by_weight, admission}
use Rattle.form_files.specs.Admissions.{dimension_by, dimension_of}

abbrev pub AdmissionLaw : Type 0
AdmissionLaw = (d : ℕ) (elements : Table) (f : FormTerm) → IsLawfulTable elements → admission kept d elements f ≡ admission exact d elements f

pub exact_from_kept : (law : AdmissionLaw) (t : Table) (f : FormTerm) (r : Result Weight WeightRefusal) → IsLawfulTable t → IsOk (form_kind f)
    → IfOk (form_kind f) (λ kind. r ≡ admission kept (dimension kind.cell) t f) → r ≡ admission exact (dimension_of f) t f
exact_from_kept law t f r lawful = at (form_kind f)
  where
    at : (v : Result FormKind TypeRefusal) → IsOk v → IfOk v (λ kind. r ≡ admission kept (dimension kind.cell) t f)
        → r ≡ admission exact (dimension_by v) t f
    at (Ok kind) ok e = e ∙ law (dimension kind.cell) t f lawful
    at (Err refusal) none e = absurd (true≢false (sym none))

pub size_of_kept : (f : FormTerm) (w : Weight) (n : ℕ) → IsOk (form_kind f) → size (dimension_of f) w < 2 ^ 100
    → IfOk (form_kind f) (λ kind. n ≡ kept (size (dimension kind.cell) w)) → n ≡ size (dimension_of f) w
size_of_kept f w n = at (form_kind f)
  where
    kept_small : (m : ℕ) → m < 2 ^ 100 → kept m ≡ m
    kept_small m h = omega (arith, h)

    at : (v : Result FormKind TypeRefusal) → IsOk v → size (dimension_by v) w < 2 ^ 100
        → IfOk v (λ kind. n ≡ kept (size (dimension kind.cell) w)) → n ≡ size (dimension_by v) w
    at (Ok kind) ok h e = e ∙ kept_small (size (dimension kind.cell) w) h
    at (Err refusal) none h e = absurd (true≢false (sym none))

-- what is admitted is small
by_weight_small : (d : ℕ) (v w : Weight) → by_weight v (weight_refusal d v) ≡ Ok w → size d w < 2 ^ 100
by_weight_small d v w e = grind arith

pub admitted_small : (d : ℕ) (t : Table) (f : FormTerm) (w : Weight) → admission exact d t f ≡ Ok w → size d w < 2 ^ 100
admitted_small d t f w = at (has_arity (form_patterns f))
  where
    v : Weight
    v = form_weight exact t f

    at : (b : Bool) → (if b then by_weight v (weight_refusal d v) else Err Arity) ≡ Ok w → size d w < 2 ^ 100
    at true e = by_weight_small d v w e
    at false e = grind arith
