-- A difference of forms is the sum with the negative, whatever is asked first
use Rattle.std.proofs.Common.{◌≡◌, ℕ, ◌+◌, ◌<◌, ◌≤◌, ◌⊎◌, true, false, true≢false, Result, Ok, Err, IsOk, refl, sym, ap, ◌∙◌, inl, inr, arith, subst}
use Rattle.ratio.specs.declared.reduced.Ratio.{Ratio}
use Rattle.ufl_expr.specs.declared.refusal.TypeRefusal.{TypeRefusal}
use Rattle.ufl_expr.specs.declared.refusal.TypeRefusal.TheVariants.{Nodes}
use Rattle.ufl_form.specs.declared.form_tree.FormTree.{FormTree}
use Rattle.ufl_form.specs.declared.form_tree.FormTree.TheVariants as f
use Rattle.ufl_form.specs.declared.table.FormKind.{FormKind}
use Rattle.ufl_form.specs.Reading.{form_of}
use Rattle.ufl_form.specs.Sizes.{form_nodes, form_height}
use Rattle.ufl_form.specs.Table.{Verdict, form_kind, further, sum_kind}
use Rattle.ufl_form.specs.Building.{formed, checked, fits}
use Rattle.ufl_form.proofs.FormReadings.{form_of-Sum, form_of-Scale}
use Rattle.ufl_values.specs.Operators.{verified, built_then, sum_form, form_sum_kind, difference_form_by}
use Rattle.ufl_values.proofs.DifferenceLaws.{large, small, above_one, above_two}

-- a form is too large
abbrev IsLarge : FormTree → Type 0
IsLarge u = (10000 ≤ form_nodes (form_of u)) ⊎ (128 ≤ form_height (form_of u))

refused : (v : Verdict) (t : FormTree) → fits (form_of t) ≡ false → checked v t ≡ verified v (Err Nodes)
unfolding checked
refused (Err e) t h = refl
refused (Ok k) t h = rw h refl

accepted : (v : Verdict) (t : FormTree) → fits (form_of t) ≡ true → checked v t ≡ verified v (Ok t)
unfolding checked
accepted (Err e) t h = refl
accepted (Ok k) t h = rw h refl

large_sum : (t u : FormTree) → IsLarge u → formed (f.Sum t u) ≡ verified (form_sum_kind t u) (Err Nodes)
unfolding formed fits form_nodes form_height
large_sum t u h =
    refused (form_sum_kind t u) (f.Sum t u)
    (ap fits (form_of-Sum t u) ∙ large _ _ (above_two (form_nodes (form_of t)) (form_nodes (form_of u)) (form_height (form_of t)) (form_height (form_of u)) h))

large_scale : (c : Ratio) (u : FormTree) → IsLarge u → formed (f.Scale c u) ≡ verified (form_kind (form_of (f.Scale c u))) (Err Nodes)
unfolding formed fits form_nodes form_height
large_scale c u h =
    refused (form_kind (form_of (f.Scale c u))) (f.Scale c u)
    (ap fits (form_of-Scale c u) ∙ large _ _ (above_one (form_nodes (form_of u)) (form_height (form_of u)) h))

large_by : (a b : Verdict) (next : FormKind → FormKind → Verdict) (t : FormTree) (more : FormTree → Result FormTree TypeRefusal)
    → verified (further a (λ j. further b (λ k. next j k))) (Err Nodes) ≡ verified (further a (λ j. further b (λ k. next j k))) (built_then (verified b (Err Nodes)) more)
large_by (Err e) b next t more = refl
large_by (Ok j) (Err e) next t more = refl
large_by (Ok j) (Ok k) next t more = refl

sum_verdict : (t u : FormTree) → form_sum_kind t u ≡ further (form_kind (form_of t)) (λ a. further (form_kind (form_of u)) (λ b. sum_kind a b))
unfolding form_kind
sum_verdict t u = ap form_kind (form_of-Sum t u)

scale_verdict : (c : Ratio) (u : FormTree) → form_kind (form_of (f.Scale c u)) ≡ form_kind (form_of u)
unfolding form_kind
scale_verdict c u = ap form_kind (form_of-Scale c u)

-- where u is too large, the sum refuses as the difference does
pub large_form_difference : (c : Ratio) (t u : FormTree) → IsLarge u → sum_form t u ≡ difference_form_by c t u
unfolding difference_form_by
large_form_difference c t u h =
    large_sum t u h
    ∙ ap (λ s. verified s (Err Nodes)) (sum_verdict t u)
    ∙ large_by (form_kind (form_of t)) (form_kind (form_of u)) sum_kind t (λ m. sum_form t m)
    ∙ ap (λ s. verified s (built_then (verified (form_kind (form_of u)) (Err Nodes)) (λ m. sum_form t m))) (sym (sum_verdict t u))
    ∙ ap (λ x. verified (form_sum_kind t u) (built_then x (λ m. sum_form t m))) (sym (large_scale c u h ∙ ap (λ s. verified s (Err Nodes)) (scale_verdict c u)))

verified_ok : {B : Type 0} (v : Verdict) (x : Result B TypeRefusal) → IsOk v → verified v x ≡ x
verified_ok (Ok k) x h = refl
verified_ok (Err e) x h = absurd (true≢false (sym h))

-- a small lawful form's negative is the form times -1
small_scale : (c : Ratio) (u : FormTree) → IsOk (form_kind (form_of u)) → form_nodes (form_of u) < 10000 → form_height (form_of u) < 128 → formed (f.Scale c u) ≡ Ok (f.Scale c u)
unfolding formed fits form_nodes form_height
small_scale c u l p q =
    accepted (form_kind (form_of (f.Scale c u))) (f.Scale c u)
    (ap fits (form_of-Scale c u) ∙ small (form_nodes (form_of u) + 1) (form_height (form_of u) + 1) (omega arith) (omega arith))
    ∙ ap (λ s. verified s (Ok (f.Scale c u))) (scale_verdict c u)
    ∙ verified_ok (form_kind (form_of u)) (Ok (f.Scale c u)) l

checked_twice : (v : Verdict) (t : FormTree) → checked v t ≡ verified v (checked v t)
unfolding checked
checked_twice (Err e) t = refl
checked_twice (Ok k) t = refl

same_verdict : (c : Ratio) (t u : FormTree) → form_sum_kind t (f.Scale c u) ≡ form_sum_kind t u
same_verdict c t u =
    sum_verdict t (f.Scale c u)
    ∙ ap (λ x. further (form_kind (form_of t)) (λ a. further x (λ b. sum_kind a b))) (scale_verdict c u)
    ∙ sym (sum_verdict t u)

sum_twice : (t u : FormTree) → sum_form t u ≡ verified (form_sum_kind t u) (sum_form t u)
unfolding formed
sum_twice t u = checked_twice (form_sum_kind t u) (f.Sum t u)

-- a small lawful form's difference is the sum with it times the number
pub small_form_difference : (c : Ratio) (t u : FormTree) → IsOk (form_kind (form_of u)) → form_nodes (form_of u) < 10000 → form_height (form_of u) < 128
    → built_then (formed (f.Scale c u)) (λ m. sum_form t m) ≡ difference_form_by c t u
unfolding difference_form_by
small_form_difference c t u l p q =
    let e = small_scale c u l p q in
    ap (λ x. built_then x (λ m. sum_form t m)) e
    ∙ sum_twice t (f.Scale c u)
    ∙ ap (λ v. verified v (sum_form t (f.Scale c u))) (same_verdict c t u)
    ∙ ap (λ x. verified (form_sum_kind t u) (built_then x (λ m. sum_form t m))) (sym e)

-- what `is_full` says of these numbers, of the form that has them
pub is_large : (u : FormTree) (n h : ℕ) → n ≡ form_nodes (form_of u) → h ≡ form_height (form_of u) → (10000 ≤ n) ⊎ (128 ≤ h) → IsLarge u
is_large u n h e g (inl p) = inl (subst (λ x. 10000 ≤ x) e p)
is_large u n h e g (inr p) = inr (subst (λ x. 128 ≤ x) g p)
