-- The weight of a form bounds the sum of each choice of its integrands
use Rattle.std.proofs.Common.{◌≡◌, ◌+◌, ◌≤◌, Bool, true, false, List, [], ◌∷◌, ◌++◌, map, refl, sym, ap, subst, arith}
use Rattle.ufl_tree.specs.FormTerm.{FormTerm, integral, sum, scale, left, right, action, adjoint, derivative}
use Rattle.ufl_tree.specs.Places.{Table}
use Rattle.ufl_tree.specs.Typed.{Typed}
use Rattle.ufl_tree.specs.declared.function.Ix.TheVariants.{Named}
use Rattle.monos.specs.declared.weight.Weight.{Weight}
use Rattle.weigh.specs.Bounds.{Bounds, IsSound}
use Rattle.weigh.specs.Steps.{plus_step}
use Rattle.weigh.specs.Terms.{term_weight}
use Rattle.weigh.specs.Weighing.{exact, weight_with, form_weight, number_weight}
use Rattle.weigh.proofs.BoundsLaws.{bounds_refl, bounds_trans, times_bounds, plus_bounds, linear_bounds, part_bounds, sum_even}
use Rattle.weigh.proofs.SoundLaws.{times_sound, plus_sound, linear_sound, part_sound}
use Rattle.weigh.proofs.TermLaws.{term_sound}
use Rattle.weigh.proofs.WeighLaws.{number_is_sound, form_sound}
use Rattle.lower.specs.Fitting.{IsFitting}
use Rattle.lower.specs.Lowering.{lower}
use Rattle.lower.specs.Shares.{share_of}
use Rattle.lower.proofs.BoundsKept.{lower_bounds}
use Rattle.lower.proofs.ShareLaws.{shares_weigh}
use Rattle.passes.specs.Component.{first_name}
use Rattle.perturb.proofs.LinearLaws.{linear_both}
use Rattle.derivatives.proofs.ExpansionLaws.{expanded_bounds}
use Rattle.typing.specs.Parts.{ArePartsFitting}
use Rattle.integrands.specs.declared.operator.Operator.{Operator}
use Rattle.integrands.specs.declared.operator.Operator.TheVariants.{Scale, Left, Right, Action, Adjoint, Derivative}
use Rattle.integrands.specs.Flattening.{under, integrand_term, flattened}
use Rattle.integrands.specs.Integrands.{IntegrandTerm, with_body}
use Rattle.integrands.specs.Keeping.{chosen, total_weight, BoundsTotal, HaveWeight}
use Rattle.integrands.proofs.PlusLaws.{plus_first, plus_second, plus_brackets, times_plus}
use Rattle.integrands.proofs.WeightLaws.{weight_under, under_bounds}

-- ---- choices
chosen_under : (op : Operator) (bs : List Bool) (ps : List IntegrandTerm) → chosen bs (map (with_body (under op)) ps) ≡ map (with_body (under op)) (chosen bs ps)
chosen_under op [] ps = refl
chosen_under op (true ∷ bs) [] = refl
chosen_under op (false ∷ bs) [] = refl
chosen_under op (true ∷ bs) (p ∷ ps) = ap (λ qs. with_body (under op) p ∷ qs) (chosen_under op bs ps)
chosen_under op (false ∷ bs) (p ∷ ps) = chosen_under op bs ps

-- what is chosen behind so many
behind : List Bool → List IntegrandTerm → List Bool
behind bs [] = bs
behind [] (p ∷ ps) = []
behind (b ∷ bs) (p ∷ ps) = behind bs ps

none_chosen : (ps : List IntegrandTerm) → chosen [] ps ≡ []
none_chosen [] = refl
none_chosen (p ∷ ps) = refl

chosen_joined : (bs : List Bool) (ps qs : List IntegrandTerm) → chosen bs (ps ++ qs) ≡ chosen bs ps ++ chosen (behind bs ps) qs
unfolding behind
chosen_joined [] [] qs = refl
chosen_joined (true ∷ bs) [] qs = refl
chosen_joined (false ∷ bs) [] qs = refl
chosen_joined [] (p ∷ ps) qs = sym (none_chosen qs)
chosen_joined (true ∷ bs) (p ∷ ps) qs = ap (λ xs. p ∷ xs) (chosen_joined bs ps qs)
chosen_joined (false ∷ bs) (p ∷ ps) qs = chosen_joined bs ps qs

module _ (elements : Table) where
  total_sound : (p : IntegrandTerm) (ps : List IntegrandTerm) → IsSound (total_weight elements p ps)
  total_sound p [] = term_sound elements p.body
  total_sound p (q ∷ ps) = plus_sound _ _ (term_sound elements p.body) (total_sound q ps)

  -- ---- operators
  sound_under : (op : Operator) (a : Weight) → IsSound a → IsSound (weight_under op a)
  sound_under (Scale c) a p = times_sound _ _ (number_is_sound c) p
  sound_under Left a p = linear_sound a p
  sound_under Right a p = part_sound a p
  sound_under (Action last by) a p = p
  sound_under Adjoint a p = p
  sound_under (Derivative w d) a p = linear_sound a p

  monotone : (op : Operator) (a b : Weight) → Bounds a b → Bounds (weight_under op a) (weight_under op b)
  monotone (Scale c) a b h = times_bounds _ _ _ _ (bounds_refl _) h
  monotone Left a b h = linear_bounds a b h
  monotone Right a b h = part_bounds a b h
  monotone (Action last by) a b h = h
  monotone Adjoint a b h = h
  monotone (Derivative w d) a b h = linear_bounds a b h

  additive : (op : Operator) (a b : Weight) → IsSound a → IsSound b → Bounds (weight_under op (plus_step a b)) (plus_step (weight_under op a) (weight_under op b))
  additive (Scale c) a b p q = times_plus (number_weight exact c) a b (number_is_sound c) p q
  additive Left a b p q = linear_both (λ m n. m + n) sum_even a b
  additive Right a b p q = bounds_refl _
  additive (Action last by) a b p q = bounds_refl _
  additive Adjoint a b p q = bounds_refl _
  additive (Derivative w d) a b p q = linear_both (λ m n. m + n) sum_even a b

  total_under : (op : Operator) (p : IntegrandTerm) (ps : List IntegrandTerm)
      → Bounds (weight_under op (total_weight elements p ps)) (total_weight elements (with_body (under op) p) (map (with_body (under op)) ps))
  total_under op p [] = under_bounds elements op p.body
  total_under op p (q ∷ ps) =
      bounds_trans _ (plus_step (weight_under op (term_weight elements p.body)) (weight_under op (total_weight elements q ps))) _ (sound_between op)
      (additive op _ _ (term_sound elements p.body) (total_sound q ps))
      (plus_bounds _ _ _ _ (term_sound elements (under op p.body)) (under_bounds elements op p.body) (total_under op q ps))
    where
      sound_between : (op : Operator) → 1 ≤ (plus_step (weight_under op (term_weight elements p.body)) (weight_under op (total_weight elements q ps))).den
      sound_between op = (plus_sound _ _ (sound_under op _ (term_sound elements p.body)) (sound_under op _ (total_sound q ps))).den

  -- ---- lists in a row
  total_joined : (p : IntegrandTerm) (ps : List IntegrandTerm) (q : IntegrandTerm) (qs : List IntegrandTerm)
      → Bounds (plus_step (total_weight elements p ps) (total_weight elements q qs)) (total_weight elements p (ps ++ q ∷ qs))
  total_joined p [] q qs = bounds_refl _
  total_joined p (x ∷ ps) q qs =
      bounds_trans _ (plus_step (term_weight elements p.body) (plus_step (total_weight elements x ps) (total_weight elements q qs))) _
      (plus_sound _ _ (term_sound elements p.body) (plus_sound _ _ (total_sound x ps) (total_sound q qs))).den
      (plus_brackets _ _ _ (term_sound elements p.body) (total_sound x ps) (total_sound q qs))
      (plus_bounds _ _ _ _ (term_sound elements p.body) (bounds_refl _) (total_joined x ps q qs))

  -- ---- what bounds both bounds the sum
  both_total : (a b : Weight) → IsSound a → IsSound b → (ps qs : List IntegrandTerm) → BoundsTotal elements a ps → BoundsTotal elements b qs → BoundsTotal elements (plus_step a b) (ps ++ qs)
  both_total a b s t [] [] h k = tt
  both_total a b s t [] (q ∷ qs) h k = bounds_trans _ b _ t.den (plus_second a b s t) k
  both_total a b s t (p ∷ ps) [] h k =
      subst (λ xs. Bounds (plus_step a b) (total_weight elements p xs)) (sym (none_behind ps)) (bounds_trans _ a _ s.den (plus_first a b s t) h)
    where
      none_behind : (xs : List IntegrandTerm) → xs ++ [] ≡ xs
      none_behind [] = refl
      none_behind (x ∷ xs) = ap (λ ys. x ∷ ys) (none_behind xs)
  both_total a b s t (p ∷ ps) (q ∷ qs) h k =
      bounds_trans _ (plus_step (total_weight elements p ps) (total_weight elements q qs)) _ (plus_sound _ _ (total_sound p ps) (total_sound q qs)).den
      (plus_bounds _ _ _ _ (total_sound p ps) h k) (total_joined p ps q qs)

  under_total : (op : Operator) (a : Weight) (ps : List IntegrandTerm) → BoundsTotal elements a ps → BoundsTotal elements (weight_under op a) (map (with_body (under op)) ps)
  under_total op a [] h = tt
  under_total op a (p ∷ ps) h =
      bounds_trans _ (weight_under op (total_weight elements p ps)) _ (sound_under op _ (total_sound p ps)).den (monotone op _ _ h) (total_under op p ps)

  -- ---- forms
  through : (op : Operator) (f : FormTerm) → HaveWeight elements f (flattened elements f) → (bs : List Bool)
      → BoundsTotal elements (weight_under op (form_weight exact elements f)) (chosen bs (map (with_body (under op)) (flattened elements f)))
  through op f h bs = subst (BoundsTotal elements _) (sym (chosen_under op bs (flattened elements f))) (under_total op _ (chosen bs (flattened elements f)) (h bs))

  integrand_bounds : (e : Typed) → IsFitting elements e → Bounds (weight_with exact elements e) (term_weight elements (integrand_term elements e))
  integrand_bounds e fit =
      expanded_bounds (lower share_of elements e Named [] (first_name e [])) elements (weight_with exact elements e)
      (lower_bounds elements share_of shares_weigh e fit Named [] (first_name e []) (omega arith))

  pub have_weight : (f : FormTerm) → ArePartsFitting elements f → HaveWeight elements f (flattened elements f)
  have_weight (integral on e) h [] = tt
  have_weight (integral on e) h (true ∷ bs) = one_chosen bs
    where
      one_chosen : (bs : List Bool) → BoundsTotal elements (weight_with exact elements e) (record { on = on; body = integrand_term elements e } ∷ chosen bs [])
      one_chosen [] = integrand_bounds e h
      one_chosen (true ∷ bs) = integrand_bounds e h
      one_chosen (false ∷ bs) = integrand_bounds e h
  have_weight (integral on e) h (false ∷ bs) = none bs
    where
      none : (bs : List Bool) → BoundsTotal elements (weight_with exact elements e) (chosen bs [])
      none [] = tt
      none (true ∷ bs) = tt
      none (false ∷ bs) = tt
  have_weight (sum f g) h bs =
      subst (BoundsTotal elements _) (sym (chosen_joined bs (flattened elements f) (flattened elements g)))
      (both_total _ _ (form_sound elements f) (form_sound elements g) _ _ (have_weight f h.0 bs) (have_weight g h.1 (behind bs (flattened elements f))))
  have_weight (scale c f) h bs = through (Scale c) f (have_weight f h) bs
  have_weight (left f) h bs = through Left f (have_weight f h) bs
  have_weight (right f) h bs = through Right f (have_weight f h) bs
  have_weight (action f last g) h bs = through (Action last g.role) f (have_weight f h.0) bs
  have_weight (adjoint f) h bs = through Adjoint f (have_weight f h) bs
  have_weight (derivative f w du) h bs = through (Derivative w.role du.role) f (have_weight f h.0) bs
