-- The functions of a form, and its weight
use Rattle.std.proofs.Common.{◌≡◌, ◌⊎◌, inl, inr, ℕ, ◌==◌, nat_eq, ◌||◌, Bool, true, false, if◌then◌else◌, List, [], ◌∷◌, ◌++◌, map, Option, None, Some, Ok, Err, refl, sym, ◌∙◌, ap, ap₂, subst, arith, eqb-true}
use Rattle.std.specs.Prelude.{Contains}
use Rattle.std.specs.List.{list_any}
use Rattle.std.proofs.lemmas.Bool.Decides.{nat_tests}
use Rattle.std.proofs.lemmas.Map.Views.{Contains-from_any}
use Rattle.spaces.specs.Cell.{dimension}
use Rattle.spaces.proofs.NodeLaws.{dimension_range}
use Rattle.ufl_tree.specs.declared.function.On.{On}
use Rattle.ufl_tree.specs.declared.function.On.TheVariants.{All, Marked}
use Rattle.ufl_tree.specs.FormTerm.{FormTerm, integral, sum, scale, left, right, action, adjoint, derivative}
use Rattle.ufl_tree.specs.Places.{Table}
use Rattle.ufl_tree.specs.Term.{Term}
use Rattle.ufl_form.specs.declared.table.FormKind.{FormKind}
use Rattle.ufl_form.specs.Fits.{FormFits}
use Rattle.ufl_form.specs.Table.{AreTyped, form_kind, form_patterns}
use Rattle.ufl_meaning.specs.Density.{covers}
use Rattle.ufl_meaning.specs.Prelude.{Environment, HasOnlyUsed, HasNoOffset, monos_value, density}
use Rattle.monos.specs.Monomial.{Monomial}
use Rattle.monos.specs.declared.weight.Weight.{Weight}
use Rattle.weigh.specs.declared.refusal.WeightRefusal.{WeightRefusal}
use Rattle.weigh.specs.declared.refusal.WeightRefusal.TheVariants.{Arity}
use Rattle.weigh.specs.Admitted.{IsAdmitted}
use Rattle.weigh.specs.Refusals.{weight_refusal}
use Rattle.weigh.specs.Weighing.{exact, form_weight}
use Rattle.weigh.proofs.AdmittedLaws.{form_admitted}
use Rattle.weigh.proofs.WeighLaws.{form_sound}
use Rattle.admit.specs.Admission.{admission, by_weight, has_arity}
use Rattle.integrands.specs.declared.operator.Operator.TheVariants as o
use Rattle.integrands.specs.Flattening.{under, flattened}
use Rattle.integrands.specs.Integrands.{IntegrandTerm, with_body}
use Rattle.integrands.specs.Keeping.{HaveDensity, HaveWeight}
use Rattle.integrands.proofs.DensityLaws.{are_expanded}
use Rattle.arity.proofs.Directions.{all_directions}
use Rattle.form_monomials.specs.Markers.{is_part, RunsOn, marker_before, named, named_in, function_on}
use Rattle.form_monomials.specs.Monomials.{AddUp, AreWithin}

-- ---- the markers of a form
before_all : (on : On) (ms ns : List ℕ) → marker_before on (ms ++ ns) ≡ marker_before on ms ++ ns
before_all All ms ns = refl
before_all (Marked k) ms ns = refl

named_both : (ps qs : List IntegrandTerm) → named (ps ++ qs) ≡ named ps ++ named qs
named_both [] qs = refl
named_both (p ∷ ps) qs = ap (marker_before p.on) (named_both ps qs) ∙ before_all p.on (named ps) (named qs)

named_under : (h : Term → Term) (ps : List IntegrandTerm) → named (map (with_body h) ps) ≡ named ps
named_under h [] = refl
named_under h (p ∷ ps) = ap (marker_before p.on) (named_under h ps)

pub form_named : (elements : Table) (f : FormTerm) → named (flattened elements f) ≡ named_in f
form_named elements (integral on e) = refl
form_named elements (sum f g) = named_both (flattened elements f) (flattened elements g) ∙ ap₂ (λ (ms ns : List ℕ). ms ++ ns) (form_named elements f) (form_named elements g)
form_named elements (scale c f) = named_under (under (o.Scale c)) (flattened elements f) ∙ form_named elements f
form_named elements (left f) = named_under (under o.Left) (flattened elements f) ∙ form_named elements f
form_named elements (right f) = named_under (under o.Right) (flattened elements f) ∙ form_named elements f
form_named elements (action f last g) = named_under (under (o.Action last g.role)) (flattened elements f) ∙ form_named elements f
form_named elements (adjoint f) = named_under (under o.Adjoint) (flattened elements f) ∙ form_named elements f
form_named elements (derivative f w du) = named_under (under (o.Derivative w.role du.role)) (flattened elements f) ∙ form_named elements f

-- ---- the function for the cells of a marker
apart : (j k : ℕ) → nat_eq k j ≡ false → (j == k) ≡ false
apart j k h = grind (arith, nat_tests)

neither : (a b : Bool) → (a || b) ≡ false → (a ≡ false) × (b ≡ false)
neither true b h = cc
neither false b h = (refl, h)

module _ (k : ℕ) where
  by_marker : (on : On) → covers on k ≡ is_part (Some k) on
  by_marker All = refl
  by_marker (Marked j) = refl

  all_by_marker : (ps : List IntegrandTerm) → RunsOn (Some k) ps k
  all_by_marker [] = tt
  all_by_marker (p ∷ ps) = (by_marker p.on, all_by_marker ps)

  other_marker : (on : On) (ms : List ℕ) → list_any (nat_eq k) (marker_before on ms) ≡ false → (covers on k ≡ is_part None on) × (list_any (nat_eq k) ms ≡ false)
  other_marker All ms h = (refl, h)
  other_marker (Marked j) ms h = let n = neither (nat_eq k j) (list_any (nat_eq k) ms) h in (apart j k n.0, n.1)

  none_by_marker : (ps : List IntegrandTerm) → list_any (nat_eq k) (named ps) ≡ false → RunsOn None ps k
  none_by_marker [] h = tt
  none_by_marker (p ∷ ps) h = let n = other_marker p.on (named ps) h in (n.0, none_by_marker ps n.1)

  pub runs_there : (ps : List IntegrandTerm) → RunsOn (function_on ps k) ps k
  runs_there ps = go (list_any (nat_eq k) (named ps)) refl
    where
      go : (b : Bool) → list_any (nat_eq k) (named ps) ≡ b → RunsOn (if b then Some k else None) ps k
      go true e = all_by_marker ps
      go false e = none_by_marker ps e

  pub none_or_named : (ps : List IntegrandTerm) → (function_on ps k ≡ None) ⊎ ((function_on ps k ≡ Some k) × Contains (named ps) k)
  none_or_named ps = go (list_any (nat_eq k) (named ps)) refl
    where
      go : (b : Bool) → list_any (nat_eq k) (named ps) ≡ b → ((if b then Some k else None) ≡ None) ⊎ (((if b then Some k else None) ≡ Some k) × Contains (named ps) k)
      go true e = inr (refl, Contains-from_any (λ x y h. eqb-true x y h) k (named ps) e)
      go false e = inl refl

-- ---- the density
pub density_there : (elements : Table) (f : FormTerm) (ps : List IntegrandTerm) → HaveDensity elements f ps → (marker : Option ℕ) (ms : List Monomial) → AddUp elements ps marker ms
    → (env : Environment) → HasOnlyUsed env → HasNoOffset env → RunsOn marker ps env.marker → monos_value env ms ≡ density elements f env
density_there elements f ps h marker ms a env used plain runs = a env plain runs ∙ h env used

pub density_everywhere : (elements : Table) (f : FormTerm) (ps : List IntegrandTerm) → HaveDensity elements f ps → (env : Environment) → HasOnlyUsed env → HasNoOffset env
    → (ms : List Monomial) → AddUp elements ps (function_on ps env.marker) ms → monos_value env ms ≡ density elements f env
density_everywhere elements f ps h env used plain ms a = density_there elements f ps h (function_on ps env.marker) ms a env used plain (runs_there env.marker ps)

-- ---- the weight
record IsPassed (a : Bool) (r : Option WeightRefusal) (v w : Weight) : Type 0 where
  arity : a ≡ true
  refusal : r ≡ None
  weight : w ≡ v

passed : (a : Bool) (r : Option WeightRefusal) (v w : Weight) → (if a then by_weight v r else Err Arity) ≡ Ok w → IsPassed a r v w
passed false r v w h = cc
passed true (Some r) v w h = cc
passed true None v w h = record { arity = refl; refusal = refl; weight = cc }

form_passed : (d : ℕ) (elements : Table) (f : FormTerm) (w : Weight) → admission exact d elements f ≡ Ok w
    → IsPassed (has_arity (form_patterns f)) (weight_refusal d (form_weight exact elements f)) (form_weight exact elements f) w
form_passed d elements f w h = passed (has_arity (form_patterns f)) (weight_refusal d (form_weight exact elements f)) (form_weight exact elements f) w h

pub weight_admitted : (d : ℕ) (elements : Table) (f : FormTerm) (w : Weight) → admission exact d elements f ≡ Ok w → IsAdmitted d w
weight_admitted d elements f w h = let p = form_passed d elements f w h in subst (IsAdmitted d) (sym p.weight) (form_admitted elements f d p.refusal)

pub form_within : (elements : Table) (f : FormTerm) (k : FormKind) (w : Weight) → AreTyped f → FormFits elements f → form_kind f ≡ Ok k → admission exact (dimension k.cell) elements f ≡ Ok w
    → HaveWeight elements f (flattened elements f) → AreWithin elements (dimension k.cell) w (flattened elements f)
form_within elements f k w t fits kind a h =
    subst (λ (v : Weight). AreWithin elements (dimension k.cell) v (flattened elements f)) (sym (form_passed (dimension k.cell) elements f w a).weight)
    (record { positive = (dimension_range k.cell).0; sound = form_sound elements f; expanded = are_expanded elements f; directions = all_directions elements f k t fits kind; weight = h })
