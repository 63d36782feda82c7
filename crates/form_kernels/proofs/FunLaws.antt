-- The functions of all markers
use Rattle.std.proofs.Common.{◌≡◌, ℕ, zero, suc, ◌+◌, ◌++◌, ◌<◌, ◌≤◌, ◌^◌, ◌==◌, inl, inr, Bool, true, false, if◌then◌else◌, List, [], ◌∷◌, map, length, take, get_or, Option, None, Some, refl, sym, ◌∙◌, ap, subst, arith, eqb-true, eq-eqb}
use Rattle.std.specs.Prelude.{Contains, slice_index_or}
use Rattle.std.specs.List.{AllByRecursion}
use Rattle.std.proofs.lemmas.List.{map-append, take_all, take_more}
use Rattle.ufl_tree.specs.declared.function.On.{On}
use Rattle.ufl_tree.specs.declared.function.On.TheVariants.{All, Marked}
use Rattle.ufl_tree.specs.FormTerm.{FormTerm}
use Rattle.ufl_tree.specs.Places.{Table}
use Rattle.ufl_form.specs.declared.table.FormKind.{FormKind}
use Rattle.ufl_meaning.specs.Density.{covers}
use Rattle.monos.specs.declared.weight.Weight.{Weight}
use Rattle.weigh.proofs.ListLaws.{all_append}
use Rattle.c_unit.specs.declared.unit.CFun.{CFun}
use Rattle.assembly.specs.Assembly.{marked_fun}
use Rattle.assembly.specs.declared.funs.Funs.{Funs}
use Rattle.assembly.specs.declared.funs.MarkedFun.{MarkedFun}
use Rattle.integrands.specs.Flattening.{flattened}
use Rattle.integrands.specs.declared.integrand.Integrand.{Integrand}
use Rattle.integrands.specs.Integrands.{IntegrandTerm, integrands_of}
use Rattle.form_monomials.specs.Markers.{AreMarkers, AreMarkersOf, RunsOn, is_part, named}
use Rattle.form_monomials.proofs.FormLaws.{form_named, none_or_named, runs_there}
use Rattle.form_kernels.specs.Admitted.{HasFormFunctions, occurring_in, problem_on}
use Rattle.form_kernels.specs.Kernels.{GivesCellShares, IsFunction, marked_name, plain_name}
use Rattle.form_kernels.specs.Parts.{AreMarkedFunctions, IsFunctionFor}

-- ---- which function runs
chosen_runs : (Q : CFun → Type 0) (k : ℕ) (m : MarkedFun) (rest : CFun) (t : Bool) → (m.marker == k) ≡ t → (m.marker ≡ k → Q m.fun) → ((m.marker == k) ≡ false → Q rest)
    → Q (if t then m.fun else rest)
chosen_runs Q k m rest true e here other = here (eqb-true m.marker k e)
chosen_runs Q k m rest false e here other = other e

pub runs_on : (Q : CFun → Type 0) (k : ℕ) (plain : CFun) (ms : List MarkedFun) → AllByRecursion (λ (m : MarkedFun). m.marker ≡ k → Q m.fun) ms
    → (AllByRecursion (λ (m : MarkedFun). (m.marker == k) ≡ false) ms → Q plain) → Q (marked_fun ms k plain)
runs_on Q k plain [] h other = other tt
runs_on Q k plain (m ∷ ms) h other =
    chosen_runs Q k m (marked_fun ms k plain) (m.marker == k) refl h.0 (λ apart. runs_on Q k plain ms h.1 (λ none. other (apart, none)))

not_named : (k : ℕ) (ms : List MarkedFun) → AllByRecursion (λ (m : MarkedFun). (m.marker == k) ≡ false) ms → (i : ℕ) → i < length (map (λ (m : MarkedFun). m.marker) ms)
    → slice_index_or (map (λ (m : MarkedFun). m.marker) ms) i k ≡ k → ⊥
not_named k [] none i lt at = omega arith
not_named k (m ∷ ms) none zero lt at = apart (sym none.0 ∙ eq-eqb m.marker k at)
  where
    apart : false ≡ true → ⊥
    apart e = cc
not_named k (m ∷ ms) none (suc i) lt at = not_named k ms none.1 i (omega arith) at

-- ---- on the cells of a marker
by_marker : (k : ℕ) (on : On) → covers on k ≡ is_part (Some k) on
by_marker k All = refl
by_marker k (Marked j) = refl

all_by_marker : (k : ℕ) (ps : List IntegrandTerm) → RunsOn (Some k) ps k
all_by_marker k [] = tt
all_by_marker k (p ∷ ps) = (by_marker k p.on, all_by_marker k ps)

module _ (elements : Table) (numbers : List ℕ) (f : FormTerm) (k : FormKind) (w : Weight) (name markers : List ℕ) (of : AreMarkersOf f markers) where
  abbrev ps : List IntegrandTerm
  ps = flattened elements f

  abbrev Gives : ℕ → CFun → Type 0
  Gives m c = GivesCellShares (problem_on elements numbers f k.cell) (occurring_in numbers f) w m c

  -- where no marked function is one of the marker, the form doesn't name it
  unnamed : (m : ℕ) (ms : List MarkedFun) → map (λ (m : MarkedFun). m.marker) ms ≡ markers → AllByRecursion (λ (x : MarkedFun). (x.marker == m) ≡ false) ms → RunsOn None ps m
  unnamed m ms is none =
      elim (none_or_named m ps) [
        | inl e ↦ subst (λ (fn : Option ℕ). RunsOn fn ps m) e (runs_there m ps)
        | inr e ↦ absurd (contradiction e.1)
      ]
    where
      contradiction : Contains (named ps) m → ⊥
      contradiction h =
          let there : Contains markers m = of.all m (subst (λ (ns : List ℕ). Contains ns m) (form_named elements f) h) in
          let here : Contains (map (λ (m : MarkedFun). m.marker) ms) m = subst (λ (ns : List ℕ). Contains ns m) (sym is) there in
          not_named m ms none here.0 here.1 here.2

  each_runs : (m : ℕ) (ms : List MarkedFun) → AllByRecursion (λ (x : MarkedFun). IsFunctionFor elements numbers f k w (Some x.marker) (marked_name x.marker name) x.fun) ms
      → AllByRecursion (λ (x : MarkedFun). x.marker ≡ m → Gives m x.fun) ms
  each_runs m [] h = tt
  each_runs m (x ∷ ms) h = ((λ e. h.0.runs m (subst (λ (n : ℕ). RunsOn (Some n) ps m) (sym e) (all_by_marker m ps))), each_runs m ms h.1)

  each_is : (ms : List MarkedFun) → AllByRecursion (λ (x : MarkedFun). IsFunctionFor elements numbers f k w (Some x.marker) (marked_name x.marker name) x.fun) ms
      → AllByRecursion (λ (x : MarkedFun). IsFunction (problem_on elements numbers f k.cell) (occurring_in numbers f) w (marked_name x.marker name) x.fun) ms
  each_is [] h = tt
  each_is (x ∷ ms) h = (h.0.function, each_is ms h.1)

  pub form_functions : (funs : Funs) → IsFunctionFor elements numbers f k w None (plain_name name) funs.plain → AreMarkedFunctions elements numbers f k w name markers funs.marked.items
      → HasFormFunctions elements numbers f k.cell w name funs
  form_functions funs plain marked = record {
    markers = markers;
    are_markers = of;
    functions = record {
      plain = plain.function;
      marked = each_is funs.marked.items marked.each;
      markers = marked.markers_are;
      small = marked.small;
      runs = λ m. runs_on (Gives m) m funs.plain funs.marked.items (each_runs m funs.marked.items marked.each) (λ none. plain.runs m (unnamed m funs.marked.items marked.markers_are none));
    };
  }

-- ---- answers
pub markers_of : (elements : Table) (f : FormTerm) (qs : List IntegrandTerm) (ms : List ℕ) → qs ≡ flattened elements f → AreMarkers qs ms → AreMarkersOf f ms
markers_of elements f qs ms is are = are f (sym (form_named elements f) ∙ ap named (sym is))

pub none_marked : (elements : Table) (numbers : List ℕ) (f : FormTerm) (k : FormKind) (w : Weight) (name markers : List ℕ) → AreMarkedFunctions elements numbers f k w name (take 0 markers) []
none_marked elements numbers f k w name markers = record { markers_are = refl; small = tt; each = tt }

pub one_marked : (elements : Table) (numbers : List ℕ) (f : FormTerm) (k : FormKind) (w : Weight) (name markers : List ℕ) (i : ℕ) (ms : List MarkedFun) (m : MarkedFun) → i < length markers
    → m.marker ≡ get_or markers i 0 → m.marker < 2 ^ 32 → AreMarkedFunctions elements numbers f k w name (take i markers) ms
    → IsFunctionFor elements numbers f k w (Some m.marker) (marked_name m.marker name) m.fun → AreMarkedFunctions elements numbers f k w name (take (i + 1) markers) (ms ++ m ∷ [])
one_marked elements numbers f k w name markers i ms m within at small old new = record {
  markers_are =
      map-append (λ (x : MarkedFun). x.marker) ms (m ∷ []) ∙ ap (λ ns. ns ++ m.marker ∷ []) old.markers_are ∙ ap (λ n. take i markers ++ n ∷ []) at ∙ sym (take_more markers i 0 within);
  small = all_append _ ms (m ∷ []) old.small (small, tt);
  each = all_append _ ms (m ∷ []) old.each (new, tt);
}

pub all_marked : (elements : Table) (numbers : List ℕ) (f : FormTerm) (k : FormKind) (w : Weight) (name markers : List ℕ) (i : ℕ) (ms : List MarkedFun) → length markers ≤ i
    → AreMarkedFunctions elements numbers f k w name (take i markers) ms → AreMarkedFunctions elements numbers f k w name markers ms
all_marked elements numbers f k w name markers i ms past h = subst (λ (ns : List ℕ). AreMarkedFunctions elements numbers f k w name ns ms) (take_all i markers past) h

pub markers_named : (elements : Table) (f : FormTerm) (xs ys : List Integrand) (ms : List ℕ) → AreMarkers (integrands_of xs) ms → xs ≡ ys → integrands_of ys ≡ flattened elements f → AreMarkersOf f ms
markers_named elements f xs ys ms are same is = markers_of elements f (integrands_of xs) ms (ap integrands_of same ∙ is) are

pub marked_again : (elements : Table) (numbers : List ℕ) (f : FormTerm) (k : FormKind) (w : Weight) (name ms ns : List ℕ) (all : List MarkedFun) → AreMarkedFunctions elements numbers f k w name ms all → ms ≡ ns
    → AreMarkedFunctions elements numbers f k w name ns all
marked_again elements numbers f k w name ms ns all h e = subst (λ (x : List ℕ). AreMarkedFunctions elements numbers f k w name x all) e h
