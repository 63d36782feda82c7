-- A function that is planned for the monomials of a marker is a function of the form
use Rattle.std.proofs.Common.{◌≡◌, ℕ, ◌+◌, ◌*◌, ◌<◌, ◌≤◌, ◌^◌, Bool, true, false, if◌then◌else◌, List, [], Option, None, Some, Result, Ok, Err, IfOk, refl, sym, ◌∙◌, ap, subst}
use Rattle.std.specs.List.{AllByRecursion}
use Rattle.algebra.specs.Fraction.{Fraction}
use Rattle.calculus.specs.Simplex.{Simplex, IsCell, dimension}
use Rattle.spaces.specs.Cell.{dimension as cell_dimension}
use Rattle.ufl_tree.specs.FormTerm.{FormTerm}
use Rattle.ufl_tree.specs.Places.{IsLawfulTable, Table}
use Rattle.ufl_form.specs.declared.table.FormKind.{FormKind}
use Rattle.ufl_form.specs.Table.{AreTyped, form_kind, form_patterns}
use Rattle.monos.specs.declared.layout.Layout.{Layout}
use Rattle.monos.specs.declared.weight.Weight.{Weight}
use Rattle.monos.specs.Layout.{IsLawfulLayout, IsLawfulOn}
use Rattle.monos.specs.Monomial.{Monomial}
use Rattle.weigh.specs.declared.refusal.WeightRefusal.{WeightRefusal}
use Rattle.weigh.specs.declared.refusal.WeightRefusal.TheVariants.{Arity}
use Rattle.weigh.specs.Refusals.{weight_refusal}
use Rattle.weigh.specs.Weighing.{exact, kept, form_weight}
use Rattle.admit.specs.Admission.{admission, by_weight, has_arity, rank_of}
use Rattle.c_unit.specs.declared.unit.CFun.{CFun}
use Rattle.c_unit.specs.Meaning.{ran, counted_list}
use Rattle.c_unit.specs.Rules.{KeepsSizes}
use Rattle.integrands.specs.Flattening.{flattened}
use Rattle.integrands.specs.declared.integrand.Integrand.{Integrand}
use Rattle.integrands.specs.Integrands.{IntegrandTerm, integrands_of}
use Rattle.integrands.specs.Keeping.{HaveDensity, HaveWeight}
use Rattle.normal.specs.Origins.{AllAtoms}
use Rattle.arity.proofs.Places.{all_placed}
use Rattle.form_values.specs.CellShares.{density_on}
use Rattle.form_layouts.specs.Layouts.{IsLawfulFor, IsLayoutOf}
use Rattle.form_layouts.specs.Problems.{no_cells}
use Rattle.form_monomials.specs.Markers.{bodies_in, RunsOn}
use Rattle.form_monomials.specs.Monomials.{AddUp, AreAdmitted, AreBounded, HaveBoundedNumbers, HaveBodies, HaveRank}
use Rattle.form_monomials.specs.Monomials as M
use Rattle.form_monomials.proofs.FormLaws.{form_within, weight_admitted}
use Rattle.form_weights.specs.Places.{HaveTheirParts}
use Rattle.form_weights.proofs.WeightLaws.{sum_weighed, all_within}
use Rattle.kernel_runs.specs.Preamble.{coordinates}
use Rattle.room.specs.Room.{room, numbers_of, all_values}
use Rattle.planner.specs.Kernels.{AreWithin, GivesShares, HasArguments, HasSizes, monos_density}
use Rattle.form_kernels.specs.Admitted.{IsAdmittedForm, form_layout, occurring_in, problem_on}
use Rattle.form_kernels.specs.Kernels.{GivesCellShares}
use Rattle.form_kernels.specs.Parts.{ArePartsOf, IsFunctionFor}
use Rattle.form_kernels.specs.declared.form_functions.FormParts.{FormParts}
use Rattle.form_kernels.proofs.ElementLaws.{have_arguments, monomials_placed}
use Rattle.form_kernels.proofs.RunLaws.{marked_density, shares_more}

-- what `monomials` ensures
pub record AreMonomialsOf (elements : Table) (rank : ℕ) (ps : List IntegrandTerm) (marker : Option ℕ) (ms : List Monomial) : Type 0 where
  pub value : AddUp elements ps marker ms
  pub weight : AreBounded elements ps ms
  pub numbers : HaveBoundedNumbers elements ps ms
  pub arguments : HaveRank rank ms
  pub leaves : AllAtoms (λ a. HaveBodies a.f (bodies_in marker ps)) ms

-- what `plan` ensures
pub record IsPlanned (name : List ℕ) (ms : List Monomial) (l : Layout) (w : Weight) (c : CFun) : Type 0 where
  pub name_is : c.name ≡ name
  pub sizes : HasSizes l c
  pub lawful : KeepsSizes c
  pub share : (v : Simplex) (values : List Fraction) → IsCell v → dimension v ≡ l.d → GivesShares (Unit {0}) (monos_density ms) l v values (ran c (coordinates l.d v) values)
  pub within : (v : Simplex) (values : List Fraction) → IsCell v → dimension v ≡ l.d → room w (numbers_of l.d v (all_values l v values)) < 2 ^ 127
      → GivesShares ⊥ (monos_density ms) l v values (ran c (coordinates l.d v) values)
  pub bound : counted_list c.body ≤ (w.g + w.rmax + 4) * w.cost + 200

module _ (elements : Table) (numbers : List ℕ) (f : FormTerm) (k : FormKind) (w : Weight) (parts : FormParts) (are : ArePartsOf elements numbers f k w parts) where
  abbrev l : Layout
  l = form_layout elements numbers f k.cell

  abbrev rank : ℕ
  rank = rank_of (form_patterns f)

  bounded : M.AreWithin elements (cell_dimension k.cell) w (flattened elements f)
  bounded = form_within elements f k w are.typed are.form.fits are.form.kind are.form.admitted are.weights

  pub integrands_admitted : AreAdmitted elements (integrands_of parts.integrands.items)
  integrands_admitted =
      subst (AreAdmitted elements) (sym are.integrands)
      (record { d = cell_dimension k.cell; w = w; within = bounded; admitted = weight_admitted (cell_dimension k.cell) elements f w are.form.admitted })

  pub layout_lawful : IsLawfulLayout parts.layout
  layout_lawful = (k.cell, subst (IsLawfulOn k.cell) (sym are.layout) are.on_cell)

  module _ (marker : Option ℕ) (ms : List Monomial) (of : AreMonomialsOf elements rank (integrands_of parts.integrands.items) marker ms) where
    of_form : AreMonomialsOf elements rank (flattened elements f) marker ms
    of_form = subst (λ (ps : List IntegrandTerm). AreMonomialsOf elements rank ps marker ms) are.integrands of

    placed : HaveTheirParts elements l ms
    placed =
        monomials_placed elements numbers f k are.form.kind (no_cells k.cell) refl (λ n. []) marker (flattened elements f)
        (all_placed elements numbers f k are.typed are.form.fits are.form.numbered are.form.kind) ms of_form.leaves of_form.arguments.test of_form.arguments.trial

    within_form : AreWithin l w ms
    within_form = record {
      admitted = weight_admitted (cell_dimension k.cell) elements f w are.form.admitted;
      weighed = sum_weighed elements l w ms placed (of_form.weight (cell_dimension k.cell) w bounded);
      each = all_within elements l w ms placed (of_form.weight (cell_dimension k.cell) w bounded) (of_form.numbers (cell_dimension k.cell) w bounded);
    }

    arguments_form : AllByRecursion (HasArguments l) ms
    arguments_form = have_arguments elements numbers f k are.form.kind (no_cells k.cell) refl (λ n. []) ms of_form.arguments.test of_form.arguments.trial

    pub weight_within : AreWithin parts.layout parts.weight ms
    weight_within = subst (λ (x : Layout). AreWithin x parts.weight ms) (sym are.layout) (subst (λ (x : Weight). AreWithin l x ms) (sym are.weight) within_form)

    pub arguments_there : AllByRecursion (HasArguments parts.layout) ms
    arguments_there = subst (λ (x : Layout). AllByRecursion (HasArguments x) ms) (sym are.layout) arguments_form

    module _ (name : List ℕ) (c : CFun) (plan : IsPlanned name ms parts.layout parts.weight c) where
      on_form : IsPlanned name ms l w c
      on_form = subst (λ (x : Layout). IsPlanned name ms x w c) are.layout (subst (λ (x : Weight). IsPlanned name ms parts.layout x c) are.weight plan)

      gives : (m : ℕ) → RunsOn marker (flattened elements f) m → GivesCellShares (problem_on elements numbers f k.cell) (occurring_in numbers f) w m c
      gives m on =
          let q = density_on (problem_on elements numbers f k.cell) m in
          let adds = marked_density elements f (flattened elements f) are.density marker ms of_form.value m on in
          record {
            shares = λ v values cell dim. shares_more (Unit {0}) q ms l v values cell dim adds (ran c (coordinates l.d v) values) (on_form.share v values cell dim);
            within = λ v values cell dim room. shares_more ⊥ q ms l v values cell dim adds (ran c (coordinates l.d v) values) (on_form.within v values cell dim room);
          }

      pub function_for : IsFunctionFor elements numbers f k w marker name c
      function_for = record {
        function = record { name_is = on_form.name_is; sizes = on_form.sizes; lawful = on_form.lawful; bound = on_form.bound };
        runs = gives;
      }

-- ---- answers
pub all_planned : {E : Type 0} (name : List ℕ) (ms : List Monomial) (l : Layout) (w : Weight) (r : Result CFun E) → IfOk r (λ (c : CFun). c.name ≡ name) → IfOk r (HasSizes l) → IfOk r KeepsSizes
    → IfOk r (λ (c : CFun). (v : Simplex) (values : List Fraction) → IsCell v → dimension v ≡ l.d → GivesShares (Unit {0}) (monos_density ms) l v values (ran c (coordinates l.d v) values))
    → IfOk r (λ (c : CFun). (v : Simplex) (values : List Fraction) → IsCell v → dimension v ≡ l.d → room w (numbers_of l.d v (all_values l v values)) < 2 ^ 127
    → GivesShares ⊥ (monos_density ms) l v values (ran c (coordinates l.d v) values))
    → IfOk r (λ (c : CFun). counted_list c.body ≤ (w.g + w.rmax + 4) * w.cost + 200) → IfOk r (IsPlanned name ms l w)
all_planned name ms l w (Ok c) a b d e g h = record { name_is = a; sizes = b; lawful = d; share = e; within = g; bound = h }
all_planned name ms l w (Err x) a b d e g h = tt

admitted_weight : (a : Bool) (r : Option WeightRefusal) (v w : Weight) → (if a then by_weight v r else Err Arity) ≡ Ok w → v ≡ w
admitted_weight false r v w h = cc
admitted_weight true (Some r) v w h = cc
admitted_weight true None v w h = cc

pub parts_are : (elements : Table) (numbers : List ℕ) (f : FormTerm) (k : FormKind) (w : Weight) (parts : FormParts) → IsAdmittedForm elements numbers f k w → IsLawfulTable elements → AreTyped f
    → admission kept (cell_dimension k.cell) elements f ≡ admission exact (cell_dimension k.cell) elements f
    → integrands_of parts.integrands.items ≡ flattened elements f → HaveDensity elements f (integrands_of parts.integrands.items) → HaveWeight elements f (integrands_of parts.integrands.items)
    → IsLayoutOf elements numbers f parts.layout → IsLawfulFor elements numbers f parts.layout → parts.weight ≡ form_weight kept elements f → ArePartsOf elements numbers f k w parts
parts_are elements numbers f k w parts form lawful typed law tree density weights layout on weight =
    let is = layout.layout k (no_cells k.cell) (λ n. []) form.kind refl in
    record {
      form = form;
      lawful = lawful;
      typed = typed;
      integrands = tree;
      density = subst (HaveDensity elements f) tree density;
      weights = subst (HaveWeight elements f) tree weights;
      layout = is;
      on_cell = subst (IsLawfulOn k.cell) is (on.lawful k (record { elements_lawful = lawful; typed = typed; fits = form.fits; numbered = form.numbered }) form.kind);
      weight = weight ∙ admitted_weight (has_arity (form_patterns f)) (weight_refusal (cell_dimension k.cell) (form_weight kept elements f)) (form_weight kept elements f) w (law ∙ form.admitted);
    }

admitted_arity : (a : Bool) (r : Option WeightRefusal) (v w : Weight) → (if a then by_weight v r else Err Arity) ≡ Ok w → a ≡ true
admitted_arity false r v w h = cc
admitted_arity true r v w h = refl

module _ (elements : Table) (numbers : List ℕ) (f : FormTerm) (k : FormKind) (w : Weight) (parts : FormParts) (are : ArePartsOf elements numbers f k w parts) (marker : Option ℕ) (xs : List Integrand)
    (is : xs ≡ parts.integrands.items) (ms : List Monomial) (value : AddUp elements (integrands_of xs) marker ms) (weight : AreBounded elements (integrands_of xs) ms) (bounded : HaveBoundedNumbers elements (integrands_of xs) ms)
    (arguments : (g : FormTerm) (j : FormKind) → AreTyped g → form_kind g ≡ Ok j → has_arity (form_patterns g) ≡ true → integrands_of xs ≡ flattened elements g → HaveRank (rank_of (form_patterns g)) ms)
    (leaves : AllAtoms (λ a. HaveBodies a.f (bodies_in marker (integrands_of xs))) ms) where
  made : AreMonomialsOf elements (rank_of (form_patterns f)) (integrands_of parts.integrands.items) marker ms
  made =
      subst (λ (ys : List Integrand). AreMonomialsOf elements (rank_of (form_patterns f)) (integrands_of ys) marker ms) is
      (record {
        value = value;
        weight = weight;
        numbers = bounded;
        arguments = arguments f k are.typed are.form.kind
            (admitted_arity (has_arity (form_patterns f)) (weight_refusal (cell_dimension k.cell) (form_weight exact elements f)) (form_weight exact elements f) w are.form.admitted)
            (ap integrands_of is ∙ are.integrands);
        leaves = leaves;
      })

  module _ (ns : List Monomial) (same : ns ≡ ms) where
    pub sum_within : AreWithin parts.layout parts.weight ns
    sum_within = subst (AreWithin parts.layout parts.weight) (sym same) (weight_within elements numbers f k w parts are marker ms made)

    pub sum_arguments : AllByRecursion (HasArguments parts.layout) ns
    sum_arguments = subst (AllByRecursion (HasArguments parts.layout)) (sym same) (arguments_there elements numbers f k w parts are marker ms made)

    pub sum_function : {E : Type 0} (name : List ℕ) (r : Result CFun E) → IfOk r (IsPlanned name ns parts.layout parts.weight) → IfOk r (IsFunctionFor elements numbers f k w marker name)
    sum_function name (Ok c) h = function_for elements numbers f k w parts are marker ms made name c (subst (λ (os : List Monomial). IsPlanned name os parts.layout parts.weight c) same h)
    sum_function name (Err x) h = tt

pub renamed : (elements : Table) (numbers : List ℕ) (f : FormTerm) (k : FormKind) (w : Weight) (marker : Option ℕ) (m n : List ℕ) (c : CFun) → IsFunctionFor elements numbers f k w marker m c → m ≡ n
    → IsFunctionFor elements numbers f k w marker n c
renamed elements numbers f k w marker m n c h e = subst (λ (x : List ℕ). IsFunctionFor elements numbers f k w marker x c) e h
