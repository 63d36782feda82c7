-- An admitted form is linear in its arguments
use Rattle.std.proofs.Common.{◌≡◌, ◌≤◌, ℕ, suc, ◌⊎◌, inl, inr, Bool, true, false, if◌then◌else◌, List, [], ◌∷◌, ◌++◌, Option, None, Some, Ok, refl, ap₂, ◌∙◌}
use Rattle.std.specs.List.{AllByRecursion}
use Rattle.calculus.specs.Polynomial.{nil, plus}
use Rattle.ufl_tree.specs.declared.function.Role.TheVariants.{Test, Trial, Position, Coefficient}
use Rattle.ufl_tree.specs.Places.{Table, IsLawfulTable}
use Rattle.ufl_tree.specs.Term.{Term, num, fun, mark, neg, sum, prod, over, dx, delta, pick, raise, turn, Terms, no_terms, term}
use Rattle.ufl_meaning.specs.Density.{covers}
use Rattle.ufl_meaning.specs.Environment.{Environment}
use Rattle.ufl_meaning.specs.Monomial.{HasNoOffset, monos_value}
use Rattle.ufl_meaning.specs.Prelude.{meaning, no_names}
use Rattle.monos.specs.Monomial.{Monomial}
use Rattle.ufl_form.specs.declared.pattern_set.PatternSet.{PatternSet}
use Rattle.ufl_form.specs.declared.table.FormKind.{FormKind}
use Rattle.ufl_form.specs.Fits.{FormFits}
use Rattle.ufl_form.specs.Table.{AreTyped, form_patterns, form_kind}
use Rattle.admit.specs.Admission.{has_arity, rank_of}
use Rattle.weigh.proofs.ListLaws.{all_append}
use Rattle.perturb.specs.Expanding.{IsReady, AreReady}
use Rattle.normal.specs.Monomials.{monomials, IsExpanded, AreExpanded}
use Rattle.normal.proofs.MeaningLaws.{means}
use Rattle.normal.proofs.MonomialLaws.{append_value}
use Rattle.typing.specs.Parts.{ArePartsFitting}
use Rattle.integrands.specs.Flattening.{flattened}
use Rattle.integrands.specs.Integrands.{IntegrandTerm, integrands_value}
use Rattle.integrands.specs.Keeping.{AreExpanded as AreCarriedOut}
use Rattle.integrands.proofs.DensityLaws.{are_expanded, have_density}
use Rattle.form_values.specs.CellLayout.{Occurring}
use Rattle.form_values.specs.Linear.{HaveCount, HaveOneWhere, IsMultilinear, atom_count}
use Rattle.form_values.specs.Problem.{Problem}
use Rattle.form_values.proofs.LinearForms.{multilinear}
use Rattle.arity.specs.Ranks.{HasItsRank}
use Rattle.ufl_tree.specs.declared.function.Function.{Function}
use Rattle.ufl_tree.specs.declared.function.Role.{Role}
use Rattle.ufl_tree.specs.FormTerm.{FormTerm}
use Rattle.ufl_meaning.specs.Environment.{same_role}
use Rattle.monos.specs.declared.mono.Atom.{Atom}
use Rattle.ufl_form.specs.Numbered.{FormIsNumbered}
use Rattle.normal.specs.Origins.{HasFunction, AllAtoms}
use Rattle.normal.proofs.OriginLaws.{from_leaves}
use Rattle.form_layouts.specs.Occurring.{occurs}
use Rattle.arity.specs.Leaves.{EachLeaf}
use Rattle.arity.specs.Places.{IsPlaceFor, HasItsPlace}
use Rattle.arity.proofs.Leaves.{all_kept, leaf_has}
use Rattle.arity.proofs.Places.{all_placed}
use Rattle.arity.proofs.Terms.{HasTerm, IsWithin}
use Rattle.arity.proofs.Forms.{AllWithin, flattened_within}
use Rattle.arity.proofs.Counts.{paired}
use Rattle.arity.proofs.Ranks.{IsPair, has_its_pair}

-- ---- trees without derivatives by variables and by functions
mutual
  pub ready_expanded : (n : ℕ) (t : Term) → IsReady n t → IsExpanded t
  ready_expanded n (num c) h = tt
  ready_expanded n (fun f at) h = tt
  ready_expanded n (mark l at b) h = ready_expanded n b h
  ready_expanded n (neg a) h = ready_expanded n a h
  ready_expanded n (sum a b) h = (ready_expanded n a h.0, ready_expanded n b h.1)
  ready_expanded n (prod a b) h = (ready_expanded n a h.0, ready_expanded n b h.1)
  ready_expanded n (over i d b) h = ready_expanded n b h.1
  ready_expanded n (dx i b) h = ready_expanded n b h
  ready_expanded n (delta i j) h = tt
  ready_expanded n (pick i ts) h = all_expanded n ts h
  ready_expanded n (raise l at b) h = absurd h
  ready_expanded n (turn f g b) h = absurd h

  all_expanded : (n : ℕ) (ts : Terms) → AreReady n ts → AreExpanded ts
  all_expanded n no_terms h = tt
  all_expanded n (term t ts) h = (ready_expanded n t h.0, all_expanded n ts h.1)

-- ---- the monomials of a list of integrands on the cells of a marker
abbrev on_cells : Bool → List Monomial → List Monomial
on_cells b ms = if b then ms else []

abbrev monomials_on : Table → List IntegrandTerm → ℕ → List Monomial
monomials_on elements [] m = []
monomials_on elements (p ∷ ps) m = on_cells (covers p.on m) (monomials elements p.body no_names) ++ monomials_on elements ps m

one_adds : (elements : Table) (b : Bool) (t : Term) (env : Environment) → IsExpanded t → HasNoOffset env
    → monos_value env (on_cells b (monomials elements t no_names)) ≡ (if b then meaning elements t env no_names else nil)
one_adds elements true t env e plain = means elements env plain t no_names e
one_adds elements false t env e plain = refl

add_up : (elements : Table) (ps : List IntegrandTerm) → AreCarriedOut ps → (env : Environment) → HasNoOffset env
    → monos_value env (monomials_on elements ps env.marker) ≡ integrands_value elements ps env
add_up elements [] h env plain = refl
add_up elements (p ∷ ps) h env plain =
    append_value env (on_cells (covers p.on env.marker) (monomials elements p.body no_names)) (monomials_on elements ps env.marker)
    ∙ ap₂ plus (one_adds elements (covers p.on env.marker) p.body env (ready_expanded 0 p.body h.0) plain) (add_up elements ps h.1 env plain)

-- ---- their pairs
abbrev AllPairs : PatternSet → List Monomial → Type 0
AllPairs P ms = AllByRecursion (λ (m : Monomial). IsPair P (atom_count Test m.atoms) (atom_count Trial m.atoms)) ms

have_pairs : (P : PatternSet) → has_arity P ≡ true → (t : Term) → IsWithin P t → (ms : List Monomial)
    → AllByRecursion (λ (m : Monomial). HasTerm t (atom_count Test m.atoms) (atom_count Trial m.atoms)) ms → AllPairs P ms
have_pairs P a t w [] h = tt
have_pairs P a t w (m ∷ ms) h =
    (has_its_pair P a (atom_count Test m.atoms) (atom_count Trial m.atoms) (w.holds (atom_count Test m.atoms) (atom_count Trial m.atoms) h.0), have_pairs P a t w ms h.1)

pairs_on : (P : PatternSet) (b : Bool) (ms : List Monomial) → AllPairs P ms → AllPairs P (on_cells b ms)
pairs_on P true ms h = h
pairs_on P false ms h = tt

all_pairs : (elements : Table) (P : PatternSet) → has_arity P ≡ true → (ps : List IntegrandTerm) → AllWithin P ps → (m : ℕ) → AllPairs P (monomials_on elements ps m)
all_pairs elements P a [] h m = tt
all_pairs elements P a (p ∷ ps) h m =
    all_append _ (on_cells (covers p.on m) (monomials elements p.body no_names)) (monomials_on elements ps m)
    (pairs_on P (covers p.on m) (monomials elements p.body no_names) (have_pairs P a p.body h.0 (monomials elements p.body no_names) (paired elements p.body no_names)))
    (all_pairs elements P a ps h.1 m)

have_tests : (P : PatternSet) → 1 ≤ rank_of P → (ms : List Monomial) → AllPairs P ms → HaveCount Test 1 ms
have_tests P r [] h = tt
have_tests P r (m ∷ ms) h = (h.0.test r, have_tests P r ms h.1)

have_trials : (P : PatternSet) → 2 ≤ rank_of P → (ms : List Monomial) → AllPairs P ms → HaveCount Trial 1 ms
have_trials P r [] h = tt
have_trials P r (m ∷ ms) h = (h.0.trial r, have_trials P r ms h.1)

tests_where : (P : PatternSet) (e : Option ℕ) → (e ≡ None) ⊎ (1 ≤ rank_of P) → (ms : List Monomial) → AllPairs P ms → HaveOneWhere e Test ms
tests_where P None r ms h = tt
tests_where P (Some e) (inl n) ms h = cc
tests_where P (Some e) (inr r) ms h = have_tests P r ms h

trials_where : (P : PatternSet) (e : Option ℕ) → (e ≡ None) ⊎ (2 ≤ rank_of P) → (ms : List Monomial) → AllPairs P ms → HaveOneWhere e Trial ms
trials_where P None r ms h = tt
trials_where P (Some e) (inl n) ms h = cc
trials_where P (Some e) (inr r) ms h = have_trials P r ms h

-- ---- the position
no_position : (ms : List Monomial) → AllAtoms (λ a. same_role a.f.role Position ≡ false) ms → HaveCount Position 0 ms
no_position [] h = tt
no_position (m ∷ ms) h = (none m.atoms h.0, no_position ms h.1)
  where
    none_first : (b : Bool) (n : ℕ) → b ≡ false → n ≡ 0 → (if b then suc n else n) ≡ 0
    none_first true n h k = cc
    none_first false n h k = k

    none : (atoms : List Atom) → AllByRecursion (λ a. same_role a.f.role Position ≡ false) atoms → atom_count Position atoms ≡ 0
    none [] h = refl
    none (a ∷ atoms) h = none_first (same_role a.f.role Position) (atom_count Position atoms) h.0 (none atoms h.1)

atoms_have : (P : Function → Type 0) (t : Term) → EachLeaf P t → (atoms : List Atom) → AllByRecursion (λ a. HasFunction a.f t) atoms → AllByRecursion (λ a. P a.f) atoms
atoms_have P t h [] x = tt
atoms_have P t h (a ∷ atoms) x = (leaf_has P a.f t h x.0, atoms_have P t h atoms x.1)

all_atoms_have : (P : Function → Type 0) (t : Term) → EachLeaf P t → (ms : List Monomial) → AllAtoms (λ a. HasFunction a.f t) ms → AllAtoms (λ a. P a.f) ms
all_atoms_have P t h [] x = tt
all_atoms_have P t h (m ∷ ms) x = (atoms_have P t h m.atoms x.0, all_atoms_have P t h ms x.1)

atoms_on : (P : Function → Type 0) (b : Bool) (ms : List Monomial) → AllAtoms (λ a. P a.f) ms → AllAtoms (λ a. P a.f) (on_cells b ms)
atoms_on P true ms h = h
atoms_on P false ms h = tt

atoms_placed : (elements : Table) (P : Function → Type 0) (ps : List IntegrandTerm) → AllByRecursion (λ (p : IntegrandTerm). EachLeaf P p.body) ps → (m : ℕ)
    → AllAtoms (λ a. P a.f) (monomials_on elements ps m)
atoms_placed elements P [] h m = tt
atoms_placed elements P (p ∷ ps) h m =
    all_append _ (on_cells (covers p.on m) (monomials elements p.body no_names)) (monomials_on elements ps m)
    (atoms_on P (covers p.on m) (monomials elements p.body no_names) (all_atoms_have P p.body h.0 (monomials elements p.body no_names) (from_leaves elements p.body no_names)))
    (atoms_placed elements P ps h.1 m)

occurs_not : (elements : Table) (numbers : List ℕ) (f : FormTerm) (k : FormKind) → occurs Position f ≡ false → (r : Role) (e : ℕ) → IsPlaceFor elements numbers f k r e
    → same_role r Position ≡ false
occurs_not elements numbers f k none Test e h = refl
occurs_not elements numbers f k none Trial e h = refl
occurs_not elements numbers f k none (Coefficient n) e h = refl
occurs_not elements numbers f k none Position e h = cc

pub admitted_multilinear : (p : Problem) (o : Occurring) (k : FormKind) → (o.position ≡ false → occurs Position p.form ≡ false) → IsLawfulTable p.elements → AreTyped p.form
    → FormFits p.elements p.form → FormIsNumbered p.coefficients p.form → ArePartsFitting p.elements p.form → form_kind p.form ≡ Ok k → has_arity (form_patterns p.form) ≡ true → HasItsRank p → IsMultilinear p o
admitted_multilinear p o k there lawful t f n l kind a r =
    let ps = flattened p.elements p.form in
    let P = form_patterns p.form in
    let within = flattened_within p.elements p.form k t kind in
    multilinear p o (monomials_on p.elements ps)
    (λ env used plain. add_up p.elements ps (are_expanded p.elements p.form) env plain ∙ have_density p.elements lawful p.form l env used)
    (λ m. let all = all_pairs p.elements P a ps within m in
    record {
      test = tests_where P p.test r.test (monomials_on p.elements ps m) all;
      trial = trials_where P p.trial r.trial (monomials_on p.elements ps m) all;
      position = λ none. no_position (monomials_on p.elements ps m)
          (atoms_placed p.elements (λ x. same_role x.role Position ≡ false) ps
          (all_kept (HasItsPlace p.elements p.coefficients p.form k) (λ x. same_role x.role Position ≡ false)
          (λ x. occurs_not p.elements p.coefficients p.form k (there none) x.role x.element) ps (all_placed p.elements p.coefficients p.form k t f n kind)) m);
    })
