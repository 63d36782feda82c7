-- The functions in the integrands of a form have their elements in the form's problem
use Rattle.std.proofs.Common.{◌≡◌, ℕ, zero, suc, ◌+◌, ◌<◌, ◌≤◌, ◌==◌, nat_le, ◌⊎◌, inl, inr, Bool, true, false, if◌then◌else◌, List, [], ◌∷◌, length, Option, Some, Ok, refl, sym, ◌∙◌, ap, arith, eqb-true, eq-eqb}
use Rattle.std.specs.Prelude.{Contains}
use Rattle.std.specs.List.{AllByRecursion}
use Rattle.std.proofs.lemmas.Bool.Decides.{nat_tests}
use Rattle.std.proofs.lemmas.Option.{slice_get_within}
use Rattle.algebra.specs.Fraction.{Fraction}
use Rattle.mesh_in.specs.MeshData.{MeshData}
use Rattle.ufl_tree.specs.declared.function.Function.{Function}
use Rattle.ufl_tree.specs.declared.function.Role.{Role}
use Rattle.ufl_tree.specs.declared.function.Role.TheVariants.{Test, Trial, Position, Coefficient}
use Rattle.ufl_tree.specs.FormTerm.{FormTerm}
use Rattle.ufl_tree.specs.Term.{Term}
use Rattle.ufl_tree.specs.Places.{Table}
use Rattle.ufl_expr.specs.Elements.{position_space}
use Rattle.ufl_form.specs.declared.table.FormKind.{FormKind}
use Rattle.ufl_form.specs.Table.{form_kind, form_patterns}
use Rattle.ufl_meaning.specs.Environment.{same_role}
use Rattle.monos.specs.declared.mono.Atom.{Atom}
use Rattle.monos.specs.Monomial.{Monomial}
use Rattle.admit.specs.Admission.{rank_of}
use Rattle.integrands.specs.Integrands.{IntegrandTerm}
use Rattle.normal.specs.Origins.{AllAtoms}
use Rattle.form_values.specs.CellLayout.{Occurring, is_among, layout_of, parts_of}
use Rattle.form_values.specs.Linear.{HaveCount, atom_count}
use Rattle.form_values.specs.Problem.{Problem, space_in}
use Rattle.form_layouts.specs.Occurring.{occurs, occurring, coefficients_from}
use Rattle.form_layouts.specs.Problems.{arguments_by, arguments_of, form_problem, ranked}
use Rattle.arity.specs.Leaves.{EachLeaf}
use Rattle.arity.specs.Places.{HasItsPlace, HaveTheirPlaces, IsPlaceFor}
use Rattle.arity.proofs.Leaves.{leaf_has}
use Rattle.form_monomials.specs.Markers.{bodies_in, is_part}
use Rattle.form_monomials.specs.Monomials.{HaveBodies}
use Rattle.form_weights.specs.Places.{HasItsParts, HaveTheirParts, IsElementFor}
use Rattle.form_weights.proofs.PlaceLaws.{has_its_parts}
use Rattle.planner.specs.Kernels.{HasArguments, HasAtomOf}

-- ---- coefficients that occur
among_here : (b : Bool) (m n : ℕ) (ms : List ℕ) → b ≡ true → m ≡ n → is_among (if b then m ∷ ms else ms) n ≡ true
among_here true m n ms h e = ap (λ t. if t then true else is_among ms n) (eq-eqb m n e)
among_here false m n ms h e = cc

among_later : (b : Bool) (m n : ℕ) (ms : List ℕ) → is_among ms n ≡ true → is_among (if b then m ∷ ms else ms) n ≡ true
among_later true m n ms h = either (m == n) (is_among ms n) h
  where
    either : (t rest : Bool) → rest ≡ true → (if t then true else rest) ≡ true
    either true rest h = refl
    either false rest h = h
among_later false m n ms h = h

above : (a b : ℕ) → (a == b) ≡ false → a ≤ b → suc a ≤ b
above a b e h = grind (arith, nat_tests)

among_choice : (f : FormTerm) (start count n : ℕ) (t : Bool) → (start == n) ≡ t → occurs (Coefficient n) f ≡ true → start ≤ n
    → (suc start ≤ n → is_among (coefficients_from f (suc start) count) n ≡ true) → is_among (coefficients_from f start (suc count)) n ≡ true
among_choice f start count n true e there low later =
    let same : start ≡ n = eqb-true start n e in
    among_here (occurs (Coefficient start) f) start n (coefficients_from f (suc start) count) (ap (λ k. occurs (Coefficient k) f) same ∙ there) same
among_choice f start count n false e there low later =
    among_later (occurs (Coefficient start) f) start n (coefficients_from f (suc start) count) (later (above start n e low))

among_from : (f : FormTerm) (start count n : ℕ) → occurs (Coefficient n) f ≡ true → start ≤ n → n < start + count → is_among (coefficients_from f start count) n ≡ true
among_from f start zero n there low high = absurd (omega arith)
among_from f start (suc count) n there low high =
    among_choice f start count n (start == n) refl there low (λ past. among_from f (suc start) count n there past (omega (arith, high)))

-- ---- elements
-- a function of an argument is there only where the form's rank has it
abbrev pub IsRanked : ℕ → Role → Type 0
IsRanked rank Test = nat_le 1 rank ≡ true
IsRanked rank Trial = nat_le 2 rank ≡ true
IsRanked rank Position = Unit {0}
IsRanked rank (Coefficient n) = Unit {0}

module _ (elements : Table) (numbers : List ℕ) (f : FormTerm) (k : FormKind) (kind : form_kind f ≡ Ok k) (m : MeshData Fraction) (on : m.kind ≡ k.cell) (values : ℕ → List Fraction) where
  pub element_for : (r : Role) (e : ℕ) → IsRanked (rank_of (form_patterns f)) r → IsPlaceFor elements numbers f k r e → IsElementFor (form_problem elements numbers f m values) (occurring (length numbers) f) r e
  element_for Test e ranks h =
      ap (λ v. ranked (nat_le 1 (rank_of (form_patterns f))) (arguments_by v).test) kind ∙ ap (λ b. ranked b k.arguments.test) ranks ∙ h
  element_for Trial e ranks h =
      ap (λ v. ranked (nat_le 2 (rank_of (form_patterns f))) (arguments_by v).trial) kind ∙ ap (λ b. ranked b k.arguments.trial) ranks ∙ h
  element_for Position e ranks h = (h.0, h.1 ∙ ap (λ c. Some (position_space c)) (sym on))
  element_for (Coefficient n) e ranks h = (among_from f 0 (length numbers) n h.0 (omega arith) (let lt : n < length numbers = slice_get_within numbers n e h.1 in omega (arith, lt)), h.1)

-- ---- the functions of atoms
body_choice : (P : Function → Type 0) (b : Term) (bs : List Term) (x : Function) (t : Bool) → EachLeaf P b → (HaveBodies x bs → P x) → HaveBodies x (if t then b ∷ bs else bs) → P x
body_choice P b bs x true h later (inl a) = leaf_has P x b h a
body_choice P b bs x true h later (inr a) = later a
body_choice P b bs x false h later a = later a

pub bodies_have : (P : Function → Type 0) (marker : Option ℕ) (ps : List IntegrandTerm) (x : Function) → AllByRecursion (λ (p : IntegrandTerm). EachLeaf P p.body) ps
    → HaveBodies x (bodies_in marker ps) → P x
bodies_have P marker [] x h b = absurd b
bodies_have P marker (p ∷ ps) x h b = body_choice P p.body (bodies_in marker ps) x (is_part marker p.on) h.0 (bodies_have P marker ps x h.1) b

-- ---- atoms of arguments
if_one : (t : Bool) → 1 ≤ (if t then 1 else 0) → t ≡ true
if_one true h = refl
if_one false h = absurd (omega arith)

step_up : (t : Bool) (n : ℕ) → n ≤ (if t then suc n else n)
step_up true n = omega arith
step_up false n = omega arith

step_one : (t : Bool) (n : ℕ) → t ≡ true → 1 ≤ (if t then suc n else n)
step_one true n h = omega arith
step_one false n h = cc

-- where the atoms have at most so many of each argument as the rank says, each is ranked
ranked_role : (rank : ℕ) (r : Role) → (same_role r Test ≡ true → nat_le 1 rank ≡ true) → (same_role r Trial ≡ true → nat_le 2 rank ≡ true) → IsRanked rank r
ranked_role rank Test a b = a refl
ranked_role rank Trial a b = b refl
ranked_role rank Position a b = tt
ranked_role rank (Coefficient n) a b = tt

pub atoms_ranked : (rank : ℕ) (xs : List Atom) → atom_count Test xs ≤ (if nat_le 1 rank then 1 else 0) → atom_count Trial xs ≤ (if nat_le 2 rank then 1 else 0)
    → AllByRecursion (λ a. IsRanked rank a.f.role) xs
atoms_ranked rank [] a b = tt
atoms_ranked rank (x ∷ xs) a b = (
  ranked_role rank x.f.role
      (λ e. if_one (nat_le 1 rank) (let s = step_one (same_role x.f.role Test) (atom_count Test xs) e in omega (arith, s, a)))
      (λ e. if_one (nat_le 2 rank) (let s = step_one (same_role x.f.role Trial) (atom_count Trial xs) e in omega (arith, s, b))),
  atoms_ranked rank xs (let s = step_up (same_role x.f.role Test) (atom_count Test xs) in omega (arith, s, a))
      (let s = step_up (same_role x.f.role Trial) (atom_count Trial xs) in omega (arith, s, b)),
)

-- an atom of a role that is counted
contains_later : (x : Atom) (xs : List Atom) (y : Atom) → Contains xs y → Contains (x ∷ xs) y
contains_later x xs y h = (suc h.0, (let lt : h.0 < length xs = h.1 in omega (arith, lt)), h.2)

count_first : (t : Bool) (n : ℕ) → 0 < (if t then suc n else n) → (t ≡ true) ⊎ (0 < n)
count_first true n h = inl refl
count_first false n h = inr h

has_later : (w : Role) (x : Atom) (xs : List Atom) → HasAtomOf w xs → HasAtomOf w (x ∷ xs)
has_later w x xs h = (h.0, contains_later x xs h.0 h.1, h.2)

pub has_atom : (w : Role) → ((r : Role) → same_role r w ≡ true → r ≡ w) → (xs : List Atom) → 0 < atom_count w xs → HasAtomOf w xs
has_atom w same [] h = absurd (omega arith)
has_atom w same (x ∷ xs) h =
    elim (count_first (same_role x.f.role w) (atom_count w xs) h) [
      | inl e ↦ (x, (0, omega arith, refl), same x.f.role e)
      | inr more ↦ has_later w x xs (has_atom w same xs more)
    ]

test_role : (r : Role) → same_role r Test ≡ true → r ≡ Test
test_role Test h = refl
test_role Trial h = cc
test_role Position h = cc
test_role (Coefficient n) h = cc

trial_role : (r : Role) → same_role r Trial ≡ true → r ≡ Trial
trial_role Test h = cc
trial_role Trial h = refl
trial_role Position h = cc
trial_role (Coefficient n) h = cc

-- ---- monomials
-- an argument that the layout has is one of the rank
argument_there : (t : Bool) (p : Problem) (e : Option ℕ) → 0 < length (parts_of (space_in p (ranked t e))).items → t ≡ true
argument_there true p e h = refl
argument_there false p e h = absurd (omega arith)

one_there : (t : Bool) (n : ℕ) → t ≡ true → n ≡ (if t then 1 else 0) → 0 < n
one_there true n e h = omega arith
one_there false n e h = cc

module _ (elements : Table) (numbers : List ℕ) (f : FormTerm) (k : FormKind) (kind : form_kind f ≡ Ok k) (m : MeshData Fraction) (on : m.kind ≡ k.cell) (values : ℕ → List Fraction) where
  abbrev p : Problem
  p = form_problem elements numbers f m values

  abbrev o : Occurring
  o = occurring (length numbers) f

  abbrev rank : ℕ
  rank = rank_of (form_patterns f)

  atoms_placed : (marker : Option ℕ) (ps : List IntegrandTerm) → HaveTheirPlaces elements numbers f k ps → (xs : List Atom) → AllByRecursion (λ a. HaveBodies a.f (bodies_in marker ps)) xs
      → AllByRecursion (λ a. IsRanked rank a.f.role) xs → AllByRecursion (λ a. HasItsParts elements (layout_of p o) a.f) xs
  atoms_placed marker ps h [] b r = tt
  atoms_placed marker ps h (x ∷ xs) b r = (
    has_its_parts p o x.f (element_for elements numbers f k kind m on values x.f.role x.f.element r.0 (bodies_have (HasItsPlace elements numbers f k) marker ps x.f h b.0)),
    atoms_placed marker ps h xs b.1 r.1,
  )

  pub monomials_placed : (marker : Option ℕ) (ps : List IntegrandTerm) → HaveTheirPlaces elements numbers f k ps → (ms : List Monomial) → AllAtoms (λ a. HaveBodies a.f (bodies_in marker ps)) ms
      → HaveCount Test (if nat_le 1 rank then 1 else 0) ms → HaveCount Trial (if nat_le 2 rank then 1 else 0) ms → HaveTheirParts elements (layout_of p o) ms
  monomials_placed marker ps h [] b t u = tt
  monomials_placed marker ps h (x ∷ xs) b t u =
      (atoms_placed marker ps h x.atoms b.0 (atoms_ranked rank x.atoms (omega (arith, t.0)) (omega (arith, u.0))), monomials_placed marker ps h xs b.1 t.1 u.1)

  pub have_arguments : (ms : List Monomial) → HaveCount Test (if nat_le 1 rank then 1 else 0) ms → HaveCount Trial (if nat_le 2 rank then 1 else 0) ms → AllByRecursion (HasArguments (layout_of p o)) ms
  have_arguments [] t u = tt
  have_arguments (x ∷ xs) t u = (
    record {
      test = λ h. has_atom Test test_role x.atoms (one_there (nat_le 1 rank) (atom_count Test x.atoms) (argument_there (nat_le 1 rank) p (arguments_of f).test h) t.0);
      trial = λ h. has_atom Trial trial_role x.atoms (one_there (nat_le 2 rank) (atom_count Trial x.atoms) (argument_there (nat_le 2 rank) p (arguments_of f).trial h) u.0);
    },
    have_arguments xs t.1 u.1,
  )
