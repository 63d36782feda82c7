-- The arguments of the monomials of a form with an arity
use Rattle.std.proofs.Common.{◌≡◌, ℕ, zero, suc, ◌+◌, ◌||◌, nat_le, if◌then◌else◌, inl, inr, Bool, true, false, List, [], ◌∷◌, Option, Ok, refl, sym, ◌∙◌, subst, arith}
use Rattle.std.specs.List.{AllByRecursion}
use Rattle.ufl_tree.specs.declared.function.Function.{Function}
use Rattle.ufl_tree.specs.declared.function.Role.{Role}
use Rattle.ufl_tree.specs.declared.function.Role.TheVariants.{Test, Trial}
use Rattle.ufl_tree.specs.FormTerm.{FormTerm}
use Rattle.ufl_tree.specs.Places.{Table}
use Rattle.ufl_tree.specs.Term.{Term}
use Rattle.ufl_meaning.specs.Density.{no_names}
use Rattle.ufl_meaning.specs.Environment.{same_role}
use Rattle.monos.specs.Monomial.{Monomial}
use Rattle.monos.specs.declared.mono.Atom.{Atom}
use Rattle.ufl_form.specs.declared.pattern_set.PatternSet.{PatternSet}
use Rattle.ufl_form.specs.declared.table.FormKind.{FormKind}
use Rattle.ufl_form.specs.Pairs.{has_pair}
use Rattle.ufl_form.specs.Patterns.{only_pair, of_role, product}
use Rattle.ufl_form.specs.Table.{AreTyped, form_kind, form_patterns}
use Rattle.admit.specs.Admission.{same_pairs, has_arity, rank_of}
use Rattle.normal.specs.Bounding.{function_sum}
use Rattle.normal.specs.Monomials.{monomials}
use Rattle.normal.specs.Origins.{HaveSameFunctions, HasOrigin, HaveOrigins}
use Rattle.integrands.specs.Flattening.{flattened}
use Rattle.integrands.specs.Integrands.{IntegrandTerm}
use Rattle.form_values.specs.Linear.{atom_count, HaveCount}
use Rattle.arity.proofs.Terms.{HasTerm, IsWithin, within_sum}
use Rattle.arity.proofs.Forms.{AllWithin, flattened_within}
use Rattle.arity.proofs.Counts.{paired}
use Rattle.arity.proofs.Ranks.{pairs}
use Rattle.form_monomials.specs.Markers.{bodies_in}
use Rattle.form_monomials.specs.Monomials.{HaveRank}
use Rattle.form_monomials.specs.Sums.{IsSumOf}
use Rattle.form_monomials.proofs.ChoiceLaws.{in_bodies}
use Rattle.form_monomials.proofs.SumLaws.{sum_has}

-- ---- how many atoms are of an argument
abbrev one_where : Role → Function → ℕ
one_where w f = if same_role f.role w then 1 else 0

pub counted : (w : Role) (xs : List Atom) → function_sum (one_where w) xs ≡ atom_count w xs
counted w [] = refl
counted w (a ∷ xs) = go (same_role a.f.role w) (counted w xs)
  where
    go : (b : Bool) → function_sum (one_where w) xs ≡ atom_count w xs → (if b then 1 else 0) + function_sum (one_where w) xs ≡ (if b then suc (atom_count w xs) else atom_count w xs)
    go true h = omega (arith, h)
    go false h = omega (arith, h)

same_count : (w : Role) (xs ys : List Atom) → HaveSameFunctions xs ys → atom_count w xs ≡ atom_count w ys
same_count w xs ys h = sym (counted w xs) ∙ h.each (one_where w) ∙ counted w ys

-- ---- the numbers of a set with an arity
record AreRanked (p : PatternSet) (i j : ℕ) : Type 0 where
  test : i ≡ (if nat_le 1 (rank_of p) then 1 else 0)
  trial : j ≡ (if nat_le 2 (rank_of p) then 1 else 0)

no_argument : (i j : ℕ) → has_pair only_pair i j ≡ true → AreRanked only_pair i j
no_argument zero zero h = record { test = refl; trial = refl }
no_argument zero (suc zero) h = cc
no_argument zero (suc (suc j)) h = cc
no_argument (suc zero) zero h = cc
no_argument (suc zero) (suc zero) h = cc
no_argument (suc zero) (suc (suc j)) h = cc
no_argument (suc (suc i)) zero h = cc
no_argument (suc (suc i)) (suc zero) h = cc
no_argument (suc (suc i)) (suc (suc j)) h = cc

one_argument : (i j : ℕ) → has_pair (of_role Test) i j ≡ true → AreRanked (of_role Test) i j
one_argument zero zero h = cc
one_argument zero (suc zero) h = cc
one_argument zero (suc (suc j)) h = cc
one_argument (suc zero) zero h = record { test = refl; trial = refl }
one_argument (suc zero) (suc zero) h = cc
one_argument (suc zero) (suc (suc j)) h = cc
one_argument (suc (suc i)) zero h = cc
one_argument (suc (suc i)) (suc zero) h = cc
one_argument (suc (suc i)) (suc (suc j)) h = cc

two_arguments : (i j : ℕ) → has_pair (product (of_role Test) (of_role Trial)) i j ≡ true → AreRanked (product (of_role Test) (of_role Trial)) i j
unfolding product
two_arguments zero zero h = cc
two_arguments zero (suc zero) h = cc
two_arguments zero (suc (suc j)) h = cc
two_arguments (suc zero) zero h = cc
two_arguments (suc zero) (suc zero) h = record { test = refl; trial = refl }
two_arguments (suc zero) (suc (suc j)) h = cc
two_arguments (suc (suc i)) zero h = cc
two_arguments (suc (suc i)) (suc zero) h = cc
two_arguments (suc (suc i)) (suc (suc j)) h = cc

moved : (p q : PatternSet) (i j : ℕ) → p ≡ q → (has_pair q i j ≡ true → AreRanked q i j) → has_pair p i j ≡ true → AreRanked p i j
moved p q i j e f h = subst (λ x. AreRanked x i j) (sym e) (f (subst (λ x. has_pair x i j ≡ true) e h))

by_arity : (a b c : Bool) (p : PatternSet) → same_pairs p only_pair ≡ a → same_pairs p (of_role Test) ≡ b → same_pairs p (product (of_role Test) (of_role Trial)) ≡ c
    → a || (b || c) ≡ true → (i j : ℕ) → has_pair p i j ≡ true → AreRanked p i j
by_arity true b c p x y z h i j = moved p only_pair i j (pairs p only_pair x) (no_argument i j)
by_arity false true c p x y z h i j = moved p (of_role Test) i j (pairs p (of_role Test) y) (one_argument i j)
by_arity false false true p x y z h i j = moved p (product (of_role Test) (of_role Trial)) i j (pairs p (product (of_role Test) (of_role Trial)) z) (two_arguments i j)
by_arity false false false p x y z h i j = cc

ranked : (p : PatternSet) → has_arity p ≡ true → (i j : ℕ) → has_pair p i j ≡ true → AreRanked p i j
ranked p h = by_arity (same_pairs p only_pair) (same_pairs p (of_role Test)) (same_pairs p (product (of_role Test) (of_role Trial))) p refl refl refl h

-- ---- the monomials of a tree within a set
module _ (p : PatternSet) (arity : has_arity p ≡ true) where
  abbrev Ranked : List Atom → Type 0
  Ranked xs = AreRanked p (atom_count Test xs) (atom_count Trial xs)

  from_origin : (t : Term) → IsWithin p t → (ks : List Monomial) → AllByRecursion (λ (m : Monomial). HasTerm t (atom_count Test m.atoms) (atom_count Trial m.atoms)) ks
      → (xs : List Atom) → HasOrigin ks xs → Ranked xs
  from_origin t w [] h xs o = absurd o
  from_origin t w (k ∷ ks) h xs (inl o) =
      let r = ranked p arity (atom_count Test k.atoms) (atom_count Trial k.atoms) (w.holds (atom_count Test k.atoms) (atom_count Trial k.atoms) h.0) in
      record { test = same_count Test xs k.atoms o ∙ r.test; trial = same_count Trial xs k.atoms o ∙ r.trial }
  from_origin t w (k ∷ ks) h xs (inr o) = from_origin t w ks h.1 xs o

  all_ranked : (t : Term) → IsWithin p t → (elements : Table) (ms : List Monomial) → HaveOrigins (monomials elements t no_names) ms → AllByRecursion (λ (m : Monomial). Ranked m.atoms) ms
  all_ranked t w elements [] h = tt
  all_ranked t w elements (m ∷ ms) h =
      (from_origin t w (monomials elements t no_names) (paired elements t no_names) m.atoms h.0, all_ranked t w elements ms h.1)

  have_tests : (ms : List Monomial) → AllByRecursion (λ (m : Monomial). Ranked m.atoms) ms → HaveCount Test (if nat_le 1 (rank_of p) then 1 else 0) ms
  have_tests [] h = tt
  have_tests (m ∷ ms) h = (h.0.test, have_tests ms h.1)

  have_trials : (ms : List Monomial) → AllByRecursion (λ (m : Monomial). Ranked m.atoms) ms → HaveCount Trial (if nat_le 2 (rank_of p) then 1 else 0) ms
  have_trials [] h = tt
  have_trials (m ∷ ms) h = (h.0.trial, have_trials ms h.1)

  have_rank : (t : Term) → IsWithin p t → (elements : Table) (ms : List Monomial) → HaveOrigins (monomials elements t no_names) ms → HaveRank (rank_of p) ms
  have_rank t w elements ms h =
      let r = all_ranked t w elements ms h in
      record { test = have_tests ms r; trial = have_trials ms r }

  pub sum_within : (marker : Option ℕ) (e : Term) (ps : List IntegrandTerm) → IsSumOf e (bodies_in marker ps) → AllWithin p ps → IsWithin p e
  sum_within marker e ps s h = sum_has (IsWithin p) (within_sum p) e (bodies_in marker ps) s (in_bodies marker (IsWithin p) ps h)

-- ---- the function of a form
pub function_rank : (elements : Table) (marker : Option ℕ) (e : Term) (ps : List IntegrandTerm) → IsSumOf e (bodies_in marker ps) → (ms : List Monomial) → HaveOrigins (monomials elements e no_names) ms
    → (f : FormTerm) (k : FormKind) → AreTyped f → form_kind f ≡ Ok k → has_arity (form_patterns f) ≡ true → ps ≡ flattened elements f → HaveRank (rank_of (form_patterns f)) ms
function_rank elements marker e ps s ms o f k t h a same =
    have_rank (form_patterns f) a e
    (sum_within (form_patterns f) a marker e ps s (subst (AllWithin (form_patterns f)) (sym same) (flattened_within elements f k t h))) elements ms o

pub no_rank : (n : ℕ) → HaveRank n []
no_rank n = record { test = tt; trial = tt }
