-- What derivatives and operators on forms do to the pairs of a tree in index notation
use Rattle.std.proofs.Common.{◌≡◌, ℕ, suc, ◌+◌, ◌==◌, inl, inr, Bool, true, false, if◌then◌else◌, List, [], ◌∷◌, refl, sym, ◌∙◌, arith}
use Rattle.ufl_tree.specs.declared.function.Function.{Function}
use Rattle.ufl_tree.specs.declared.function.Ix.{Ix}
use Rattle.ufl_tree.specs.declared.function.Ix.TheVariants.{Fixed, Named}
use Rattle.ufl_tree.specs.declared.function.Role.{Role}
use Rattle.ufl_tree.specs.declared.function.Role.TheVariants.{Test, Trial, Position, Coefficient}
use Rattle.ufl_tree.specs.Term.{Term, num, fun, mark, neg, sum, prod, over, dx, delta, pick, raise, turn, Terms, no_terms, term}
use Rattle.ufl_meaning.specs.Environment.{same_role, other_argument}
use Rattle.lower.specs.Renaming.{Renaming, with_index, renamed, all_renamed, zero_term}
use Rattle.perturb.specs.Expanding.{deltas, by_variable, all_by_variable, linear, all_linear, expand, expand_all}
use Rattle.integrands.specs.declared.substitution.Substitution.{Substitution}
use Rattle.integrands.specs.declared.substitution.Substitution.TheVariants as v
use Rattle.integrands.specs.Substitution.{put, substituted, all_substituted}
use Rattle.integrands.specs.Sides.{without_trial, left_side, left_sides}
use Rattle.arity.proofs.Terms.{tests, trials, IsNone, HasUnit, HasTerm, HaveTerm, unit_none}

-- ---- nothing comes of 0, and only the pair of 1 of a product of units
nothing_there : (i j : ℕ) → HasTerm zero_term i j → ⊥
nothing_there i j h = omega (arith, h.0)

deltas_none : (a b : List Ix) (i j : ℕ) → HasTerm (deltas a b) i j → IsNone i j
deltas_none [] [] i j h = h.1
deltas_none [] (y ∷ b) i j h = absurd (nothing_there i j h)
deltas_none (x ∷ a) [] i j h = absurd (nothing_there i j h)
deltas_none (x ∷ a) (y ∷ b) i j (k, l, m, n, f, g, d, e) =
    let u = unit_none x y k l f in
    let v = deltas_none a b m n g in
    (omega (arith, u.0, v.0, d), omega (arith, u.1, v.1, e))

-- ---- derivatives by variables, and expanded trees
choice_none : (t : Bool) (b at : List Ix) (i j : ℕ) → HasTerm (if t then deltas b at else zero_term) i j → IsNone i j
choice_none true b at i j h = deltas_none b at i j h
choice_none false b at i j h = absurd (nothing_there i j h)

mutual
  variable_terms : (l : ℕ) (at : List Ix) (t : Term) (i j : ℕ) → HasTerm (by_variable l at t) i j → HasTerm t i j
  variable_terms l at (num c) i j h = absurd (nothing_there i j h)
  variable_terms l at (fun f b) i j h = absurd (nothing_there i j h)
  variable_terms l at (mark m b e) i j (inl h) = inr (variable_terms l at e i j h)
  variable_terms l at (mark m b e) i j (inr h) = inl (choice_none (m == l) b at i j h)
  variable_terms l at (neg a) i j h = variable_terms l at a i j h
  variable_terms l at (sum a b) i j (inl h) = inl (variable_terms l at a i j h)
  variable_terms l at (sum a b) i j (inr h) = inr (variable_terms l at b i j h)
  variable_terms l at (prod a b) i j (inl (k, x, m, n, f, g, d, e)) = (k, x, m, n, variable_terms l at a k x f, g, d, e)
  variable_terms l at (prod a b) i j (inr (k, x, m, n, f, g, d, e)) = (k, x, m, n, f, variable_terms l at b m n g, d, e)
  variable_terms l at (over x n b) i j h = variable_terms l at b i j h
  variable_terms l at (dx x b) i j h = variable_terms l at b i j h
  variable_terms l at (delta x y) i j h = absurd (nothing_there i j h)
  variable_terms l at (pick x ts) i j h = all_variable_terms l at ts i j h
  variable_terms l at (raise m b e) i j h = absurd (nothing_there i j h)
  variable_terms l at (turn f g e) i j h = tt

  all_variable_terms : (l : ℕ) (at : List Ix) (ts : Terms) (i j : ℕ) → HaveTerm (all_by_variable l at ts) i j → HaveTerm ts i j
  all_variable_terms l at no_terms i j h = absurd h
  all_variable_terms l at (term t ts) i j (inl h) = inl (variable_terms l at t i j h)
  all_variable_terms l at (term t ts) i j (inr h) = inr (all_variable_terms l at ts i j h)

renamed_unit : (r : Renaming) (x y : Ix) (i j : ℕ) → HasUnit (renamed r x) (renamed r y) i j → HasUnit x y i j
renamed_unit r (Fixed k) (Fixed l) i j h = h
renamed_unit r (Fixed k) (Named y) i j h = unit_none (Fixed k) (r y) i j h
renamed_unit r (Named x) y i j h = unit_none (r x) (renamed r y) i j h

mutual
  pub expanded_terms : (t : Term) (r : Renaming) (n i j : ℕ) → HasTerm (expand t r n) i j → HasTerm t i j
  expanded_terms (num c) r n i j h = h
  expanded_terms (fun f b) r n i j h = h
  expanded_terms (mark m b e) r n i j (inl h) = inl h
  expanded_terms (mark m b e) r n i j (inr h) = inr (expanded_terms e r n i j h)
  expanded_terms (neg a) r n i j h = expanded_terms a r n i j h
  expanded_terms (sum a b) r n i j (inl h) = inl (expanded_terms a r n i j h)
  expanded_terms (sum a b) r n i j (inr h) = inr (expanded_terms b r n i j h)
  expanded_terms (prod a b) r n i j (k, x, m, o, f, g, d, e) = (k, x, m, o, expanded_terms a r n k x f, expanded_terms b r n m o g, d, e)
  expanded_terms (over x d b) r n i j h = expanded_terms b (with_index x (Named n) r) (suc n) i j h
  expanded_terms (dx x b) r n i j h = expanded_terms b r n i j h
  expanded_terms (delta x y) r n i j h = renamed_unit r x y i j h
  expanded_terms (pick x ts) r n i j h = all_expanded_terms ts r n i j h
  expanded_terms (raise l at e) r n i j h = expanded_terms e r n i j (variable_terms l (all_renamed r at) (expand e r n) i j h)
  expanded_terms (turn f g e) r n i j h = tt

  all_expanded_terms : (ts : Terms) (r : Renaming) (n i j : ℕ) → HaveTerm (expand_all ts r n) i j → HaveTerm ts i j
  all_expanded_terms no_terms r n i j h = absurd h
  all_expanded_terms (term t ts) r n i j (inl h) = inl (expanded_terms t r n i j h)
  all_expanded_terms (term t ts) r n i j (inr h) = inr (all_expanded_terms ts r n i j h)

-- ---- changes of a tree, by what they do to the pairs of its terms
-- each pair of the changed tree comes from one of the tree, in a way that products keep with another factor's pair
abbrev pub Change : Type 1
Change = ℕ → ℕ → ℕ → ℕ → Type 0

-- S says which pairs come from k and l
abbrev pub Comes : Change → Term → ℕ → ℕ → Type 0
Comes S t i j = (k : ℕ) × (l : ℕ) × HasTerm t k l × S k l i j

abbrev pub AllCome : Change → Terms → ℕ → ℕ → Type 0
AllCome S ts i j = (k : ℕ) × (l : ℕ) × HaveTerm ts k l × S k l i j

abbrev pub IsPlain : Role → Type 0
IsPlain r = (tests r ≡ 0) × (trials r ≡ 0)

-- with one factor of a coefficient replaced by the direction
abbrev pub Moved : Role → Change
Moved d k l i j = (i ≡ k + tests d) × (j ≡ l + trials d)

same_pair : (r w : Role) → same_role r w ≡ true → IsPlain w → IsPlain r
same_pair Test Test h p = p
same_pair Test Trial h p = cc
same_pair Test Position h p = cc
same_pair Test (Coefficient n) h p = cc
same_pair Trial Test h p = cc
same_pair Trial Trial h p = p
same_pair Trial Position h p = cc
same_pair Trial (Coefficient n) h p = cc
same_pair Position r h p = (refl, refl)
same_pair (Coefficient m) r h p = (refl, refl)

moved_function : (t : Bool) (w d : Role) (f : Function) (b : List Ix) (i j : ℕ) → same_role f.role w ≡ t → IsPlain w
    → HasTerm (if t then fun (record { role = d; element = f.element }) b else zero_term) i j → Comes (Moved d) (fun f b) i j
moved_function true w d f b i j e p h =
    let q = same_pair f.role w e p in
    (tests f.role, trials f.role, (refl, refl), (omega (arith, h.0, q.0), omega (arith, h.1, q.1)))
moved_function false w d f b i j e p h = absurd (nothing_there i j h)

mutual
  pub moved_terms : (w d : Role) → IsPlain w → (t : Term) (i j : ℕ) → HasTerm (linear w d t) i j → Comes (Moved d) t i j
  moved_terms w d p (num c) i j h = absurd (nothing_there i j h)
  moved_terms w d p (fun f b) i j h = moved_function (same_role f.role w) w d f b i j refl p h
  moved_terms w d p (mark m b e) i j h = let (k, l, x, s) = moved_terms w d p e i j h in (k, l, inr x, s)
  moved_terms w d p (neg a) i j h = moved_terms w d p a i j h
  moved_terms w d p (sum a b) i j (inl h) = let (k, l, x, s) = moved_terms w d p a i j h in (k, l, inl x, s)
  moved_terms w d p (sum a b) i j (inr h) = let (k, l, x, s) = moved_terms w d p b i j h in (k, l, inr x, s)
  moved_terms w d p (prod a b) i j (inl (k, x, m, n, f, g, y, z)) =
      let (o, q, u, s) = moved_terms w d p a k x f in
      (o + m, q + n, (o, q, m, n, u, g, refl, refl), (omega (arith, y, s.0), omega (arith, z, s.1)))
  moved_terms w d p (prod a b) i j (inr (k, x, m, n, f, g, y, z)) =
      let (o, q, u, s) = moved_terms w d p b m n g in
      (k + o, x + q, (k, x, o, q, f, u, refl, refl), (omega (arith, y, s.0), omega (arith, z, s.1)))
  moved_terms w d p (over x n b) i j h = moved_terms w d p b i j h
  moved_terms w d p (dx x b) i j h = moved_terms w d p b i j h
  moved_terms w d p (delta x y) i j h = absurd (nothing_there i j h)
  moved_terms w d p (pick x ts) i j h = all_moved_terms w d p ts i j h
  moved_terms w d p (raise m b e) i j h = absurd (nothing_there i j h)
  moved_terms w d p (turn f g e) i j h = absurd (nothing_there i j h)

  all_moved_terms : (w d : Role) → IsPlain w → (ts : Terms) (i j : ℕ) → HaveTerm (all_linear w d ts) i j → AllCome (Moved d) ts i j
  all_moved_terms w d p no_terms i j h = absurd h
  all_moved_terms w d p (term t ts) i j (inl h) = let (k, l, x, s) = moved_terms w d p t i j h in (k, l, inl x, s)
  all_moved_terms w d p (term t ts) i j (inr h) = let (k, l, x, s) = all_moved_terms w d p ts i j h in (k, l, inr x, s)

-- ---- functions in place of others
-- 1 gives 1, and products of what is given come from products
pub record IsAdditive (S : Change) : Type 0 where
  pub none : (i j : ℕ) → IsNone i j → S 0 0 i j
  pub adds : (k l i j m n x y a b : ℕ) → S k l i j → S m n x y → a ≡ i + x → b ≡ j + y → S (k + m) (l + n) a b

unit_zero : (x y : Ix) (i j : ℕ) → HasUnit x y i j → HasUnit x y 0 0
unit_zero (Fixed k) (Fixed l) i j h = (h.0, (refl, refl))
unit_zero (Fixed k) (Named y) i j h = (refl, refl)
unit_zero (Named x) y i j h = (refl, refl)

module _ (S : Change) (A : IsAdditive S) (s : Substitution) (leaf : (f : Function) (at : List Ix) (i j : ℕ) → HasTerm (put s f at) i j → Comes S (fun f at) i j) where
  mutual
    pub substituted_terms : (t : Term) (i j : ℕ) → HasTerm (substituted s t) i j → Comes S t i j
    substituted_terms (num c) i j h = (0, 0, (refl, refl), A.none i j h)
    substituted_terms (fun f at) i j h = leaf f at i j h
    substituted_terms (mark m b e) i j (inl h) = (0, 0, inl (refl, refl), A.none i j h)
    substituted_terms (mark m b e) i j (inr h) = let (k, l, x, c) = substituted_terms e i j h in (k, l, inr x, c)
    substituted_terms (neg a) i j h = substituted_terms a i j h
    substituted_terms (sum a b) i j (inl h) = let (k, l, x, c) = substituted_terms a i j h in (k, l, inl x, c)
    substituted_terms (sum a b) i j (inr h) = let (k, l, x, c) = substituted_terms b i j h in (k, l, inr x, c)
    substituted_terms (prod a b) i j (k, x, m, n, f, g, y, z) =
        let (o, q, u, c) = substituted_terms a k x f in
        let (o', q', u', c') = substituted_terms b m n g in
        (o + o', q + q', (o, q, o', q', u, u', refl, refl), A.adds o q k x o' q' m n i j c c' y z)
    substituted_terms (over x n b) i j h = substituted_terms b i j h
    substituted_terms (dx x b) i j h = substituted_terms b i j h
    substituted_terms (delta x y) i j h = (0, 0, unit_zero x y i j h, A.none i j (unit_none x y i j h))
    substituted_terms (pick x ts) i j h = all_substituted_terms ts i j h
    substituted_terms (raise m b e) i j h = absurd (nothing_there i j h)
    substituted_terms (turn f g e) i j h = absurd (nothing_there i j h)

    all_substituted_terms : (ts : Terms) (i j : ℕ) → HaveTerm (all_substituted s ts) i j → AllCome S ts i j
    all_substituted_terms no_terms i j h = absurd h
    all_substituted_terms (term t ts) i j (inl h) = let (k, l, x, c) = substituted_terms t i j h in (k, l, inl x, c)
    all_substituted_terms (term t ts) i j (inr h) = let (k, l, x, c) = all_substituted_terms ts i j h in (k, l, inr x, c)

-- ---- those without the trial function, and those with one
abbrev pub Without : Change
Without k l i j = (l ≡ 0) × (i ≡ k) × (j ≡ 0)

abbrev pub WithOne : Change
WithOne k l i j = (l ≡ 1) × (i ≡ k) × (j ≡ 1)

without_additive : IsAdditive Without
without_additive = record {
  none = λ i j h. (refl, h.0, h.1);
  adds = λ k l i j m n x y a b p q d e. (omega (arith, p.0, q.0), omega (arith, p.1, q.1, d), omega (arith, p.2, q.2, e));
}

other_trials : (r : Role) → same_role r Trial ≡ false → trials r ≡ 0
other_trials Test h = refl
other_trials Trial h = cc
other_trials Position h = refl
other_trials (Coefficient n) h = refl

without_leaf : (t : Bool) (f : Function) (at : List Ix) (i j : ℕ) → same_role f.role Trial ≡ t → HasTerm (if t then zero_term else fun f at) i j → Comes Without (fun f at) i j
without_leaf true f at i j e h = absurd (nothing_there i j h)
without_leaf false f at i j e h =
    let none = other_trials f.role e in
    (tests f.role, trials f.role, (refl, refl), (none, h.0, h.1 ∙ none))

pub without_terms : (t : Term) (i j : ℕ) → HasTerm (without_trial t) i j → Comes Without t i j
without_terms = substituted_terms Without without_additive (v.Without Trial) (λ f at i j h. without_leaf (same_role f.role Trial) f at i j refl h)

trial_one : (r : Role) → same_role r Trial ≡ true → (tests r ≡ 0) × (trials r ≡ 1)
trial_one Test h = cc
trial_one Trial h = (refl, refl)
trial_one Position h = cc
trial_one (Coefficient n) h = cc

one_leaf : (t : Bool) (f : Function) (at : List Ix) (i j : ℕ) → same_role f.role Trial ≡ t → HasTerm (if t then fun f at else zero_term) i j → Comes WithOne (fun f at) i j
one_leaf true f at i j e h =
    let one = trial_one f.role e in
    (tests f.role, trials f.role, (refl, refl), (one.1, h.0, h.1 ∙ one.1))
one_leaf false f at i j e h = absurd (nothing_there i j h)

mutual
  pub left_terms : (t : Term) (i j : ℕ) → HasTerm (left_side t) i j → Comes WithOne t i j
  left_terms (num c) i j h = absurd (nothing_there i j h)
  left_terms (fun f at) i j h = one_leaf (same_role f.role Trial) f at i j refl h
  left_terms (mark m b e) i j h = let (k, l, x, c) = left_terms e i j h in (k, l, inr x, c)
  left_terms (neg a) i j h = left_terms a i j h
  left_terms (sum a b) i j (inl h) = let (k, l, x, c) = left_terms a i j h in (k, l, inl x, c)
  left_terms (sum a b) i j (inr h) = let (k, l, x, c) = left_terms b i j h in (k, l, inr x, c)
  left_terms (prod a b) i j (inl (k, x, m, n, f, g, y, z)) =
      let (o, q, u, c) = left_terms a k x f in
      let (o', q', u', c') = without_terms b m n g in
      (o + o', q + q', (o, q, o', q', u, u', refl, refl), (omega (arith, c.0, c'.0), omega (arith, c.1, c'.1, y), omega (arith, c.2, c'.2, z)))
  left_terms (prod a b) i j (inr (k, x, m, n, f, g, y, z)) =
      let (o, q, u, c) = without_terms a k x f in
      let (o', q', u', c') = left_terms b m n g in
      (o + o', q + q', (o, q, o', q', u, u', refl, refl), (omega (arith, c.0, c'.0), omega (arith, c.1, c'.1, y), omega (arith, c.2, c'.2, z)))
  left_terms (over x n b) i j h = left_terms b i j h
  left_terms (dx x b) i j h = left_terms b i j h
  left_terms (delta x y) i j h = absurd (nothing_there i j h)
  left_terms (pick x ts) i j h = all_left_terms ts i j h
  left_terms (raise m b e) i j h = absurd (nothing_there i j h)
  left_terms (turn f g e) i j h = absurd (nothing_there i j h)

  all_left_terms : (ts : Terms) (i j : ℕ) → HaveTerm (left_sides ts) i j → AllCome WithOne ts i j
  all_left_terms no_terms i j h = absurd h
  all_left_terms (term t ts) i j (inl h) = let (k, l, x, c) = left_terms t i j h in (k, l, inl x, c)
  all_left_terms (term t ts) i j (inr h) = let (k, l, x, c) = all_left_terms ts i j h in (k, l, inr x, c)

-- ---- a coefficient in place of an argument, and both arguments exchanged
abbrev pub NoTest : Change
NoTest k l i j = (i ≡ 0) × (j ≡ l)

abbrev pub NoTrial : Change
NoTrial k l i j = (i ≡ k) × (j ≡ 0)

abbrev pub Turned : Change
Turned k l i j = (i ≡ l) × (j ≡ k)

no_test_additive : IsAdditive NoTest
no_test_additive = record { none = λ i j h. h; adds = λ k l i j m n x y a b p q d e. (omega (arith, p.0, q.0, d), omega (arith, p.1, q.1, e)) }

no_trial_additive : IsAdditive NoTrial
no_trial_additive = record { none = λ i j h. h; adds = λ k l i j m n x y a b p q d e. (omega (arith, p.0, q.0, d), omega (arith, p.1, q.1, e)) }

turned_additive : IsAdditive Turned
turned_additive = record { none = λ i j h. h; adds = λ k l i j m n x y a b p q d e. (omega (arith, p.0, q.0, d), omega (arith, p.1, q.1, e)) }

other_tests : (r : Role) → same_role r Test ≡ false → tests r ≡ 0
other_tests Test h = cc
other_tests Trial h = refl
other_tests Position h = refl
other_tests (Coefficient n) h = refl

test_trials : (r : Role) → same_role r Test ≡ true → trials r ≡ 0
test_trials Test h = refl
test_trials Trial h = cc
test_trials Position h = cc
test_trials (Coefficient n) h = cc

no_test_leaf : (t : Bool) (by : Role) (f : Function) (at : List Ix) (i j : ℕ) → IsPlain by → same_role f.role Test ≡ t
    → HasTerm (if t then fun (record { role = by; element = f.element }) at else fun f at) i j → Comes NoTest (fun f at) i j
no_test_leaf true by f at i j p e h = (tests f.role, trials f.role, (refl, refl), (h.0 ∙ p.0, h.1 ∙ p.1 ∙ sym (test_trials f.role e)))
no_test_leaf false by f at i j p e h = (tests f.role, trials f.role, (refl, refl), (h.0 ∙ other_tests f.role e, h.1))

no_trial_leaf : (t : Bool) (by : Role) (f : Function) (at : List Ix) (i j : ℕ) → IsPlain by → same_role f.role Trial ≡ t
    → HasTerm (if t then fun (record { role = by; element = f.element }) at else fun f at) i j → Comes NoTrial (fun f at) i j
no_trial_leaf true by f at i j p e h = (tests f.role, trials f.role, (refl, refl), (h.0 ∙ p.0 ∙ sym (trial_one f.role e).0, h.1 ∙ p.1))
no_trial_leaf false by f at i j p e h = (tests f.role, trials f.role, (refl, refl), (h.0, h.1 ∙ other_trials f.role e))

pub no_test_terms : (by : Role) → IsPlain by → (t : Term) (i j : ℕ) → HasTerm (substituted (v.Replaced Test by) t) i j → Comes NoTest t i j
no_test_terms by p = substituted_terms NoTest no_test_additive (v.Replaced Test by) (λ f at i j h. no_test_leaf (same_role f.role Test) by f at i j p refl h)

pub no_trial_terms : (by : Role) → IsPlain by → (t : Term) (i j : ℕ) → HasTerm (substituted (v.Replaced Trial by) t) i j → Comes NoTrial t i j
no_trial_terms by p = substituted_terms NoTrial no_trial_additive (v.Replaced Trial by) (λ f at i j h. no_trial_leaf (same_role f.role Trial) by f at i j p refl h)

other_tests_is : (r : Role) → tests (other_argument r) ≡ trials r
other_tests_is Test = refl
other_tests_is Trial = refl
other_tests_is Position = refl
other_tests_is (Coefficient n) = refl

other_trials_is : (r : Role) → trials (other_argument r) ≡ tests r
other_trials_is Test = refl
other_trials_is Trial = refl
other_trials_is Position = refl
other_trials_is (Coefficient n) = refl

turned_leaf : (f : Function) (at : List Ix) (i j : ℕ) → HasTerm (put v.Exchanged f at) i j → Comes Turned (fun f at) i j
turned_leaf f at i j h = (tests f.role, trials f.role, (refl, refl), (h.0 ∙ other_tests_is f.role, h.1 ∙ other_trials_is f.role))

pub turned_terms : (t : Term) (i j : ℕ) → HasTerm (substituted v.Exchanged t) i j → Comes Turned t i j
turned_terms = substituted_terms Turned turned_additive v.Exchanged turned_leaf
