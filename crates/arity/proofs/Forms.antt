-- The integrands of a form are within the pairs of the form
use Rattle.std.proofs.Common.{◌≡◌, ℕ, zero, suc, ◌==◌, ◌&&◌, Bool, true, false, if◌then◌else◌, List, [], ◌∷◌, map, Result, Ok, Err, refl, sym, subst}
use Rattle.std.specs.List.{AllByRecursion}
use Rattle.ufl_tree.specs.declared.function.Function.{Function}
use Rattle.ufl_tree.specs.declared.function.Ix.TheVariants.{Named}
use Rattle.ufl_tree.specs.declared.function.Role.{Role}
use Rattle.ufl_tree.specs.declared.function.Role.TheVariants.{Test, Trial, Position, Coefficient}
use Rattle.ufl_tree.specs.FormTerm.{FormTerm, integral, sum, scale, left, right, action, adjoint, derivative}
use Rattle.ufl_tree.specs.Places.{Table}
use Rattle.ufl_tree.specs.Term.{Term, num}
use Rattle.ufl_tree.specs.Typed.{Typed}
use Rattle.ufl_expr.specs.Table.{IsTyped}
use Rattle.ufl_expr.specs.declared.refusal.TypeRefusal.{TypeRefusal}
use Rattle.ufl_expr.specs.declared.refusal.TypeRefusal.TheVariants.{Kind as OfKind}
use Rattle.ufl_form.specs.declared.pattern_set.Numbers.{Numbers}
use Rattle.ufl_form.specs.declared.pattern_set.PatternSet.{PatternSet}
use Rattle.ufl_form.specs.declared.table.FormKind.{FormKind}
use Rattle.ufl_form.specs.Pairs.{has_number, has_pair}
use Rattle.ufl_form.specs.Patterns.{or, either, is_some, united, product, of_role, linear_pairs, constant_pairs, without_test, without_trial, without, turned, tree_patterns}
use Rattle.ufl_form.specs.Table.{AreTyped, Verdict, form_patterns, form_kind, further, is_coefficient, is_direction, has_element, element_of, action_kind, derivative_kind, is_last, last_kind, last_of, with_arguments}
use Rattle.ufl_form.specs.Arguments.{argument, joined}
use Rattle.ufl_form.proofs.PairLaws.{product_has, pair_left, pair_right}
use Rattle.lower.specs.Lowering.{lower}
use Rattle.lower.specs.Shares.{share_of}
use Rattle.passes.specs.Component.{first_name}
use Rattle.perturb.specs.Expanding.{linear}
use Rattle.derivatives.specs.Expanded.{expanded}
use Rattle.derivatives.specs.Naming.{term_above}
use Rattle.integrands.specs.declared.operator.Operator.{Operator}
use Rattle.integrands.specs.declared.operator.Operator.TheVariants as o
use Rattle.integrands.specs.declared.substitution.Substitution.TheVariants as v
use Rattle.integrands.specs.Flattening.{under, integrand_term, flattened}
use Rattle.integrands.specs.Integrands.{IntegrandTerm, with_body}
use Rattle.integrands.specs.Sides.{left_side, right_side}
use Rattle.integrands.specs.Substitution.{substituted}
use Rattle.weigh.proofs.ListLaws.{all_append}
use Rattle.arity.proofs.Terms.{tests, trials, role_pair, IsWithin, number_unit, within_left, within_more, within_neg}
use Rattle.arity.proofs.Lowered.{lower_within}
use Rattle.arity.proofs.Changed.{IsPlain, Comes, Moved, Without, WithOne, NoTest, NoTrial, Turned, expanded_terms, moved_terms, left_terms, without_terms, no_test_terms, no_trial_terms, turned_terms}

-- ---- numbers
or_left : (a b : Bool) → a ≡ true → or a b ≡ true
or_left true b h = refl
or_left false b h = cc

or_right : (a b : Bool) → b ≡ true → or a b ≡ true
or_right true b h = refl
or_right false b h = h

some_number : (a : Numbers) (n : ℕ) → has_number a n ≡ true → is_some a ≡ true
some_number a zero h = or_left a.zero (or a.one a.more) h
some_number a (suc zero) h = or_right a.zero (or a.one a.more) (or_left a.one a.more h)
some_number a (suc (suc n)) h = or_right a.zero (or a.one a.more) (or_right a.one a.more h)

either_left : (a b : Numbers) (n : ℕ) → has_number a n ≡ true → has_number (either a b) n ≡ true
either_left a b zero h = or_left a.zero b.zero h
either_left a b (suc zero) h = or_left a.one b.one h
either_left a b (suc (suc n)) h = or_left a.more b.more h

either_right : (a b : Numbers) (n : ℕ) → has_number b n ≡ true → has_number (either a b) n ≡ true
either_right a b zero h = or_right a.zero b.zero h
either_right a b (suc zero) h = or_right a.one b.one h
either_right a b (suc (suc n)) h = or_right a.more b.more h

-- ---- what the operators on pairs keep
linear_has : (p : PatternSet) (i : ℕ) → has_pair p i 1 ≡ true → has_pair (linear_pairs p) i 1 ≡ true
linear_has p zero h = h
linear_has p (suc zero) h = h
linear_has p (suc (suc i)) h = h

constant_has : (p : PatternSet) (i : ℕ) → has_pair p i 0 ≡ true → has_pair (constant_pairs p) i 0 ≡ true
constant_has p zero h = h
constant_has p (suc zero) h = h
constant_has p (suc (suc i)) h = h

no_trial_has : (p : PatternSet) (i j : ℕ) → has_pair p i j ≡ true → has_pair (without_trial p) i 0 ≡ true
no_trial_has p zero j h = some_number p.zero j h
no_trial_has p (suc zero) j h = some_number p.one j h
no_trial_has p (suc (suc i)) j h = some_number p.more j h

no_test_has : (p : PatternSet) (i j : ℕ) → has_pair p i j ≡ true → has_pair (without_test p) 0 j ≡ true
no_test_has p zero j h = either_left p.zero (either p.one p.more) j h
no_test_has p (suc zero) j h = either_right p.zero (either p.one p.more) j (either_left p.one p.more j h)
no_test_has p (suc (suc i)) j h = either_right p.zero (either p.one p.more) j (either_right p.one p.more j h)

turned_has : (p : PatternSet) (i j : ℕ) → has_pair p i j ≡ true → has_pair (turned p) j i ≡ true
turned_has p zero zero h = h
turned_has p zero (suc zero) h = h
turned_has p zero (suc (suc j)) h = h
turned_has p (suc zero) zero h = h
turned_has p (suc zero) (suc zero) h = h
turned_has p (suc zero) (suc (suc j)) h = h
turned_has p (suc (suc i)) zero h = h
turned_has p (suc (suc i)) (suc zero) h = h
turned_has p (suc (suc i)) (suc (suc j)) h = h

at_pair : (p : PatternSet) (k l i j : ℕ) → k ≡ i → l ≡ j → has_pair p k l ≡ true → has_pair p i j ≡ true
at_pair p k l i j d e h = subst (λ x. has_pair p x j ≡ true) d (subst (λ x. has_pair p k x ≡ true) e h)

-- ---- operators
left_within : (p : PatternSet) (t : Term) → IsWithin p t → IsWithin (linear_pairs p) (left_side t)
left_within p t x = record { holds = λ i j h. go i j (left_terms t i j h) }
  where
    go : (i j : ℕ) → Comes WithOne t i j → has_pair (linear_pairs p) i j ≡ true
    go i j (k, l, h, c) = at_pair (linear_pairs p) k 1 i j (sym c.1) (sym c.2) (linear_has p k (at_pair p k l k 1 refl c.0 (x.holds k l h)))

right_within : (p : PatternSet) (t : Term) → IsWithin p t → IsWithin (constant_pairs p) (right_side t)
right_within p t x = within_neg (constant_pairs p) _ (record { holds = λ i j h. go i j (without_terms t i j h) })
  where
    go : (i j : ℕ) → Comes Without t i j → has_pair (constant_pairs p) i j ≡ true
    go i j (k, l, h, c) = at_pair (constant_pairs p) k 0 i j (sym c.1) (sym c.2) (constant_has p k (at_pair p k l k 0 refl c.0 (x.holds k l h)))

test_within : (p : PatternSet) (by : Role) → IsPlain by → (t : Term) → IsWithin p t → IsWithin (without_test p) (substituted (v.Replaced Test by) t)
test_within p by plain t x = record { holds = λ i j h. go i j (no_test_terms by plain t i j h) }
  where
    go : (i j : ℕ) → Comes NoTest t i j → has_pair (without_test p) i j ≡ true
    go i j (k, l, h, c) = at_pair (without_test p) 0 l i j (sym c.0) (sym c.1) (no_test_has p k l (x.holds k l h))

trial_within : (p : PatternSet) (by : Role) → IsPlain by → (t : Term) → IsWithin p t → IsWithin (without_trial p) (substituted (v.Replaced Trial by) t)
trial_within p by plain t x = record { holds = λ i j h. go i j (no_trial_terms by plain t i j h) }
  where
    go : (i j : ℕ) → Comes NoTrial t i j → has_pair (without_trial p) i j ≡ true
    go i j (k, l, h, c) = at_pair (without_trial p) k 0 i j (sym c.0) (sym c.1) (no_trial_has p k l (x.holds k l h))

turned_within : (p : PatternSet) (t : Term) → IsWithin p t → IsWithin (turned p) (substituted v.Exchanged t)
turned_within p t x = record { holds = λ i j h. go i j (turned_terms t i j h) }
  where
    go : (i j : ℕ) → Comes Turned t i j → has_pair (turned p) i j ≡ true
    go i j (k, l, h, c) = at_pair (turned p) l k i j (sym c.0) (sym c.1) (turned_has p k l (x.holds k l h))

linear_within : (p : PatternSet) (w d : Role) → IsPlain w → (t : Term) → IsWithin p t → IsWithin (product p (of_role d)) (linear w d t)
linear_within p w d plain t x = record { holds = λ i j h. go i j (moved_terms w d plain t i j h) }
  where
    go : (i j : ℕ) → Comes (Moved d) t i j → has_pair (product p (of_role d)) i j ≡ true
    go i j (k, l, h, c) = product_has p (of_role d) k l (tests d) (trials d) i j c.0 c.1 (x.holds k l h) (role_pair d)

-- ---- what the table of forms says of functions that stand for others
plain_coefficient : (r : Role) → is_coefficient r ≡ true → IsPlain r
plain_coefficient Test h = cc
plain_coefficient Trial h = cc
plain_coefficient Position h = cc
plain_coefficient (Coefficient n) h = (refl, refl)

pub record IsFurther (r : Verdict) (f : FormKind → Verdict) (k : FormKind) : Type 0 where
  pub kind : FormKind
  pub first : r ≡ Ok kind
  pub rest : f kind ≡ Ok k

pub is_further : (r : Verdict) (f : FormKind → Verdict) (k : FormKind) → further r f ≡ Ok k → IsFurther r f k
is_further (Err r) f k h = cc
is_further (Ok a) f k h = record { kind = a; first = refl; rest = h }

coefficient_acts : (b c : Bool) (k j : FormKind) (e : TypeRefusal) → (if b then (if c then Ok j else Err e) else Err e) ≡ Ok k → b ≡ true
coefficient_acts true c k j e h = refl
coefficient_acts false c k j e h = cc

record IsAction (last : Role) (g : Function) (l : Result Role TypeRefusal) : Type 0 where
  last_is : is_last last l ≡ true
  plain : is_coefficient g.role ≡ true

last_choice : (b : Bool) (last : Role) (g : Function) (l : Result Role TypeRefusal) (a k : FormKind) → is_last last l ≡ b → last_kind b (action_kind a last g) ≡ Ok k → IsAction last g l
last_choice true last g l a k e h = record { last_is = e; plain = coefficient_acts (is_coefficient g.role) (has_element (element_of last a.arguments) g.element) k _ _ h }
last_choice false last g l a k e h = cc

derivative_choice : (b c d : Bool) (r : Verdict) (e : TypeRefusal) (k : FormKind) → (if b && c then (if d then r else Err e) else Err e) ≡ Ok k → b ≡ true
derivative_choice true c d r e k h = refl
derivative_choice false c d r e k h = cc

derivative_plain : (a : FormKind) (w du : Function) (k : FormKind) → derivative_kind a w du ≡ Ok k → is_coefficient w.role ≡ true
derivative_plain a w du k h =
    derivative_choice (is_coefficient w.role) (is_direction du.role) (w.element == du.element) (with_arguments a.cell (joined a.arguments (argument du))) OfKind k h

-- ---- integrands
abbrev pub AllWithin : PatternSet → List IntegrandTerm → Type 0
AllWithin p ps = AllByRecursion (λ (q : IntegrandTerm). IsWithin p q.body) ps

all_mapped : (p q : PatternSet) (op : Operator) → ((t : Term) → IsWithin p t → IsWithin q (under op t)) → (ps : List IntegrandTerm) → AllWithin p ps
    → AllWithin q (map (with_body (under op)) ps)
all_mapped p q op h [] x = tt
all_mapped p q op h (y ∷ ps) x = (h y.body x.0, all_mapped p q op h ps x.1)

all_more : (p q : PatternSet) → ((i j : ℕ) → has_pair p i j ≡ true → has_pair q i j ≡ true) → (ps : List IntegrandTerm) → AllWithin p ps → AllWithin q ps
all_more p q m [] x = tt
all_more p q m (y ∷ ps) x = (within_more p q y.body m x.0, all_more p q m ps x.1)

integrand_within : (elements : Table) (e : Typed) → IsTyped e → IsWithin (tree_patterns e) (integrand_term elements e)
unfolding expanded
integrand_within elements e t =
    let lowered : Term = lower share_of elements e Named [] (first_name e []) in
    record { holds = λ i j h. (lower_within share_of elements e t Named [] (first_name e [])).holds i j (expanded_terms lowered Named (term_above lowered) i j h) }

last_within : (p : PatternSet) (last : Role) (l : Result Role TypeRefusal) (g : Function) → is_last last l ≡ true → IsPlain g.role → (t : Term) → IsWithin p t
    → IsWithin (without last p) (substituted (v.Replaced last g.role) t)
last_within p Test l g e plain t x = test_within p g.role plain t x
last_within p Trial l g e plain t x = trial_within p g.role plain t x
last_within p Position l g e plain t x = cc
last_within p (Coefficient n) l g e plain t x = cc

pub flattened_within : (elements : Table) (f : FormTerm) (k : FormKind) → AreTyped f → form_kind f ≡ Ok k → AllWithin (form_patterns f) (flattened elements f)
unfolding AreTyped form_kind
flattened_within elements (integral m e) k t h = (integrand_within elements e t, tt)
flattened_within elements (sum f g) k t h =
    let A = is_further (form_kind f) _ k h in
    let B = is_further (form_kind g) _ k A.rest in
    all_append _ (flattened elements f) (flattened elements g)
    (all_more (form_patterns f) (united (form_patterns f) (form_patterns g)) (pair_left (form_patterns f) (form_patterns g)) (flattened elements f) (flattened_within elements f A.kind t.0 A.first))
    (all_more (form_patterns g) (united (form_patterns f) (form_patterns g)) (pair_right (form_patterns f) (form_patterns g)) (flattened elements g) (flattened_within elements g B.kind t.1 B.first))
flattened_within elements (scale c f) k t h =
    all_mapped (form_patterns f) (form_patterns f) (o.Scale c) (λ e x. within_left (form_patterns f) (num c) e (number_unit c) x) (flattened elements f) (flattened_within elements f k t h)
flattened_within elements (left f) k t h =
    all_mapped (form_patterns f) (linear_pairs (form_patterns f)) o.Left (left_within (form_patterns f)) (flattened elements f) (flattened_within elements f k t h)
flattened_within elements (right f) k t h =
    let A = is_further (form_kind f) _ k h in
    all_mapped (form_patterns f) (constant_pairs (form_patterns f)) o.Right (right_within (form_patterns f)) (flattened elements f) (flattened_within elements f A.kind t A.first)
flattened_within elements (action f last g) k t h =
    let A = is_further (form_kind f) _ k h in
    let N = last_choice (is_last last (last_of (form_patterns f))) last g (last_of (form_patterns f)) A.kind k refl A.rest in
    all_mapped (form_patterns f) (without last (form_patterns f)) (o.Action last g.role)
    (last_within (form_patterns f) last (last_of (form_patterns f)) g N.last_is (plain_coefficient g.role N.plain)) (flattened elements f) (flattened_within elements f A.kind t A.first)
flattened_within elements (adjoint f) k t h =
    let A = is_further (form_kind f) _ k h in
    all_mapped (form_patterns f) (turned (form_patterns f)) o.Adjoint (turned_within (form_patterns f)) (flattened elements f) (flattened_within elements f A.kind t A.first)
flattened_within elements (derivative f w du) k t h =
    let A = is_further (form_kind f) _ k h in
    let plain = plain_coefficient w.role (derivative_plain A.kind w du k A.rest) in
    all_mapped (form_patterns f) (product (form_patterns f) (of_role du.role)) (o.Derivative w.role du.role)
    (linear_within (form_patterns f) w.role du.role plain) (flattened elements f) (flattened_within elements f A.kind t A.first)
