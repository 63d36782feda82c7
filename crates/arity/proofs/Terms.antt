-- How often the test and the trial function stand in the terms of a tree in index notation, and which pairs bound them
use Rattle.std.proofs.Common.{◌≡◌, ℕ, zero, suc, ◌+◌, ◌⊎◌, inl, inr, true, List, refl, subst, arith}
use Rattle.ratio.specs.declared.reduced.Ratio.{Ratio}
use Rattle.ufl_tree.specs.declared.function.Ix.{Ix}
use Rattle.ufl_tree.specs.declared.function.Ix.TheVariants.{Fixed, Named}
use Rattle.ufl_tree.specs.declared.function.Role.{Role}
use Rattle.ufl_tree.specs.declared.function.Role.TheVariants.{Test, Trial, Position, Coefficient}
use Rattle.ufl_tree.specs.Term.{Term, num, fun, mark, neg, sum, prod, over, dx, delta, pick, raise, turn, Terms, no_terms, term}
use Rattle.ufl_form.specs.declared.pattern_set.PatternSet.{PatternSet}
use Rattle.ufl_form.specs.Pairs.{has_pair}
use Rattle.ufl_form.specs.Patterns.{only_pair, of_role, product}
use Rattle.ufl_form.proofs.PairLaws.{product_has}

-- ---- of a function
abbrev pub tests : Role → ℕ
tests Test = 1
tests Trial = 0
tests Position = 0
tests (Coefficient n) = 0

abbrev pub trials : Role → ℕ
trials Test = 0
trials Trial = 1
trials Position = 0
trials (Coefficient n) = 0

pub role_pair : (r : Role) → has_pair (of_role r) (tests r) (trials r) ≡ true
role_pair Test = refl
role_pair Trial = refl
role_pair Position = refl
role_pair (Coefficient n) = refl

abbrev pub IsNone : ℕ → ℕ → Type 0
IsNone i j = (i ≡ 0) × (j ≡ 0)

-- where both indices are numbers that differ, there is no term
abbrev pub HasUnit : Ix → Ix → ℕ → ℕ → Type 0
HasUnit (Fixed k) (Fixed l) i j = (k ≡ l) × IsNone i j
HasUnit (Fixed k) (Named y) i j = IsNone i j
HasUnit (Named x) b i j = IsNone i j

-- ---- some term of the tree has i factors of the test function and j of the trial function. A label may stand for 1; what a derivative by a
-- function comes to isn't said
abbrev mutual
  pub HasTerm : Term → ℕ → ℕ → Type 0
  HasTerm (num c) i j = IsNone i j
  HasTerm (fun f at) i j = (i ≡ tests f.role) × (j ≡ trials f.role)
  HasTerm (mark l at b) i j = IsNone i j ⊎ HasTerm b i j
  HasTerm (neg a) i j = HasTerm a i j
  HasTerm (sum a b) i j = HasTerm a i j ⊎ HasTerm b i j
  HasTerm (prod a b) i j = (k : ℕ) × (l : ℕ) × (m : ℕ) × (n : ℕ) × HasTerm a k l × HasTerm b m n × (i ≡ k + m) × (j ≡ l + n)
  HasTerm (over x n b) i j = HasTerm b i j
  HasTerm (dx x b) i j = HasTerm b i j
  HasTerm (delta x y) i j = HasUnit x y i j
  HasTerm (pick x ts) i j = HaveTerm ts i j
  HasTerm (raise l at b) i j = HasTerm b i j
  HasTerm (turn f g b) i j = Unit {0}

  pub HaveTerm : Terms → ℕ → ℕ → Type 0
  HaveTerm no_terms i j = ⊥
  HaveTerm (term t ts) i j = HasTerm t i j ⊎ HaveTerm ts i j

-- ---- bounds
pub record IsWithin (p : PatternSet) (t : Term) : Type 0 where
  pub holds : (i j : ℕ) → HasTerm t i j → has_pair p i j ≡ true

pub record AreWithin (p : PatternSet) (ts : Terms) : Type 0 where
  pub holds : (i j : ℕ) → HaveTerm ts i j → has_pair p i j ≡ true

pub none_pair : (p : PatternSet) (i j : ℕ) → IsNone i j → has_pair p 0 0 ≡ true → has_pair p i j ≡ true
none_pair p zero zero e h = h
none_pair p zero (suc j) e h = absurd (omega (arith, e.1))
none_pair p (suc i) j e h = absurd (omega (arith, e.0))

pub unit_none : (x y : Ix) (i j : ℕ) → HasUnit x y i j → IsNone i j
unit_none (Fixed k) (Fixed l) i j h = h.1
unit_none (Fixed k) (Named y) i j h = h
unit_none (Named x) y i j h = h

pub within_none : (i j : ℕ) → IsNone i j → has_pair only_pair i j ≡ true
within_none i j e = none_pair only_pair i j e refl

pub within_neg : (p : PatternSet) (a : Term) → IsWithin p a → IsWithin p (neg a)
within_neg p a x = record { holds = x.holds }

pub within_over : (p : PatternSet) (k n : ℕ) (a : Term) → IsWithin p a → IsWithin p (over k n a)
within_over p k n a x = record { holds = x.holds }

pub within_dx : (p : PatternSet) (i : Ix) (a : Term) → IsWithin p a → IsWithin p (dx i a)
within_dx p i a x = record { holds = x.holds }

pub within_pick : (p : PatternSet) (i : Ix) (ts : Terms) → AreWithin p ts → IsWithin p (pick i ts)
within_pick p i ts x = record { holds = x.holds }

pub within_raise : (p : PatternSet) (l : ℕ) (at : List Ix) (a : Term) → IsWithin p a → IsWithin p (raise l at a)
within_raise p l at a x = record { holds = x.holds }

sum_pair : (p : PatternSet) (a b : Term) → IsWithin p a → IsWithin p b → (i j : ℕ) → HasTerm (sum a b) i j → has_pair p i j ≡ true
sum_pair p a b x y i j (inl h) = x.holds i j h
sum_pair p a b x y i j (inr h) = y.holds i j h

pub within_sum : (p : PatternSet) (a b : Term) → IsWithin p a → IsWithin p b → IsWithin p (sum a b)
within_sum p a b x y = record { holds = sum_pair p a b x y }

prod_pair : (p q : PatternSet) (a b : Term) → IsWithin p a → IsWithin q b → (i j : ℕ) → HasTerm (prod a b) i j → has_pair (product p q) i j ≡ true
prod_pair p q a b x y i j (k, l, m, n, f, g, d, e) = product_has p q k l m n i j d e (x.holds k l f) (y.holds m n g)

pub within_prod : (p q : PatternSet) (a b : Term) → IsWithin p a → IsWithin q b → IsWithin (product p q) (prod a b)
within_prod p q a b x y = record { holds = prod_pair p q a b x y }

-- a factor without functions
pub record IsUnit (t : Term) : Type 0 where
  pub holds : (i j : ℕ) → HasTerm t i j → IsNone i j

pub number_unit : (c : Ratio) → IsUnit (num c)
number_unit c = record { holds = λ i j h. h }

pub delta_unit : (x y : Ix) → IsUnit (delta x y)
delta_unit x y = record { holds = unit_none x y }

moved_pair : (p : PatternSet) (k l i j : ℕ) → k ≡ i → l ≡ j → has_pair p k l ≡ true → has_pair p i j ≡ true
moved_pair p k l i j d e h = subst (λ x. has_pair p x j ≡ true) d (subst (λ x. has_pair p k x ≡ true) e h)

left_pair : (p : PatternSet) (a b : Term) → IsUnit a → IsWithin p b → (i j : ℕ) → HasTerm (prod a b) i j → has_pair p i j ≡ true
left_pair p a b none y i j (k, l, m, n, f, g, d, e) =
    let z = none.holds k l f in
    moved_pair p m n i j (omega (arith, z.0, d)) (omega (arith, z.1, e)) (y.holds m n g)

right_pair : (p : PatternSet) (a b : Term) → IsWithin p a → IsUnit b → (i j : ℕ) → HasTerm (prod a b) i j → has_pair p i j ≡ true
right_pair p a b x none i j (k, l, m, n, f, g, d, e) =
    let z = none.holds m n g in
    moved_pair p k l i j (omega (arith, z.0, d)) (omega (arith, z.1, e)) (x.holds k l f)

pub within_left : (p : PatternSet) (a b : Term) → IsUnit a → IsWithin p b → IsWithin p (prod a b)
within_left p a b none y = record { holds = left_pair p a b none y }

pub within_right : (p : PatternSet) (a b : Term) → IsWithin p a → IsUnit b → IsWithin p (prod a b)
within_right p a b x none = record { holds = right_pair p a b x none }

item_pair : (p : PatternSet) (t : Term) (ts : Terms) → IsWithin p t → AreWithin p ts → (i j : ℕ) → HaveTerm (term t ts) i j → has_pair p i j ≡ true
item_pair p t ts x y i j (inl h) = x.holds i j h
item_pair p t ts x y i j (inr h) = y.holds i j h

pub within_item : (p : PatternSet) (t : Term) (ts : Terms) → IsWithin p t → AreWithin p ts → AreWithin p (term t ts)
within_item p t ts x y = record { holds = item_pair p t ts x y }

pub within_empty : (p : PatternSet) → AreWithin p no_terms
within_empty p = record { holds = λ i j h. absurd h }

mark_pair : (p : PatternSet) (l : ℕ) (at : List Ix) (b : Term) → has_pair p 0 0 ≡ true → IsWithin p b → (i j : ℕ) → HasTerm (mark l at b) i j → has_pair p i j ≡ true
mark_pair p l at b there x i j (inl e) = none_pair p i j e there
mark_pair p l at b there x i j (inr h) = x.holds i j h

pub within_mark : (p : PatternSet) (l : ℕ) (at : List Ix) (b : Term) → has_pair p 0 0 ≡ true → IsWithin p b → IsWithin p (mark l at b)
within_mark p l at b there x = record { holds = mark_pair p l at b there x }

pub within_unit : (t : Term) → IsUnit t → IsWithin only_pair t
within_unit t u = record { holds = λ i j h. within_none i j (u.holds i j h) }

-- in more pairs
pub within_more : (p q : PatternSet) (t : Term) → ((i j : ℕ) → has_pair p i j ≡ true → has_pair q i j ≡ true) → IsWithin p t → IsWithin q t
within_more p q t m x = record { holds = λ i j h. m i j (x.holds i j h) }
