-- The products of one term with the terms of a list, and their steps
use Rattle.std.proofs.Common.{◌≡◌, ℕ, zero, suc, ◌+◌, ◌≤◌, Bool, true, false, cond, ◌||◌, ◌&&◌, ◌==◌, is_none, if◌then◌else◌, Option, Some, None, option_and_then, List, [], ◌∷◌, ◌++◌, refl, sym, ap, ap₂, ◌∙◌, subst, arith, append_assoc, append-nil, length}
use Rattle.std.proofs.lemmas.Bool.Decides.{nat_tests}
use Rattle.algebra.specs.Ring.{additive}
use Rattle.algebra.specs.RingLaws as L
use Rattle.algebra.specs.GroupLaws as S
use Rattle.algebra.specs.Fraction.{Fraction, fractions, zero_fraction, add, add_zero, is_zero_fraction}
use Rattle.algebra.specs.Steps.{product, sum}
use Rattle.algebra.proofs.InverseLaws.{is_zero-mul}
use Rattle.ratio.specs.Value.{fraction_of}
use Rattle.calculus.specs.Free as F
use Rattle.calculus.specs.Polynomial.{Polynomial, nil, plus, times, monomial, polynomials, plus_assoc, plus-nil, times-plus}
use Rattle.calculus.specs.Powers.{powers, powers_of, powers_eq, powers_eq_refl, powers_eq-same, power_of}
use Rattle.polyalg.specs.Exponents.{exponent, key, total}
use Rattle.polyalg.specs.Terms.{term_value, value_of, AreAbove, Rising, keys_and, IsTerm, AreTerms, IsPoly}
use Rattle.polyalg.specs.Range.{row_passes, term_passes, sum_passes}
use Rattle.polyalg.specs.Products.{coefficient_in, coefficient_additive, exponent_sum, row_steps, degree_of}
use Rattle.polyalg.specs.Row.{IsRow}
use Rattle.polyalg.specs.declared.term.Term.{Term}
use Rattle.polyalg.proofs.MonomialLaws.{monomial-times, exponent_is}
use Rattle.polyalg.proofs.DerivedLaws.{by_three}
use Rattle.polyalg.proofs.MergedLaws.{same_exponents}
use Rattle.polyalg.proofs.StepLaws.{product_is, some_is_not_none, none_is_none}
use Rattle.polyalg.proofs.ZeroSum.{zero_sum}

-- ---- how far a row has come: what is left makes the whole
pub record RowSoFar (s : Term) (out left all : List Term) : Type 0 where
  pub makes : (us : List Term) → IsRow s left us → IsRow s all (out ++ us)
  pub passes : row_passes s left ≡ row_passes s all
  pub small : total s.e + degree_of left ≤ 65535
  pub remain : AreTerms left

pub row_begin : (s : Term) (out all : List Term) → out ≡ [] → IsPoly all → total s.e + degree_of all ≤ 65535 → RowSoFar s out all all
row_begin s out all e p h =
    record { makes = λ us r. subst (λ ts. IsRow s all (ts ++ us)) (sym e) r; passes = refl; small = h; remain = p.terms }

pub row_step : (s : Term) (out left all next rest : List Term) (t u : Term) → left ≡ t ∷ rest → product (fraction_of s.c) (fraction_of t.c) ≡ Some (fraction_of u.c)
    → u.e ≡ exponent_sum s.e t.e → next ≡ out ++ u ∷ [] → RowSoFar s out left all → RowSoFar s next rest all
row_step s out left all next rest t u is h e n r =
    let terms : AreTerms (t ∷ rest) = subst AreTerms is r.remain in
    record {
      makes = λ us k.
          subst (IsRow s all) (sym (ap (λ ts. ts ++ us) n ∙ append_assoc out (u ∷ []) us))
          (r.makes (u ∷ us) (subst (λ ts. IsRow s ts (u ∷ us)) (sym is) (h, e, k)));
      passes = ap (λ b. b || row_passes s rest) (sym (some_is_not_none (product (fraction_of s.c) (fraction_of t.c)) (fraction_of u.c) h)) ∙ ap (row_passes s) (sym is) ∙ r.passes;
      small = omega (arith, r.small, ap degree_of is);
      remain = terms.1;
    }

pub row_fails : (s : Term) (out left all rest : List Term) (t : Term) → left ≡ t ∷ rest → product (fraction_of s.c) (fraction_of t.c) ≡ None
    → RowSoFar s out left all → row_passes s all ≡ true
row_fails s out left all rest t is h r =
    sym r.passes ∙ ap (row_passes s) is ∙ ap (λ b. b || row_passes s rest) (none_is_none (product (fraction_of s.c) (fraction_of t.c)) h)

pub row_done : (s : Term) (out left all : List Term) → left ≡ [] → RowSoFar s out left all → IsRow s all out
row_done s out left all none r = subst (IsRow s all) (append-nil out) (r.makes [] (subst (λ ts. IsRow s ts []) (sym none) tt))

pub row_ends : (s : Term) (out left all : List Term) → left ≡ [] → RowSoFar s out left all → row_passes s all ≡ false
row_ends s out left all none r = sym r.passes ∙ ap (row_passes s) none

-- the exponents of a term of a row fit
pub row_exponents : (s : Term) (left rest all out : List Term) (t : Term) → left ≡ t ∷ rest → RowSoFar s out left all → total s.e + total t.e ≤ 65535
row_exponents s left rest all out t is r = omega (arith, r.small, ap degree_of is)

-- ---- what a row is
beyond : (e : List ℕ) → length e ≡ 3 → (i : ℕ) → exponent e (suc (suc (suc i))) ≡ 0
beyond e h i = by_three (λ e. exponent e (suc (suc (suc i))) ≡ 0) (λ x y z. refl) e h

sum_exponents : (e f : List ℕ) → length e ≡ 3 → length f ≡ 3 → (i : ℕ) → exponent (exponent_sum e f) i ≡ exponent e i + exponent f i
sum_exponents e f h g zero = refl
sum_exponents e f h g (suc zero) = refl
sum_exponents e f h g (suc (suc zero)) = refl
sum_exponents e f h g (suc (suc (suc i))) = omega (arith, beyond e h i, beyond f g i)

key_of_sum : (e f : List ℕ) → key (exponent_sum e f) ≡ key f + key e
key_of_sum e f = omega arith

total_of_sum : (e f : List ℕ) → total (exponent_sum e f) ≡ total e + total f
total_of_sum e f = omega arith

pub row_value : (s : Term) (ts us : List Term) → IsTerm s → AreTerms ts → IsRow s ts us → value_of us ≡ times (term_value s) (value_of ts)
row_value s [] [] h a r = sym (L.mul-zero polynomials (term_value s))
row_value s [] (u ∷ us) h a r = absurd r
row_value s (t ∷ ts) [] h a r = absurd r
row_value s (t ∷ ts) (u ∷ us) h a r =
    ap₂ plus
    (ap₂ monomial (product_is (fraction_of s.c) (fraction_of t.c) (fraction_of u.c) r.0) r.1
    ∙ sym (monomial-times (fraction_of s.c) (fraction_of t.c) s.e t.e (exponent_sum s.e t.e) (sum_exponents s.e t.e h.three a.0.three)))
    (row_value s ts us h a.1 r.2)
    ∙ sym (times-plus (term_value s) (term_value t) (value_of ts))

row_above : (s : Term) (ts us : List Term) (k m : ℕ) → m ≡ k + key s.e → IsRow s ts us → AreAbove k (keys_and 0 ts) → AreAbove m (keys_and 0 us)
row_above s [] [] k m e r a = tt
row_above s [] (u ∷ us) k m e r a = absurd r
row_above s (t ∷ ts) [] k m e r a = absurd r
row_above s (t ∷ ts) (u ∷ us) k m e r a = (omega (arith, a.0, ap key r.1, key_of_sum s.e t.e), row_above s ts us k m e r.2 a.1)

row_rising : (s : Term) (ts us : List Term) → IsRow s ts us → Rising (keys_and 0 ts) → Rising (keys_and 0 us)
row_rising s [] [] r a = tt
row_rising s [] (u ∷ us) r a = absurd r
row_rising s (t ∷ ts) [] r a = absurd r
row_rising s (t ∷ ts) (u ∷ us) r a =
    (row_above s ts us (key t.e + 0) (key u.e + 0) (omega (arith, ap key r.1, key_of_sum s.e t.e)) r.2 a.0, row_rising s ts us r.2 a.1)

row_term : (s t u : Term) → IsTerm s → IsTerm t → total s.e + total t.e ≤ 65535 → product (fraction_of s.c) (fraction_of t.c) ≡ Some (fraction_of u.c) → u.e ≡ exponent_sum s.e t.e → IsTerm u
row_term s t u h g n p e =
    record {
      three = ap length e;
      small = omega (arith, ap total e, total_of_sum s.e t.e);
      some = ap is_zero_fraction (product_is (fraction_of s.c) (fraction_of t.c) (fraction_of u.c) p) ∙ is_zero-mul (fraction_of s.c) (fraction_of t.c) ∙ ap₂ ◌||◌ h.some g.some;
    }

row_terms : (s : Term) (ts us : List Term) → IsTerm s → AreTerms ts → total s.e + degree_of ts ≤ 65535 → IsRow s ts us → AreTerms us
row_terms s [] [] h a n r = tt
row_terms s [] (u ∷ us) h a n r = absurd r
row_terms s (t ∷ ts) [] h a n r = absurd r
row_terms s (t ∷ ts) (u ∷ us) h a n r =
    (row_term s t u h a.0 (omega arith) r.0 r.1, row_terms s ts us h a.1 (omega arith) r.2)

pub row_degree : (s : Term) (ts us : List Term) → IsRow s ts us → degree_of us ≤ total s.e + degree_of ts
row_degree s [] [] r = omega arith
row_degree s [] (u ∷ us) r = absurd r
row_degree s (t ∷ ts) [] r = absurd r
row_degree s (t ∷ ts) (u ∷ us) r = omega (arith, ap total r.1, total_of_sum s.e t.e, row_degree s ts us r.2)

pub row_lawful : (s : Term) (ts us : List Term) → IsTerm s → IsPoly ts → total s.e + degree_of ts ≤ 65535 → IsRow s ts us → IsPoly us
row_lawful s ts us h p n r = record { sorted = row_rising s ts us r p.sorted; terms = row_terms s ts us h p.terms n r }

-- ---- coefficients
pub coefficient_in-plus : (e : List ℕ) (p q : Polynomial) → coefficient_in e (plus p q) ≡ add (coefficient_in e p) (coefficient_in e q)
unfolding coefficient_in plus
coefficient_in-plus e p q =
    F.extended-plus (additive fractions) powers.exponents (additive fractions) (λ c f. cond (powers_eq f (powers_of e)) c zero_fraction) (coefficient_additive e) p q

pub coefficient_in-monomial : (e : List ℕ) (c : Fraction) (f : List ℕ) → coefficient_in e (monomial c f) ≡ cond (powers_eq (powers_of f) (powers_of e)) c zero_fraction
unfolding coefficient_in monomial
coefficient_in-monomial e c f =
    F.extended-mono (additive fractions) powers.exponents (additive fractions) (λ c f. cond (powers_eq f (powers_of e)) c zero_fraction) (coefficient_additive e) c (powers_of f)

pub own : (e f : List ℕ) (c : Fraction) → f ≡ e → coefficient_in e (monomial c f) ≡ c
own e f c h =
    coefficient_in-monomial e c f
    ∙ ap (λ b. cond b c zero_fraction) (ap (λ g. powers_eq (powers_of g) (powers_of e)) h ∙ powers_eq_refl (powers_of e))

pub same_key : (e f : List ℕ) → powers_eq (powers_of f) (powers_of e) ≡ true → key f ≡ key e
same_key e f h =
    let p = powers_eq-same (powers_of f) (powers_of e) h in
    let x : exponent f 0 ≡ exponent e 0 = sym (exponent_is f 0) ∙ ap (λ q. power_of q 0) p ∙ exponent_is e 0 in
    let y : exponent f 1 ≡ exponent e 1 = sym (exponent_is f 1) ∙ ap (λ q. power_of q 1) p ∙ exponent_is e 1 in
    let z : exponent f 2 ≡ exponent e 2 = sym (exponent_is f 2) ∙ ap (λ q. power_of q 2) p ∙ exponent_is e 2 in
    omega arith

pub other : (e f : List ℕ) (c : Fraction) → (key f ≡ key e → ⊥) → coefficient_in e (monomial c f) ≡ zero_fraction
other e f c n = coefficient_in-monomial e c f ∙ go (powers_eq (powers_of f) (powers_of e)) refl where
  go : (b : Bool) → powers_eq (powers_of f) (powers_of e) ≡ b → cond b c zero_fraction ≡ zero_fraction
  go true h = absurd (n (same_key e f h))
  go false h = refl

pub coefficient_in-nil : (e : List ℕ) → coefficient_in e nil ≡ zero_fraction
coefficient_in-nil e =
    S.zero_from_double (additive fractions) (coefficient_in e nil) (ap (coefficient_in e) (sym (plus-nil nil)) ∙ coefficient_in-plus e nil nil)

-- no term has these exponents
none_above : (e : List ℕ) (ts : List Term) → AreAbove (key e + 0) (keys_and 0 ts) → coefficient_in e (value_of ts) ≡ zero_fraction
none_above e [] a = coefficient_in-nil e
none_above e (t ∷ ts) a =
    let differ : key t.e ≡ key e → ⊥ = λ h. omega (arith, a.0) in
    coefficient_in-plus e (term_value t) (value_of ts) ∙ ap₂ add (other e t.e (fraction_of t.c) differ) (none_above e ts a.1) ∙ add_zero zero_fraction

-- ---- the sums of a row with what is there
abbrev pub any_sum_passes : Polynomial → List Term → Bool
any_sum_passes p [] = false
any_sum_passes p (u ∷ us) = is_none (sum (coefficient_in u.e p) (fraction_of u.c)) || any_sum_passes p us

zero_passes : (u : Term) → is_none (sum zero_fraction (fraction_of u.c)) ≡ false
zero_passes u = some_is_not_none (sum zero_fraction (fraction_of u.c)) (fraction_of u.c) (zero_sum u.c)

with_nothing : (us : List Term) → any_sum_passes nil us ≡ false
with_nothing [] = refl
with_nothing (u ∷ us) = ap₂ ◌||◌ (ap (λ c. is_none (sum c (fraction_of u.c))) (coefficient_in-nil u.e) ∙ zero_passes u) (with_nothing us)

or_none : (b : Bool) → b ≡ (b || false)
or_none true = refl
or_none false = refl

medial : (a b c d : Bool) → ((a || b) || (c || d)) ≡ ((a || c) || (b || d))
medial true b c d = refl
medial false true true d = refl
medial false true false d = refl
medial false false true d = refl
medial false false false d = refl

key_equal : (m n : ℕ) → (m == n) ≡ true → m ≡ n
key_equal m n h = grind (arith, nat_tests)

key_apart : (m n : ℕ) → (m == n) ≡ false → m ≡ n → ⊥
key_apart m n h e = grind (arith, nat_tests)

one_sum : (t u : Term) (ts : List Term) → IsTerm t → IsTerm u → AreAbove (key t.e + 0) (keys_and 0 ts)
    → is_none (sum (coefficient_in u.e (plus (term_value t) (value_of ts))) (fraction_of u.c))
    ≡ ((key t.e == key u.e && is_none (sum (fraction_of t.c) (fraction_of u.c))) || is_none (sum (coefficient_in u.e (value_of ts)) (fraction_of u.c)))
one_sum t u ts h g a = go (key t.e == key u.e) refl where
  here : key t.e ≡ key u.e → coefficient_in u.e (plus (term_value t) (value_of ts)) ≡ fraction_of t.c
  here k =
      coefficient_in-plus u.e (term_value t) (value_of ts)
      ∙ ap₂ add (own u.e t.e (fraction_of t.c) (same_exponents t.e u.e h.three g.three h.small g.small k)) (none_above u.e ts (subst (λ n. AreAbove (n + 0) (keys_and 0 ts)) k a))
      ∙ add_zero (fraction_of t.c)

  there : (key t.e ≡ key u.e → ⊥) → coefficient_in u.e (plus (term_value t) (value_of ts)) ≡ coefficient_in u.e (value_of ts)
  there k =
      coefficient_in-plus u.e (term_value t) (value_of ts)
      ∙ ap (λ x. add x (coefficient_in u.e (value_of ts))) (other u.e t.e (fraction_of t.c) k)
      ∙ L.zero-add fractions (coefficient_in u.e (value_of ts))

  go : (b : Bool) → (key t.e == key u.e) ≡ b
      → is_none (sum (coefficient_in u.e (plus (term_value t) (value_of ts))) (fraction_of u.c))
      ≡ ((b && is_none (sum (fraction_of t.c) (fraction_of u.c))) || is_none (sum (coefficient_in u.e (value_of ts)) (fraction_of u.c)))
  go true e =
      let k = key_equal (key t.e) (key u.e) e in
      ap (λ x. is_none (sum x (fraction_of u.c))) (here k)
      ∙ or_none (is_none (sum (fraction_of t.c) (fraction_of u.c)))
      ∙ ap (λ b. is_none (sum (fraction_of t.c) (fraction_of u.c)) || b)
      (sym (ap (λ x. is_none (sum x (fraction_of u.c))) (none_above u.e ts (subst (λ n. AreAbove (n + 0) (keys_and 0 ts)) k a)) ∙ zero_passes u))
  go false e = ap (λ x. is_none (sum x (fraction_of u.c))) (there (key_apart (key t.e) (key u.e) e))

more_sums : (t : Term) (ts us : List Term) → IsTerm t → AreTerms us → AreAbove (key t.e + 0) (keys_and 0 ts)
    → any_sum_passes (plus (term_value t) (value_of ts)) us ≡ (term_passes t us || any_sum_passes (value_of ts) us)
more_sums t ts [] h g a = refl
more_sums t ts (u ∷ us) h g a =
    ap₂ ◌||◌ (one_sum t u ts h g.0 a) (more_sums t ts us h g.1 a)
    ∙ medial (key t.e == key u.e && is_none (sum (fraction_of t.c) (fraction_of u.c))) (is_none (sum (coefficient_in u.e (value_of ts)) (fraction_of u.c))) (term_passes t us) (any_sum_passes (value_of ts) us)

-- the sums of a merge are those with the coefficients so far
pub sums_are : (ts us : List Term) → AreTerms ts → Rising (keys_and 0 ts) → AreTerms us → any_sum_passes (value_of ts) us ≡ sum_passes ts us
sums_are [] us a r g = with_nothing us
sums_are (t ∷ ts) us a r g = more_sums t ts us a.0 g r.0 ∙ ap (λ b. term_passes t us || b) (sums_are ts us a.1 r.1 g)

-- ---- the steps of a row
abbrev pub Agree : Polynomial → Polynomial → List Term → Type 0
Agree p q [] = Unit {0}
Agree p q (u ∷ us) = (coefficient_in u.e p ≡ coefficient_in u.e q) × Agree p q us

pub agree_self : (p : Polynomial) (us : List Term) → Agree p p us
agree_self p [] = tt
agree_self p (u ∷ us) = (refl, agree_self p us)

agree_more : (p q : Polynomial) (t : Term) (us : List Term) → AreAbove (key t.e + 0) (keys_and 0 us) → Agree p q us → Agree (plus p (term_value t)) q us
agree_more p q t [] a g = tt
agree_more p q t (u ∷ us) a g =
    let differ : key t.e ≡ key u.e → ⊥ = λ h. omega (arith, a.0) in (
      coefficient_in-plus u.e p (term_value t) ∙ ap (add (coefficient_in u.e p)) (other u.e t.e (fraction_of t.c) differ) ∙ add_zero (coefficient_in u.e p) ∙ g.0,
      agree_more p q t us a.1 g.1,
    )

pub row_steps_are : (s : Term) (p q : Polynomial) (ts us : List Term) → IsRow s ts us → Rising (keys_and 0 us) → Agree p q us
    → row_steps p s ts ≡ (if any_sum_passes q us then None else Some (plus p (value_of us)))
row_steps_are s p q [] [] r a g = ap Some (sym (plus-nil p))
row_steps_are s p q [] (u ∷ us) r a g = absurd r
row_steps_are s p q (t ∷ ts) [] r a g = absurd r
row_steps_are s p q (t ∷ ts) (u ∷ us) r a g =
    ap (option_and_then (λ x. option_and_then (λ y. row_steps (plus p (monomial x (exponent_sum s.e t.e))) s ts) (sum (coefficient_in (exponent_sum s.e t.e) p) x))) r.0
    ∙ ap (λ e. option_and_then (λ y. row_steps (plus p (monomial (fraction_of u.c) e)) s ts) (sum (coefficient_in e p) (fraction_of u.c))) (sym r.1)
    ∙ ap (λ c. option_and_then (λ y. row_steps (plus p (term_value u)) s ts) (sum c (fraction_of u.c))) g.0
    ∙ go (sum (coefficient_in u.e q) (fraction_of u.c)) (row_steps_are s (plus p (term_value u)) q ts us r.2 a.1 (agree_more p q u us a.0 g.1))
  where
    go : (v : Option Fraction) → row_steps (plus p (term_value u)) s ts ≡ (if any_sum_passes q us then None else Some (plus (plus p (term_value u)) (value_of us)))
        → option_and_then (λ y. row_steps (plus p (term_value u)) s ts) v ≡ (if is_none v || any_sum_passes q us then None else Some (plus p (plus (term_value u) (value_of us))))
    go None ih = refl
    go (Some y) ih = ih ∙ ap (λ z. if any_sum_passes q us then None else Some z) (plus_assoc p (term_value u) (value_of us))

-- where a product passes, the row has no result
pub row_steps_fail : (s : Term) (ts : List Term) → row_passes s ts ≡ true → (p : Polynomial) → row_steps p s ts ≡ None
row_steps_fail s [] h p = cc
row_steps_fail s (t ∷ ts) h p = go (product (fraction_of s.c) (fraction_of t.c)) h (row_steps_fail s ts) where
  after : (x : Fraction) (v : Option Fraction) → ((p : Polynomial) → row_steps p s ts ≡ None)
      → option_and_then (λ y. row_steps (plus p (monomial x (exponent_sum s.e t.e))) s ts) v ≡ None
  after x None k = refl
  after x (Some y) k = k (plus p (monomial x (exponent_sum s.e t.e)))

  go : (v : Option Fraction) → (is_none v || row_passes s ts) ≡ true → (row_passes s ts ≡ true → (p : Polynomial) → row_steps p s ts ≡ None)
      → option_and_then (λ x. option_and_then (λ y. row_steps (plus p (monomial x (exponent_sum s.e t.e))) s ts) (sum (coefficient_in (exponent_sum s.e t.e) p) x)) v ≡ None
  go None h k = refl
  go (Some x) h k = after x (sum (coefficient_in (exponent_sum s.e t.e) p) x) (k h)
