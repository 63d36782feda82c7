-- Derivatives, term by term
use Rattle.std.proofs.Common.{◌≡◌, ℕ, zero, suc, ◌+◌, ◌-◌, ◌^◌, ◌<◌, ◌≤◌, true, false, ◌||◌, ◌&&◌, nat_lt, is_none, Some, None, List, [], ◌∷◌, ◌++◌, refl, sym, ap, ap₂, ◌∙◌, subst, arith, length}
use Rattle.std.proofs.Math.ListN.{set}
use Rattle.algebra.specs.Ring.{natural}
use Rattle.algebra.specs.Fraction.{Fraction, fractions, mul, mul_comm}
use Rattle.algebra.specs.RingLaws as L
use Rattle.algebra.specs.Steps.{product}
use Rattle.ratio.specs.declared.reduced.Ratio.{Ratio}
use Rattle.ratio.specs.Value.{fraction_of}
use Rattle.calculus.specs.Polynomial.{nil, plus, derivative, monomial, polynomials, plus_assoc, plus-nil}
use Rattle.calculus.specs.Powers.{delta}
use Rattle.calculus.proofs.PolynomialLaws.{derivative-plus, derivative-constant, constant-zero}
use Rattle.polyalg.specs.Exponents.{exponent, key, total}
use Rattle.polyalg.specs.Terms.{term_value, value_of, Rising, keys_and, AreTerms, IsPoly, kept}
use Rattle.polyalg.specs.Products.{degree_of}
use Rattle.polyalg.specs.Range.{derivative_passes}
use Rattle.polyalg.specs.declared.term.Term.{Term}
use Rattle.polyalg.proofs.MappedLaws.{Mapped, mapped_begin, mapped_value, mapped_passes, mapped_degree}
use Rattle.polyalg.proofs.MonomialLaws.{monomial-derivative, monomial-zero}
use Rattle.polyalg.proofs.SortedLaws.{value_of-kept, terms_kept, degree_kept, rising_kept, rising_skip, rising_front, unraised}
use Rattle.polyalg.proofs.StepLaws.{product_is, some_is_not_none, none_is_none}

-- ---- one less of one exponent
-- the number that an exponent of variable k counts for
abbrev pub unit_of : ℕ → ℕ
unit_of zero = 2 ^ 64
unit_of (suc zero) = 2 ^ 32
unit_of (suc (suc k)) = 1

-- what holds of three exponents holds of a list of them
pub by_three : (P : List ℕ → Type 0) → ((x y z : ℕ) → P (x ∷ y ∷ z ∷ [])) → (e : List ℕ) → length e ≡ 3 → P e
by_three P h [] e = absurd (omega arith)
by_three P h (x ∷ []) e = absurd (omega arith)
by_three P h (x ∷ y ∷ []) e = absurd (omega arith)
by_three P h (x ∷ y ∷ z ∷ []) e = h x y z
by_three P h (x ∷ y ∷ z ∷ w ∷ ws) e = absurd (omega arith)

-- e with one less of variable k
pub record Lowered (k : ℕ) (e g : List ℕ) : Type 0 where
  pub exponents : (i : ℕ) → exponent g i ≡ exponent e i - delta k i
  pub key_is : key g + unit_of k ≡ key e + 0
  pub three : length g ≡ 3
  pub total_is : total g ≤ total e

nothing_less : (n : ℕ) → n ≡ n - 0
nothing_less n = omega arith

lowered_first : (n x y z : ℕ) → x ≡ suc n → Lowered 0 (x ∷ y ∷ z ∷ []) (n ∷ y ∷ z ∷ [])
lowered_first n x y z e = record { exponents = go; key_is = omega arith; three = refl; total_is = omega arith } where
  go : (i : ℕ) → exponent (n ∷ y ∷ z ∷ []) i ≡ exponent (x ∷ y ∷ z ∷ []) i - delta 0 i
  go zero = omega arith
  go (suc i) = nothing_less (exponent (y ∷ z ∷ []) i)

lowered_second : (n x y z : ℕ) → y ≡ suc n → Lowered 1 (x ∷ y ∷ z ∷ []) (x ∷ n ∷ z ∷ [])
lowered_second n x y z e = record { exponents = go; key_is = omega arith; three = refl; total_is = omega arith } where
  go : (i : ℕ) → exponent (x ∷ n ∷ z ∷ []) i ≡ exponent (x ∷ y ∷ z ∷ []) i - delta 1 i
  go zero = nothing_less x
  go (suc zero) = omega arith
  go (suc (suc i)) = nothing_less (exponent (z ∷ []) i)

lowered_third : (n x y z : ℕ) → z ≡ suc n → Lowered 2 (x ∷ y ∷ z ∷ []) (x ∷ y ∷ n ∷ [])
lowered_third n x y z e = record { exponents = go; key_is = omega arith; three = refl; total_is = omega arith } where
  go : (i : ℕ) → exponent (x ∷ y ∷ n ∷ []) i ≡ exponent (x ∷ y ∷ z ∷ []) i - delta 2 i
  go zero = nothing_less x
  go (suc zero) = nothing_less y
  go (suc (suc zero)) = omega arith
  go (suc (suc (suc i))) = refl

pub lowered_at : (k n : ℕ) (e : List ℕ) → k < 3 → length e ≡ 3 → exponent e k ≡ suc n → Lowered k e (set e k n)
lowered_at k n e h three = by_three (λ e. exponent e k ≡ suc n → Lowered k e (set e k n)) (at k h) e three where
  at : (k : ℕ) → k < 3 → (x y z : ℕ) → exponent (x ∷ y ∷ z ∷ []) k ≡ suc n → Lowered k (x ∷ y ∷ z ∷ []) (set (x ∷ y ∷ z ∷ []) k n)
  at zero h x y z g = lowered_first n x y z g
  at (suc zero) h x y z g = lowered_second n x y z g
  at (suc (suc zero)) h x y z g = lowered_third n x y z g
  at (suc (suc (suc k))) h x y z g = absurd (omega arith)

-- how far a derivative has come
abbrev pub Derived : ℕ → List Term → List Term → List Term → Type 0
Derived k = Mapped (derivative k) (derivative_passes k) (unit_of k)

pub derived_begin : (k : ℕ) (out all : List Term) → out ≡ [] → IsPoly all → Derived k out all all
derived_begin k = mapped_begin (derivative k) (derivative_passes k) (unit_of k)

pub derivative-nil : (k : ℕ) → derivative k nil ≡ nil
derivative-nil k = ap (derivative k) (sym constant-zero) ∙ derivative-constant k _

no_less : (e : List ℕ) (k : ℕ) → exponent e k ≡ 0 → (i : ℕ) → exponent e i ≡ exponent e i - delta k i
no_less [] k h i = omega arith
no_less (x ∷ e) zero h zero = omega arith
no_less (x ∷ e) zero h (suc i) = nothing_less (exponent e i)
no_less (x ∷ e) (suc k) h zero = nothing_less x
no_less (x ∷ e) (suc k) h (suc i) = no_less e k h i

-- a term without variable k
pub vanishes_monomial : (k : ℕ) (c : Fraction) (e : List ℕ) → exponent e k ≡ 0 → derivative k (monomial c e) ≡ nil
vanishes_monomial k c e h =
    monomial-derivative k c e e (no_less e k h) ∙ ap (λ n. monomial (mul (natural fractions n) c) e) h ∙ ap (λ x. monomial x e) (L.zero-mul fractions c) ∙ monomial-zero e

pub vanishes : (k : ℕ) (t : Term) → exponent t.e k ≡ 0 → derivative k (term_value t) ≡ nil
vanishes k t h = vanishes_monomial k (fraction_of t.c) t.e h

test_first : (k : ℕ) (t : Term) (rest : List Term) → exponent t.e k ≡ 0 → derivative_passes k (t ∷ rest) ≡ derivative_passes k rest
test_first k t rest h = ap (λ n. (nat_lt 0 n && is_none (product (fraction_of t.c) (natural fractions n))) || derivative_passes k rest) h

split : (k : ℕ) (t : Term) (rest left : List Term) → left ≡ t ∷ rest → derivative k (value_of left) ≡ plus (derivative k (term_value t)) (derivative k (value_of rest))
split k t rest left is = ap (λ ts. derivative k (value_of ts)) is ∙ derivative-plus k (term_value t) (value_of rest)

pub derived_skip : (k : ℕ) (out left all rest : List Term) (t : Term) → left ≡ t ∷ rest → exponent t.e k ≡ 0 → Derived k out left all → Derived k out rest all
derived_skip k out left all rest t is h s =
    let r : AreTerms (t ∷ rest) = subst AreTerms is s.remain in
    record {
      value =
          ap (plus (value_of out))
          (sym (split k t rest left is ∙ ap (λ p. plus p (derivative k (value_of rest))) (vanishes k t h) ∙ L.zero-add polynomials (derivative k (value_of rest))))
          ∙ s.value;
      passes = sym (test_first k t rest h) ∙ ap (derivative_passes k) (sym is) ∙ s.passes;
      rising = rising_skip (keys_and (unit_of k) out) (key t.e + 0) (keys_and 0 rest) (subst (λ ts. Rising (keys_and (unit_of k) out ++ keys_and 0 ts)) is s.rising);
      there = s.there;
      remain = r.1;
      degree = omega (arith, s.degree, ap degree_of is);
    }

derived_term : (k n : ℕ) (t : Term) (g : List ℕ) (x : Ratio) → exponent t.e k ≡ n → Lowered k t.e g → product (fraction_of t.c) (natural fractions n) ≡ Some (fraction_of x)
    → derivative k (term_value t) ≡ term_value (record { e = g; c = x })
derived_term k n t g x e l h =
    monomial-derivative k (fraction_of t.c) t.e g l.exponents
    ∙ ap (λ c. monomial c g)
    (ap (λ m. mul (natural fractions m) (fraction_of t.c)) e ∙ mul_comm (natural fractions n) (fraction_of t.c) ∙ sym (product_is (fraction_of t.c) (natural fractions n) (fraction_of x) h))

positive_test : (n : ℕ) → nat_lt 0 (suc n) ≡ true
positive_test n = grind arith

test_step : (k n : ℕ) (t : Term) (rest : List Term) → exponent t.e k ≡ suc n
    → derivative_passes k (t ∷ rest) ≡ (is_none (product (fraction_of t.c) (natural fractions (suc n))) || derivative_passes k rest)
test_step k n t rest e =
    ap (λ m. (nat_lt 0 m && is_none (product (fraction_of t.c) (natural fractions m))) || derivative_passes k rest) e
    ∙ ap (λ b. (b && is_none (product (fraction_of t.c) (natural fractions (suc n)))) || derivative_passes k rest) (positive_test n)

pub derived_step : (k n : ℕ) (out left all next rest : List Term) (t : Term) (g : List ℕ) (x : Ratio) → left ≡ t ∷ rest
    → exponent t.e k ≡ suc n → Lowered k t.e g → product (fraction_of t.c) (natural fractions (suc n)) ≡ Some (fraction_of x)
    → next ≡ kept out (record { e = g; c = x }) → Derived k out left all → Derived k next rest all
derived_step k n out left all next rest t g x is e l h m s =
    let u : Term = record { e = g; c = x } in
    let r : AreTerms (t ∷ rest) = subst AreTerms is s.remain in
    record {
      value =
          ap (λ p. plus p (derivative k (value_of rest))) (ap value_of m ∙ value_of-kept out u)
          ∙ plus_assoc (value_of out) (term_value u) (derivative k (value_of rest))
          ∙ ap (plus (value_of out)) (ap (λ p. plus p (derivative k (value_of rest))) (sym (derived_term k (suc n) t g x e l h)) ∙ sym (split k t rest left is))
          ∙ s.value;
      passes =
          sym (test_step k n t rest e ∙ ap (λ b. b || derivative_passes k rest) (some_is_not_none (product (fraction_of t.c) (natural fractions (suc n))) (fraction_of x) h))
          ∙ ap (derivative_passes k) (sym is) ∙ s.passes;
      rising =
          subst (λ ts. Rising (keys_and (unit_of k) ts ++ keys_and 0 rest)) (sym m)
          (rising_kept (unit_of k) out u (key t.e + 0) (keys_and 0 rest) l.key_is (subst (λ ts. Rising (keys_and (unit_of k) out ++ keys_and 0 ts)) is s.rising));
      there = subst AreTerms (sym m) (terms_kept out u s.there (λ z. record { three = l.three; small = omega (arith, l.total_is, r.0.small); some = z }));
      remain = r.1;
      degree = omega (arith, s.degree, ap degree_of m, degree_kept out u, l.total_is, ap degree_of is);
    }

pub derived_fails : (k n : ℕ) (out left all rest : List Term) (t : Term) → left ≡ t ∷ rest → exponent t.e k ≡ suc n
    → product (fraction_of t.c) (natural fractions (suc n)) ≡ None → Derived k out left all → derivative_passes k all ≡ true
derived_fails k n out left all rest t is e h s =
    sym s.passes ∙ ap (derivative_passes k) is ∙ test_step k n t rest e
    ∙ ap (λ b. b || derivative_passes k rest) (none_is_none (product (fraction_of t.c) (natural fractions (suc n))) h)

pub derived_value : (k : ℕ) (out left all : List Term) → left ≡ [] → Derived k out left all → value_of out ≡ derivative k (value_of all)
derived_value k = mapped_value (derivative k) (derivative_passes k) (unit_of k) (derivative-nil k)

pub derived_passes : (k : ℕ) (out left all : List Term) → left ≡ [] → Derived k out left all → derivative_passes k all ≡ false
derived_passes k = mapped_passes (derivative k) (derivative_passes k) (unit_of k)

pub derived_lawful : (k : ℕ) (out left all : List Term) → Derived k out left all → IsPoly out
derived_lawful k out left all s =
    record { sorted = unraised (unit_of k) out (rising_front (keys_and (unit_of k) out) (keys_and 0 left) s.rising); terms = s.there }

pub derived_degree : (k : ℕ) (out left all : List Term) → Derived k out left all → degree_of out ≤ degree_of all
derived_degree k = mapped_degree (derivative k) (derivative_passes k) (unit_of k)

-- ---- no term has a variable of 3 or more
pub nothing_beyond : (k : ℕ) → 3 ≤ k → (e : List ℕ) → length e ≡ 3 → exponent e k ≡ 0
nothing_beyond zero h e three = absurd (omega arith)
nothing_beyond (suc zero) h e three = absurd (omega arith)
nothing_beyond (suc (suc zero)) h e three = absurd (omega arith)
nothing_beyond (suc (suc (suc k))) h e three = by_three (λ e. exponent e (suc (suc (suc k))) ≡ 0) (λ x y z. refl) e three

pub derived_beyond : (k : ℕ) (ts : List Term) → 3 ≤ k → AreTerms ts → derivative k (value_of ts) ≡ nil
derived_beyond k [] h a = derivative-nil k
derived_beyond k (t ∷ ts) h a =
    derivative-plus k (term_value t) (value_of ts) ∙ ap₂ plus (vanishes k t (nothing_beyond k h t.e a.0.three)) (derived_beyond k ts h a.1) ∙ plus-nil nil

pub passes_beyond : (k : ℕ) (ts : List Term) → 3 ≤ k → AreTerms ts → derivative_passes k ts ≡ false
passes_beyond k [] h a = refl
passes_beyond k (t ∷ ts) h a = test_first k t ts (nothing_beyond k h t.e a.0.three) ∙ passes_beyond k ts h a.1
