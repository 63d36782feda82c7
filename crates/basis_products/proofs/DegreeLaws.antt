-- A derivative takes a degree away
use Rattle.std.proofs.Common.{◌≡◌, ℕ, zero, suc, ◌+◌, ◌-◌, ◌<◌, ◌≤◌, ◌⊎◌, inl, inr, Bool, true, false, cond, List, [], ◌∷◌, refl, sym, ap, ap₂, ◌∙◌, arith}
use Rattle.std.proofs.Math.ListN.{set}
use Rattle.algebra.specs.Ring.{natural}
use Rattle.algebra.specs.RingLaws as L
use Rattle.algebra.specs.Fraction.{Fraction, fractions, zero_fraction, add, add_zero, mul, is_zero_fraction}
use Rattle.ratio.specs.Value.{fraction_of}
use Rattle.calculus.specs.Powers.{powers_of, powers_eq, powers_eq-same, power_of}
use Rattle.calculus.specs.Polynomial.{Polynomial, plus, derivative, monomial}
use Rattle.calculus.proofs.PolynomialLaws.{derivative-plus}
use Rattle.polyalg.specs.Exponents.{exponent, key, total}
use Rattle.polyalg.specs.Terms.{term_value, value_of, AreAbove, Rising, keys_and, IsTerm, AreTerms, IsPoly}
use Rattle.polyalg.specs.Products.{coefficient_in, degree_of}
use Rattle.polyalg.specs.declared.term.Term.{Term}
use Rattle.polyalg.proofs.MonomialLaws.{monomial-derivative, exponent_is}
use Rattle.polyalg.proofs.DerivedLaws.{Lowered, lowered_at, derivative-nil, vanishes}
use Rattle.polyalg.proofs.RowLaws.{own, other, coefficient_in-plus, coefficient_in-nil, coefficient_in-monomial}

-- ---- coefficients at other degrees
same_total : (e f : List ℕ) → powers_eq (powers_of f) (powers_of e) ≡ true → total f ≡ total e
same_total e f h =
    let p = powers_eq-same (powers_of f) (powers_of e) h in
    let x : exponent f 0 ≡ exponent e 0 = sym (exponent_is f 0) ∙ ap (λ q. power_of q 0) p ∙ exponent_is e 0 in
    let y : exponent f 1 ≡ exponent e 1 = sym (exponent_is f 1) ∙ ap (λ q. power_of q 1) p ∙ exponent_is e 1 in
    let z : exponent f 2 ≡ exponent e 2 = sym (exponent_is f 2) ∙ ap (λ q. power_of q 2) p ∙ exponent_is e 2 in
    omega arith

other_degree : (e f : List ℕ) (c : Fraction) → total f < total e → coefficient_in e (monomial c f) ≡ zero_fraction
other_degree e f c l = coefficient_in-monomial e c f ∙ go (powers_eq (powers_of f) (powers_of e)) refl where
  go : (b : Bool) → powers_eq (powers_of f) (powers_of e) ≡ b → cond b c zero_fraction ≡ zero_fraction
  go true h = let s = same_total e f h in absurd (omega arith)
  go false h = refl

none_above : (e : List ℕ) (ts : List Term) → AreAbove (key e + 0) (keys_and 0 ts) → coefficient_in e (value_of ts) ≡ zero_fraction
none_above e [] a = coefficient_in-nil e
none_above e (t ∷ ts) a =
    let differ : key t.e ≡ key e → ⊥ = λ h. omega (arith, a.0) in
    coefficient_in-plus e (term_value t) (value_of ts) ∙ ap₂ add (other e t.e (fraction_of t.c) differ) (none_above e ts a.1) ∙ add_zero zero_fraction

-- ---- no term has a degree above m where no coefficient does
abbrev pub IsLow : ℕ → Polynomial → Type 0
IsLow m p = (e : List ℕ) → m < total e → coefficient_in e p ≡ zero_fraction

zero_is_zero : is_zero_fraction zero_fraction ≡ true
zero_is_zero = unfold is_zero_fraction zero_fraction in refl

not_both : (a : Fraction) → a ≡ zero_fraction → is_zero_fraction a ≡ false → ⊥
not_both a h g =
    let e : true ≡ false = sym zero_is_zero ∙ ap is_zero_fraction (sym h) ∙ g in
    cc

within : (m n : ℕ) → (n ≤ m) ⊎ (m < n)
within m n = grind arith

first_low : (m : ℕ) (t : Term) (ts : List Term) → IsTerm t → AreAbove (key t.e + 0) (keys_and 0 ts) → IsLow m (plus (term_value t) (value_of ts)) → total t.e ≤ m
first_low m t ts a r low = elim (within m (total t.e)) [
  | inl h ↦ h
  | inr h ↦ absurd (not_both (fraction_of t.c)
      (sym (coefficient_in-plus t.e (term_value t) (value_of ts) ∙ ap₂ add (own t.e t.e (fraction_of t.c) refl) (none_above t.e ts r) ∙ add_zero (fraction_of t.c)) ∙ low t.e h)
      a.some)
]

rest_low : (m : ℕ) (t : Term) (ts : List Term) → total t.e ≤ m → IsLow m (plus (term_value t) (value_of ts)) → IsLow m (value_of ts)
rest_low m t ts h low e l =
    sym (coefficient_in-plus e (term_value t) (value_of ts) ∙ ap (λ x. add x (coefficient_in e (value_of ts))) (other_degree e t.e (fraction_of t.c) (omega arith))
    ∙ L.zero-add fractions (coefficient_in e (value_of ts)))
    ∙ low e l

degree_below : (m : ℕ) (ts : List Term) → AreTerms ts → Rising (keys_and 0 ts) → IsLow m (value_of ts) → degree_of ts ≤ m
degree_below m [] a r low = omega arith
degree_below m (t ∷ ts) a r low =
    let h = first_low m t ts a.0 r.0 low in
    let g : degree_of ts ≤ m = degree_below m ts a.1 r.1 (rest_low m t ts h low) in
    omega arith

pub degree_is : (m : ℕ) (ts : List Term) → IsPoly ts → IsLow m (value_of ts) → degree_of ts ≤ m
degree_is m ts p low = degree_below m ts p.terms p.sorted low

-- ---- derivatives
one_less : (k m : ℕ) (e g : List ℕ) → k < 3 → exponent e k ≡ suc m → Lowered k e g → suc (total g) ≡ total e
one_less zero m e g h x w = omega (arith, w.exponents 0, w.exponents 1, w.exponents 2)
one_less (suc zero) m e g h x w = omega (arith, w.exponents 0, w.exponents 1, w.exponents 2)
one_less (suc (suc zero)) m e g h x w = omega (arith, w.exponents 0, w.exponents 1, w.exponents 2)
one_less (suc (suc (suc k))) m e g h x w = absurd (omega arith)

term_low : (k n : ℕ) (t : Term) → k < 3 → IsTerm t → total t.e ≤ n → IsLow (n - 1) (derivative k (term_value t))
term_low k n t h a b e l = go (exponent t.e k) refl where
  go : (m : ℕ) → exponent t.e k ≡ m → coefficient_in e (derivative k (term_value t)) ≡ zero_fraction
  go zero x = ap (coefficient_in e) (vanishes k t x) ∙ coefficient_in-nil e
  go (suc m) x =
      let w = lowered_at k m t.e h a.three x in
      let s = one_less k m t.e (set t.e k m) h x w in
      ap (coefficient_in e) (monomial-derivative k (fraction_of t.c) t.e (set t.e k m) w.exponents)
      ∙ other_degree e (set t.e k m) (mul (natural fractions (exponent t.e k)) (fraction_of t.c)) (omega arith)

terms_low : (k n : ℕ) (ts : List Term) → k < 3 → AreTerms ts → degree_of ts ≤ n → IsLow (n - 1) (derivative k (value_of ts))
terms_low k n [] h a b e l = ap (coefficient_in e) (derivative-nil k) ∙ coefficient_in-nil e
terms_low k n (t ∷ ts) h a b e l =
    ap (coefficient_in e) (derivative-plus k (term_value t) (value_of ts)) ∙ coefficient_in-plus e (derivative k (term_value t)) (derivative k (value_of ts))
    ∙ ap₂ add (term_low k n t h a.0 (omega arith) e l) (terms_low k n ts h a.1 (omega arith) e l) ∙ add_zero zero_fraction

pub derivative_degree : (k n : ℕ) (ts out : List Term) → k < 3 → IsPoly ts → IsPoly out → value_of out ≡ derivative k (value_of ts) → degree_of ts ≤ n → degree_of out ≤ n - 1
derivative_degree k n ts out h p q e b = degree_is (n - 1) out q (λ f l. ap (coefficient_in f) e ∙ terms_low k n ts h p.terms b f l)
