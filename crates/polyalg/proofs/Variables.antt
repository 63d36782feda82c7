-- The variables that occur in the terms are those of the polynomial
use Rattle.std.proofs.Common.{◌≡◌, ℕ, zero, suc, ◌+◌, ◌-◌, ◌<◌, ◌≤◌, ◌⊎◌, inl, inr, true, false, ◌||◌, List, [], ◌∷◌, refl, sym, ap, ap₂, ◌∙◌, arith}
use Rattle.std.proofs.Math.ListN.{set}
use Rattle.algebra.specs.Ring.{natural}
use Rattle.algebra.specs.RingLaws as L
use Rattle.algebra.specs.Fraction.{Fraction, fractions, zero_fraction, add, add_zero, mul, is_zero_fraction}
use Rattle.algebra.proofs.InverseLaws.{is_zero-mul}
use Rattle.ratio.specs.Value.{fraction_of}
use Rattle.calculus.specs.Rational.{natural_apart}
use Rattle.calculus.specs.Powers.{delta}
use Rattle.calculus.specs.Polynomial.{Polynomial, nil, plus, times, constant, derivative, monomial, polynomials, plus-nil}
use Rattle.calculus.proofs.PolynomialLaws.{derivative-plus, derivative-times, derivative-constant}
use Rattle.polyalg.specs.Exponents.{exponent, key}
use Rattle.polyalg.specs.Terms.{term_value, value_of, AreAbove, Rising, keys_and, IsTerm, AreTerms, IsPoly}
use Rattle.polyalg.specs.Products.{coefficient_in}
use Rattle.polyalg.specs.ReferenceIntegral.{VariablesBelow}
use Rattle.polyalg.specs.declared.term.Term.{Term}
use Rattle.polyalg.proofs.MonomialLaws.{monomial-derivative}
use Rattle.polyalg.proofs.DerivedLaws.{unit_of, Lowered, lowered_at, derivative-nil, vanishes, vanishes_monomial, nothing_beyond}
use Rattle.polyalg.proofs.RowLaws.{own, other, coefficient_in-plus, coefficient_in-nil}

-- ---- a variable that doesn't occur
pub still : (d i : ℕ) (ts : List Term) → d ≤ i → VariablesBelow d ts → derivative i (value_of ts) ≡ nil
still d i [] l h = derivative-nil i
still d i (t ∷ ts) l h = derivative-plus i (term_value t) (value_of ts) ∙ ap₂ plus (vanishes i t (h.0 i l)) (still d i ts l h.1) ∙ plus-nil nil

-- ---- one that occurs: its derivative has a term that nothing cancels
derivative_term : (i n : ℕ) (t : Term) (g : List ℕ) → exponent t.e i ≡ n → Lowered i t.e g → derivative i (term_value t) ≡ monomial (mul (natural fractions n) (fraction_of t.c)) g
derivative_term i n t g h l = monomial-derivative i (fraction_of t.c) t.e g l.exponents ∙ ap (λ m. monomial (mul (natural fractions m) (fraction_of t.c)) g) h

term_above : (i k : ℕ) (g : List ℕ) (u : Term) → i < 3 → key g + unit_of i ≡ k → k < key u.e + 0 → IsTerm u → coefficient_in g (derivative i (term_value u)) ≡ zero_fraction
term_above i k g u h e l a = go (exponent u.e i) refl where
  go : (m : ℕ) → exponent u.e i ≡ m → coefficient_in g (derivative i (term_value u)) ≡ zero_fraction
  go zero x = ap (coefficient_in g) (vanishes i u x) ∙ coefficient_in-nil g
  go (suc m) x =
      let w = lowered_at i m u.e h a.three x in
      ap (coefficient_in g) (derivative_term i (suc m) u (set u.e i m) x w)
      ∙ other g (set u.e i m) (mul (natural fractions (suc m)) (fraction_of u.c)) (λ y. omega (arith, w.key_is, e, l, y))

terms_above : (i k : ℕ) (g : List ℕ) (ts : List Term) → i < 3 → key g + unit_of i ≡ k → AreAbove k (keys_and 0 ts) → AreTerms ts → coefficient_in g (derivative i (value_of ts)) ≡ zero_fraction
terms_above i k g [] h e l a = ap (coefficient_in g) (derivative-nil i) ∙ coefficient_in-nil g
terms_above i k g (u ∷ us) h e l a =
    ap (coefficient_in g) (derivative-plus i (term_value u) (value_of us)) ∙ coefficient_in-plus g (derivative i (term_value u)) (derivative i (value_of us))
    ∙ ap₂ add (term_above i k g u h e l.0 a.0) (terms_above i k g us h e l.1 a.1) ∙ add_zero zero_fraction

zero_is_zero : is_zero_fraction zero_fraction ≡ true
zero_is_zero = unfold is_zero_fraction zero_fraction in refl

not_both : (a : Fraction) → a ≡ zero_fraction → is_zero_fraction a ≡ false → ⊥
not_both a h g =
    let e : true ≡ false = sym zero_is_zero ∙ ap is_zero_fraction (sym h) ∙ g in
    cc

first_free : (i : ℕ) (t : Term) (ts : List Term) → i < 3 → IsTerm t → AreTerms ts → AreAbove (key t.e + 0) (keys_and 0 ts) → derivative i (value_of (t ∷ ts)) ≡ nil → exponent t.e i ≡ 0
first_free i t ts h a as' l n = go (exponent t.e i) refl where
  go : (m : ℕ) → exponent t.e i ≡ m → exponent t.e i ≡ 0
  go zero x = x
  go (suc m) x =
      let w = lowered_at i m t.e h a.three x in
      let g = set t.e i m in
      let c = mul (natural fractions (suc m)) (fraction_of t.c) in
      let there : coefficient_in g (derivative i (value_of (t ∷ ts))) ≡ c =
      ap (coefficient_in g) (derivative-plus i (term_value t) (value_of ts)) ∙ coefficient_in-plus g (derivative i (term_value t)) (derivative i (value_of ts))
      ∙ ap₂ add (ap (coefficient_in g) (derivative_term i (suc m) t g x w) ∙ own g g c refl) (terms_above i (key t.e + 0) g ts h w.key_is l as')
      ∙ add_zero c in
      absurd (not_both c (sym there ∙ ap (coefficient_in g) n ∙ coefficient_in-nil g)
      (is_zero-mul (natural fractions (suc m)) (fraction_of t.c) ∙ ap₂ ◌||◌ (natural_apart m) a.some))

abbrev Free : ℕ → List Term → Type 0
Free i [] = Unit {0}
Free i (t ∷ ts) = (exponent t.e i ≡ 0) × Free i ts

free : (i : ℕ) (ts : List Term) → i < 3 → AreTerms ts → Rising (keys_and 0 ts) → derivative i (value_of ts) ≡ nil → Free i ts
free i [] h a r n = tt
free i (t ∷ ts) h a r n =
    let x = first_free i t ts h a.0 a.1 r.0 n in (
      x,
      free i ts h a.1 r.1
          (sym (L.zero-add polynomials (derivative i (value_of ts))) ∙ ap (λ p. plus p (derivative i (value_of ts))) (sym (vanishes i t x)) ∙ sym (derivative-plus i (term_value t) (value_of ts)) ∙ n),
    )

free_beyond : (i : ℕ) (ts : List Term) → 3 ≤ i → AreTerms ts → Free i ts
free_beyond i [] h a = tt
free_beyond i (t ∷ ts) h a = (nothing_beyond i h t.e a.0.three, free_beyond i ts h a.1)

within : (i : ℕ) → (i < 3) ⊎ (3 ≤ i)
within i = grind arith

below_where : (d : ℕ) (ts : List Term) → ((i : ℕ) → d ≤ i → Free i ts) → VariablesBelow d ts
below_where d [] h = tt
below_where d (t ∷ ts) h = ((λ i l. (h i l).0), below_where d ts (λ i l. (h i l).1))

-- the variables below d are those of the polynomial
pub variables_are : (d : ℕ) (ts : List Term) → IsPoly ts → ((i : ℕ) → d ≤ i → derivative i (value_of ts) ≡ nil) → VariablesBelow d ts
variables_are d ts p n = below_where d ts (λ i l. elim (within i) [ inl h ↦ free i ts h p.terms p.sorted (n i l) | inr h ↦ free_beyond i ts h p.terms ])

-- ---- under each operation
pub sum_variables : (d : ℕ) (ts us out : List Term) → IsPoly out → value_of out ≡ plus (value_of ts) (value_of us) → VariablesBelow d ts → VariablesBelow d us → VariablesBelow d out
sum_variables d ts us out p e h g =
    variables_are d out p (λ i l. ap (derivative i) e ∙ derivative-plus i (value_of ts) (value_of us) ∙ ap₂ plus (still d i ts l h) (still d i us l g) ∙ plus-nil nil)

of_product : (i : ℕ) (p q : Polynomial) → derivative i p ≡ nil → derivative i q ≡ nil → derivative i (times p q) ≡ nil
of_product i p q h g =
    derivative-times i p q ∙ ap₂ plus (ap (λ x. times x q) h ∙ L.zero-mul polynomials q) (ap (times p) g ∙ L.mul-zero polynomials p) ∙ plus-nil nil

pub product_variables : (d : ℕ) (ts us out : List Term) → IsPoly out → value_of out ≡ times (value_of ts) (value_of us) → VariablesBelow d ts → VariablesBelow d us → VariablesBelow d out
product_variables d ts us out p e h g =
    variables_are d out p (λ i l. ap (derivative i) e ∙ of_product i (value_of ts) (value_of us) (still d i ts l h) (still d i us l g))

pub scaled_variables : (d : ℕ) (c : Fraction) (ts out : List Term) → IsPoly out → value_of out ≡ times (constant c) (value_of ts) → VariablesBelow d ts → VariablesBelow d out
scaled_variables d c ts out p e h =
    variables_are d out p (λ i l. ap (derivative i) e ∙ of_product i (constant c) (value_of ts) (derivative-constant i c) (still d i ts l h))

-- the derivative in direction k of a term without variable i
no_more : (n m : ℕ) → n ≡ 0 → n - m ≡ 0
no_more n m h = omega arith

still_term : (i k : ℕ) (t : Term) → k < 3 → IsTerm t → exponent t.e i ≡ 0 → derivative i (derivative k (term_value t)) ≡ nil
still_term i k t h a x = go (exponent t.e k) refl where
  go : (m : ℕ) → exponent t.e k ≡ m → derivative i (derivative k (term_value t)) ≡ nil
  go zero y = ap (derivative i) (vanishes k t y) ∙ derivative-nil i
  go (suc m) y =
      let w = lowered_at k m t.e h a.three y in
      let c = mul (natural fractions (suc m)) (fraction_of t.c) in
      ap (derivative i) (derivative_term k (suc m) t (set t.e k m) y w) ∙ vanishes_monomial i c (set t.e k m) (w.exponents i ∙ no_more (exponent t.e i) (delta k i) x)

still_twice : (d i k : ℕ) (ts : List Term) → k < 3 → AreTerms ts → d ≤ i → VariablesBelow d ts → derivative i (derivative k (value_of ts)) ≡ nil
still_twice d i k [] h a l v = ap (derivative i) (derivative-nil k) ∙ derivative-nil i
still_twice d i k (t ∷ ts) h a l v =
    ap (derivative i) (derivative-plus k (term_value t) (value_of ts)) ∙ derivative-plus i (derivative k (term_value t)) (derivative k (value_of ts))
    ∙ ap₂ plus (still_term i k t h a.0 (v.0 i l)) (still_twice d i k ts h a.1 l v.1) ∙ plus-nil nil

pub derivative_variables : (d k : ℕ) (ts out : List Term) → k < 3 → IsPoly ts → IsPoly out → value_of out ≡ derivative k (value_of ts) → VariablesBelow d ts → VariablesBelow d out
derivative_variables d k ts out h a p e v = variables_are d out p (λ i l. ap (derivative i) e ∙ still_twice d i k ts h a.terms l v)

-- ---- a constant, and a variable
pub in_constant : (i : ℕ) → exponent (0 ∷ 0 ∷ 0 ∷ []) i ≡ 0
in_constant zero = refl
in_constant (suc zero) = refl
in_constant (suc (suc zero)) = refl
in_constant (suc (suc (suc i))) = refl

pub in_first : (k d i : ℕ) (e : List ℕ) → e ≡ 1 ∷ 0 ∷ 0 ∷ [] → k ≡ 0 → k < d → d ≤ i → exponent e i ≡ 0
in_first k d zero e h g l m = absurd (omega arith)
in_first k d (suc i) e h g l m = ap (λ f. exponent f (suc i)) h ∙ in_constant (suc i)

pub in_second : (k d i : ℕ) (e : List ℕ) → e ≡ 0 ∷ 1 ∷ 0 ∷ [] → k ≡ 1 → k < d → d ≤ i → exponent e i ≡ 0
in_second k d zero e h g l m = absurd (omega arith)
in_second k d (suc zero) e h g l m = absurd (omega arith)
in_second k d (suc (suc i)) e h g l m = ap (λ f. exponent f (suc (suc i))) h ∙ in_constant (suc (suc i))

pub in_third : (k d i : ℕ) (e : List ℕ) → e ≡ 0 ∷ 0 ∷ 1 ∷ [] → k ≡ 2 → k < d → d ≤ i → exponent e i ≡ 0
in_third k d zero e h g l m = absurd (omega arith)
in_third k d (suc zero) e h g l m = absurd (omega arith)
in_third k d (suc (suc zero)) e h g l m = absurd (omega arith)
in_third k d (suc (suc (suc i))) e h g l m = ap (λ f. exponent f (suc (suc (suc i)))) h ∙ in_constant (suc (suc (suc i)))

-- ---- written exponents
pub only_first : (a i : ℕ) → 1 ≤ i → exponent (a ∷ 0 ∷ 0 ∷ []) i ≡ 0
only_first a zero h = absurd (omega arith)
only_first a (suc i) h = in_constant (suc i)

pub only_two : (a b i : ℕ) → 2 ≤ i → exponent (a ∷ b ∷ 0 ∷ []) i ≡ 0
only_two a b zero h = absurd (omega arith)
only_two a b (suc zero) h = absurd (omega arith)
only_two a b (suc (suc i)) h = in_constant (suc (suc i))

pub only_three : (a b c i : ℕ) → 3 ≤ i → exponent (a ∷ b ∷ c ∷ []) i ≡ 0
only_three a b c zero h = absurd (omega arith)
only_three a b c (suc zero) h = absurd (omega arith)
only_three a b c (suc (suc zero)) h = absurd (omega arith)
only_three a b c (suc (suc (suc i))) h = in_constant (suc (suc (suc i)))
