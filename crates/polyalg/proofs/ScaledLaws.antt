-- Multiples, term by term
use Rattle.std.proofs.Common.{◌≤◌, ◌≡◌, ℕ, ◌+◌, ◌-◌, ◌<◌, true, false, ◌||◌, Some, None, List, [], ◌∷◌, ◌++◌, refl, sym, ap, ap₂, ◌∙◌, subst, arith, length, take, drop, length-drop, get_or, drop-cons, add-one}
use Rattle.std.proofs.lemmas.List.{take_all}
use Rattle.algebra.specs.Fraction.{Fraction, mul_comm}
use Rattle.algebra.specs.RingLaws as L
use Rattle.algebra.specs.Steps.{product}
use Rattle.ratio.specs.declared.reduced.Ratio.{Ratio}
use Rattle.ratio.specs.Value.{fraction_of}
use Rattle.calculus.specs.Polynomial.{Polynomial, plus, times, constant, monomial, polynomials, plus_assoc, times-plus}
use Rattle.polyalg.specs.Exponents.{key}
use Rattle.polyalg.specs.Terms.{term_value, value_of, Rising, keys_and, IsTerm, AreTerms, IsPoly, kept}
use Rattle.polyalg.specs.Products.{degree_of}
use Rattle.polyalg.specs.Range.{product_passes}
use Rattle.polyalg.specs.declared.term.Term.{Term}
use Rattle.polyalg.proofs.MappedLaws.{Mapped, mapped_begin, mapped_value, mapped_passes, mapped_degree}
use Rattle.polyalg.proofs.MonomialLaws.{monomial-scaled}
use Rattle.polyalg.proofs.SortedLaws.{value_of-kept, terms_kept, degree_kept, rising_kept, rising_front}
use Rattle.polyalg.proofs.StepLaws.{product_is, some_is_not_none, none_is_none}

-- the terms that are left
pub first_left : (ts : List Term) (i : ℕ) (t : Term) → i < length ts → t ≡ get_or ts i t → drop i ts ≡ t ∷ drop (i + 1) ts
first_left ts i t h e = drop-cons ts i t h ∙ ap₂ ◌∷◌ (sym e) (ap (λ n. drop n ts) (sym (add-one i)))

-- the tail that a slice lends
pub tail_is : (ts : List Term) (i : ℕ) → take (length ts - i) (drop i ts) ≡ drop i ts
tail_is ts i = take_all (length ts - i) (drop i ts) (omega (arith, length-drop i ts))

pub two_tails : (out mid next ts us : List Term) (i j : ℕ) → mid ≡ out ++ take (length ts - i) (drop i ts) → next ≡ mid ++ take (length us - j) (drop j us)
    → next ≡ (out ++ drop i ts) ++ drop j us
two_tails out mid next ts us i j e f = f ∙ ap₂ ◌++◌ (e ∙ ap (λ l. out ++ l) (tail_is ts i)) (tail_is us j)

pub first_term : (left rest : List Term) (t : Term) → left ≡ t ∷ rest → AreTerms left → IsTerm t
first_term left rest t e a = let r : AreTerms (t ∷ rest) = subst AreTerms e a in r.0

-- how far a multiple has come
abbrev pub Scaled : Fraction → List Term → List Term → List Term → Type 0
Scaled c = Mapped (times (constant c)) (product_passes c) 0

pub scaled_begin : (c : Fraction) (out all : List Term) → out ≡ [] → IsPoly all → Scaled c out all all
scaled_begin c = mapped_begin (times (constant c)) (product_passes c) 0

collect : (a b c d e : Polynomial) → plus a (plus b c) ≡ e → d ≡ plus a b → plus d c ≡ e
collect a b c d e h k = ap (λ x. plus x c) k ∙ plus_assoc a b c ∙ h

scaled_term : (c : Fraction) (t : Term) (x : Ratio) → product (fraction_of t.c) c ≡ Some (fraction_of x)
    → times (constant c) (term_value t) ≡ term_value (record { e = t.e; c = x })
scaled_term c t x h =
    monomial-scaled c (fraction_of t.c) t.e ∙ ap (λ y. monomial y t.e) (mul_comm c (fraction_of t.c) ∙ sym (product_is (fraction_of t.c) c (fraction_of x) h))

pub scaled_step : (c : Fraction) (out left all next rest : List Term) (t : Term) (x : Ratio) → left ≡ t ∷ rest → product (fraction_of t.c) c ≡ Some (fraction_of x)
    → next ≡ kept out (record { e = t.e; c = x }) → Scaled c out left all → Scaled c next rest all
scaled_step c out left all next rest t x is h n s =
    let u : Term = record { e = t.e; c = x } in
    let r : AreTerms (t ∷ rest) = subst AreTerms is s.remain in
    record {
      value =
          collect (value_of out) (term_value u) (times (constant c) (value_of rest)) (value_of next) (times (constant c) (value_of all))
          (ap (plus (value_of out)) (ap (λ y. plus y (times (constant c) (value_of rest))) (sym (scaled_term c t x h)) ∙ sym (times-plus (constant c) (term_value t) (value_of rest)) ∙ ap (λ ts. times (constant c) (value_of ts)) (sym is)) ∙ s.value)
          (ap value_of n ∙ value_of-kept out u);
      passes = ap (λ b. b || product_passes c rest) (sym (some_is_not_none (product (fraction_of t.c) c) (fraction_of x) h)) ∙ ap (product_passes c) (sym is) ∙ s.passes;
      rising = subst (λ ts. Rising (keys_and 0 ts ++ keys_and 0 rest)) (sym n) (rising_kept 0 out u (key t.e + 0) (keys_and 0 rest) refl (subst (λ ts. Rising (keys_and 0 out ++ keys_and 0 ts)) is s.rising));
      there = subst AreTerms (sym n) (terms_kept out u s.there (λ z. record { three = r.0.three; small = r.0.small; some = z }));
      remain = r.1;
      degree = omega (arith, s.degree, ap degree_of n, degree_kept out u, ap degree_of is);
    }

pub scaled_fails : (c : Fraction) (out left all rest : List Term) (t : Term) → left ≡ t ∷ rest → product (fraction_of t.c) c ≡ None
    → Scaled c out left all → product_passes c all ≡ true
scaled_fails c out left all rest t is h s =
    sym s.passes ∙ ap (product_passes c) is ∙ ap (λ b. b || product_passes c rest) (none_is_none (product (fraction_of t.c) c) h)

pub scaled_value : (c : Fraction) (out left all : List Term) → left ≡ [] → Scaled c out left all → value_of out ≡ times (constant c) (value_of all)
scaled_value c = mapped_value (times (constant c)) (product_passes c) 0 (L.mul-zero polynomials (constant c))

pub scaled_passes : (c : Fraction) (out left all : List Term) → left ≡ [] → Scaled c out left all → product_passes c all ≡ false
scaled_passes c = mapped_passes (times (constant c)) (product_passes c) 0

pub scaled_lawful : (c : Fraction) (out left all : List Term) → Scaled c out left all → IsPoly out
scaled_lawful c out left all s = record { sorted = rising_front (keys_and 0 out) (keys_and 0 left) s.rising; terms = s.there }

pub scaled_degree : (c : Fraction) (out left all : List Term) → Scaled c out left all → degree_of out ≤ degree_of all
scaled_degree c = mapped_degree (times (constant c)) (product_passes c) 0
