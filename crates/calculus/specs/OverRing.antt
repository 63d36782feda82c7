-- Polynomials over any ring, in variables 0, 1, 2, ..: derivative, value, replacing variables, antiderivative, coefficients
use Rattle.std.specs.Prelude.{◌≡◌, ℕ, zero, suc}
use Rattle.algebra.specs.Ring.{Ring, additive, natural}
use Rattle.algebra.specs.RingLaws as L
use Rattle.calculus.specs.Field.{Division}
use Rattle.calculus.specs.Free as F
use Rattle.calculus.specs.Free.{Sum, mono, plus, sums, extended, nothing}
use Rattle.calculus.specs.Product as P
use Rattle.calculus.specs.Product.{Poly, term, polynomials, Additive}
use Rattle.calculus.specs.Powers.{Powers, none, some, Tail, top, next, powers, power_of, lower, times, variable, delta}
use mathlib.Core.Path.{refl, sym, ◌∙◌, ap}

module _ {R : Type 0} (K : Ring R) where
  abbrev pub Polynomial : Type 0
  Polynomial = Poly K powers

  abbrev pub ring : Ring Polynomial
  ring = polynomials K powers

  abbrev pub monomial : R → Powers → Polynomial
  monomial = term K powers

  abbrev pub constant : R → Polynomial
  constant c = monomial c none

  abbrev pub coordinate : ℕ → Polynomial
  coordinate i = monomial K.one (variable i)

  pub derivative_terms : (i : ℕ) (a b : R) (e : Powers)
      → monomial (K.mul (natural K (power_of e i)) (K.add a b)) (lower i e)
      ≡ ring.add (monomial (K.mul (natural K (power_of e i)) a) (lower i e)) (monomial (K.mul (natural K (power_of e i)) b) (lower i e))
  derivative_terms i a b e =
      ap (λ c. monomial c (lower i e)) (K.mul_add (natural K (power_of e i)) a b)
      ∙ F.mono-add (additive K) powers.exponents (K.mul (natural K (power_of e i)) a) (K.mul (natural K (power_of e i)) b) (lower i e)

  -- the partial derivative in variable i
  unfoldable pub derivative : ℕ → Polynomial → Polynomial
  derivative i = extended (additive K) powers.exponents (additive ring) (λ c e. monomial (K.mul (natural K (power_of e i)) c) (lower i e)) (derivative_terms i)

  -- ---- values in a ring over K
  module _ {B : Type 0} (V : Ring B) where
    abbrev pub raised : B → ℕ → B
    raised b zero = V.one
    raised b (suc n) = V.mul b (raised b n)

    -- the product of the values to their exponents
    abbrev pub tail_value : (ℕ → B) → Tail → B
    tail_value s (top n) = raised (s 0) (suc n)
    tail_value s (next n t) = V.mul (raised (s 0) n) (tail_value (λ i. s (suc i)) t)

    abbrev pub powers_value : (ℕ → B) → Powers → B
    powers_value s none = V.one
    powers_value s (some t) = tail_value s t

    -- the coefficients' image in B
    pub record IsRingMap (f : R → B) : Type 0 where
      pub adds : (a b : R) → f (K.add a b) ≡ V.add (f a) (f b)
      pub multiplies : (a b : R) → f (K.mul a b) ≡ V.mul (f a) (f b)
      pub unit : f K.one ≡ V.one

    module _ (f : R → B) (H : IsRingMap f) (s : ℕ → B) where
      pub value_terms : (a b : R) (e : Powers) → V.mul (f (K.add a b)) (powers_value s e) ≡ V.add (V.mul (f a) (powers_value s e)) (V.mul (f b) (powers_value s e))
      value_terms a b e = ap (λ x. V.mul x (powers_value s e)) (H.adds a b) ∙ L.add-mul V (f a) (f b) (powers_value s e)

      -- the value of a polynomial where the variables have the values s
      unfoldable pub value : Polynomial → B
      value = extended (additive K) powers.exponents (additive V) (λ c e. V.mul (f c) (powers_value s e)) value_terms

  -- constants make a ring map
  pub constant-IsRingMap : IsRingMap ring constant
  constant-IsRingMap = record {
    adds = λ a b. F.mono-add (additive K) powers.exponents a b none;
    multiplies = λ a b. sym (P.term-mul-term K powers a none b none);
    unit = refl;
  }

  -- variable i replaced by s i
  abbrev pub replaced : (ℕ → Polynomial) → Polynomial → Polynomial
  replaced s p = value ring constant constant-IsRingMap s p

module _ {R : Type 0} (K : Ring R) (D : Division K) where
  pub antiderivative_terms : (i : ℕ) (a b : R) (e : Powers)
      → monomial K (K.mul (K.add a b) (D.over (power_of e i))) (times (variable i) e)
      ≡ plus (additive K) powers.exponents (monomial K (K.mul a (D.over (power_of e i))) (times (variable i) e)) (monomial K (K.mul b (D.over (power_of e i))) (times (variable i) e))
  antiderivative_terms i a b e =
      ap (λ c. monomial K c (times (variable i) e)) (L.add-mul K a b (D.over (power_of e i)))
      ∙ F.mono-add (additive K) powers.exponents _ _ (times (variable i) e)

  -- the antiderivative in variable i that has no term of exponent 0 in it
  unfoldable pub antiderivative : ℕ → Polynomial K → Polynomial K
  antiderivative i = extended (additive K) powers.exponents (additive (ring K)) (λ c e. monomial K (K.mul c (D.over (power_of e i))) (times (variable i) e)) (antiderivative_terms i)

module _ {R : Type 0} (K : Ring R) where
  abbrev pub pick : ℕ → Polynomial K → Polynomial K → Polynomial K
  pick zero q p = p
  pick (suc n) q p = q

  -- variable i replaced by q, and the others kept
  abbrev pub instead : ℕ → Polynomial K → ℕ → Polynomial K
  instead i q j = pick (delta i j) q (coordinate K j)

-- ---- the coefficient of a power 0 or 1 of a variable
module _ {R : Type 0} (K : Ring R) where
  abbrev pub kept : ℕ → ℕ → R → Powers → Polynomial K
  kept zero zero c e = monomial K c e
  kept zero (suc m) c e = (ring K).zero
  kept (suc n) zero c e = (ring K).zero
  kept (suc n) (suc m) c e = kept n m c e

  pub kept-add : (n m : ℕ) (a b : R) (e : Powers) → kept n m (K.add a b) e ≡ (ring K).add (kept n m a e) (kept n m b e)
  kept-add zero zero a b e = F.mono-add (additive K) powers.exponents a b e
  kept-add zero (suc m) a b e = sym ((ring K).add_zero (ring K).zero)
  kept-add (suc n) zero a b e = sym ((ring K).add_zero (ring K).zero)
  kept-add (suc n) (suc m) a b e = kept-add n m a b e

  -- the terms with exponent n in variable t, without that factor: for n of 0 or 1
  unfoldable pub coefficient_of : ℕ → ℕ → Polynomial K → Polynomial K
  coefficient_of t n = extended (additive K) powers.exponents (additive (ring K)) (λ c e. kept n (power_of e t) c (lower t e)) (λ a b e. kept-add n (power_of e t) a b (lower t e))
