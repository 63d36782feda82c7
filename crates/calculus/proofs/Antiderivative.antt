-- Antiderivatives
use Rattle.std.proofs.Common.{◌≡◌, ℕ, zero, suc, ◌+◌, ◌-◌, ◌<◌, refl, sym, ◌∙◌, ap, ap₂, subst, arith}
use Rattle.algebra.specs.Ring.{Ring, additive, natural}
use Rattle.algebra.specs.RingLaws as L
use Rattle.calculus.specs.Free as F
use Rattle.calculus.specs.Free.{nothing}
use Rattle.calculus.specs.Product as P
use Rattle.calculus.specs.Powers as W
use Rattle.calculus.specs.Powers.{Powers, none, some, powers, power_of, lower, times, variable, delta}
use Rattle.calculus.specs.OverRing.{Polynomial, ring, monomial, constant, coordinate, derivative, powers_value, constant-IsRingMap, replaced, antiderivative, antiderivative_terms, pick, instead}
use Rattle.calculus.specs.Field.{Division}
use Rattle.calculus.proofs.OverRingLaws as C
use native.Mathlib.Nat.{zero-lt-suc}
use native.Mathlib.Nat as N

module _ {R : Type 0} (K : Ring R) (D : Division K) where
  abbrev A : Ring (Polynomial K)
  A = ring K

  abbrev pub anti : ℕ → Polynomial K → Polynomial K
  anti i p = antiderivative K D i p

  abbrev d : ℕ → Polynomial K → Polynomial K
  d i p = derivative K i p

  pub anti-add : (i : ℕ) (p q : Polynomial K) → anti i (A.add p q) ≡ A.add (anti i p) (anti i q)
  unfolding antiderivative
  anti-add i = F.extended-plus (additive K) powers.exponents (additive A) _ (antiderivative_terms K D i)

  pub anti-monomial : (i : ℕ) (c : R) (e : Powers) → anti i (monomial K c e) ≡ monomial K (K.mul c (D.over (power_of e i))) (times (variable i) e)
  unfolding antiderivative
  anti-monomial i = F.extended-mono (additive K) powers.exponents (additive A) _ (antiderivative_terms K D i)

  pub derivative-anti : (i : ℕ) (p : Polynomial K) → d i (anti i p) ≡ p
  derivative-anti i =
      P.same_on_terms K powers (λ p. d i (anti i p)) (λ p. p) (λ s t. ap (d i) (anti-add i s t) ∙ C.derivative-add K i _ _) (λ s t. refl)
      (λ c e. ap (d i) (anti-monomial i c e)
      ∙ C.derivative-monomial K i _ (times (variable i) e)
      ∙ ap₂ (monomial K)
      (ap (λ n. K.mul (natural K n) (K.mul c (D.over (power_of e i)))) (W.power_of-times (variable i) e i ∙ ap (λ n. n + power_of e i) (W.power_of-variable i i ∙ W.delta_self i) ∙ one_more (power_of e i))
      ∙ L.mul_left_comm K _ _ _ ∙ ap (K.mul c) (D.over-mul (power_of e i)) ∙ K.mul_one c)
      (W.lower-variable i e))
    where
      one_more : (n : ℕ) → 1 + n ≡ suc n
      one_more n = omega arith

  -- without the terms in which variable i occurs
  abbrev pub cut : ℕ → Polynomial K → Polynomial K
  cut i p = replaced K (instead K i A.zero) p

  pick_product : (m n : ℕ) (p q : Polynomial K) → A.mul (pick K m A.zero p) (pick K n A.zero q) ≡ pick K (m + n) A.zero (A.mul p q)
  pick_product zero zero p q = refl
  pick_product zero (suc n) p q = L.mul-zero A p ∙ ap (λ k. pick K k A.zero (A.mul p q)) (sym (N.zero-add (suc n)))
  pick_product (suc m) n p q = L.zero-mul A _ ∙ ap (λ k. pick K k A.zero (A.mul p q)) (sym (N.suc-add m n))

  pub cut_powers : (i : ℕ) (e : Powers) → powers_value K A (instead K i A.zero) e ≡ pick K (power_of e i) A.zero (monomial K K.one e)
  cut_powers i =
      W.powers_ind (λ e. powers_value K A (instead K i A.zero) e ≡ pick K (power_of e i) A.zero (monomial K K.one e))
      refl
      (λ k e h. C.powers_value-times K A (instead K i A.zero) (variable k) e
      ∙ ap₂ A.mul (C.powers_value-variable K A k (instead K i A.zero)) h
      ∙ pick_product (delta i k) (power_of e i) (coordinate K k) (monomial K K.one e)
      ∙ ap₂ (λ n p. pick K n A.zero p)
      (ap (λ n. n + power_of e i) (W.delta_sym i k ∙ sym (W.power_of-variable k i)) ∙ sym (W.power_of-times (variable k) e i))
      (P.term-mul-term K powers K.one (variable k) K.one e ∙ ap (λ c. monomial K c (times (variable k) e)) (K.mul_one K.one)))

  pub cut-monomial : (i : ℕ) (c : R) (e : Powers) → cut i (monomial K c e) ≡ pick K (power_of e i) A.zero (monomial K c e)
  cut-monomial i c e =
      C.value-monomial K A (constant K) (constant-IsRingMap K) (instead K i A.zero) c e
      ∙ ap (A.mul (constant K c)) (cut_powers i e)
      ∙ go (power_of e i)
    where
      go : (n : ℕ) → A.mul (constant K c) (pick K n A.zero (monomial K K.one e)) ≡ pick K n A.zero (monomial K c e)
      go zero = P.term-mul-term K powers c none K.one e ∙ ap (λ x. monomial K x e) (K.mul_one c)
      go (suc n) = L.mul-zero A (constant K c)

  -- the antiderivative of a derivative leaves out the terms in which the variable doesn't occur
  pub anti-derivative : (i : ℕ) (p : Polynomial K) → A.add (anti i (d i p)) (cut i p) ≡ p
  anti-derivative i =
      P.same_on_terms K powers (λ p. A.add (anti i (d i p)) (cut i p)) (λ p. p)
      (λ s t. ap₂ A.add (ap (anti i) (C.derivative-add K i s t) ∙ anti-add i _ _) (C.replaced-add K (instead K i A.zero) s t) ∙ L.add_medial A _ _ _ _)
      (λ s t. refl)
      (λ c e. ap₂ A.add (ap (anti i) (C.derivative-monomial K i c e) ∙ anti-monomial i _ (lower i e)) (cut-monomial i c e) ∙ go c e (power_of e i) refl)
    where
      one_less : (i : ℕ) (e : Powers) (n : ℕ) → power_of e i ≡ suc n → power_of (lower i e) i ≡ n
      one_less i e n h = W.power_of-lower i e i ∙ ap (λ k. power_of e i - k) (W.delta_self i) ∙ ap (λ k. k - 1) h ∙ back n
        where
          back : (n : ℕ) → suc n - 1 ≡ n
          back n = omega arith

      go : (c : R) (e : Powers) (n : ℕ) → power_of e i ≡ n
          → A.add (monomial K (K.mul (K.mul (natural K n) c) (D.over (power_of (lower i e) i))) (times (variable i) (lower i e))) (pick K n A.zero (monomial K c e)) ≡ monomial K c e
      go c e zero h =
          ap (λ x. A.add x (monomial K c e))
          (ap (λ x. monomial K x (times (variable i) (lower i e))) (ap (λ x. K.mul x (D.over (power_of (lower i e) i))) (L.zero-mul K c) ∙ L.zero-mul K _) ∙ C.monomial-zero K _)
          ∙ L.zero-add A _
      go c e (suc n) h =
          A.add_zero _
          ∙ ap₂ (monomial K)
          (ap (λ k. K.mul (K.mul (natural K (suc n)) c) (D.over k)) (one_less i e n h)
          ∙ L.mul_right_comm K _ _ _ ∙ ap (λ x. K.mul x c) (D.over-mul n) ∙ L.one-mul K c)
          (W.variable-lower i e (subst (λ m. 0 < m) (sym h) (zero-lt-suc n)))

  -- a constant factor stays
  pub anti-scaled : (i : ℕ) (c : R) (p : Polynomial K) → anti i (A.mul (constant K c) p) ≡ A.mul (constant K c) (anti i p)
  anti-scaled i c =
      P.same_on_terms K powers (λ p. anti i (A.mul (constant K c) p)) (λ p. A.mul (constant K c) (anti i p))
      (λ s t. ap (anti i) (A.mul_add (constant K c) s t) ∙ anti-add i _ _)
      (λ s t. ap (A.mul (constant K c)) (anti-add i s t) ∙ A.mul_add _ _ _)
      (λ b e. ap (anti i) (P.term-mul-term K powers c none b e) ∙ anti-monomial i _ e
      ∙ ap (λ x. monomial K x (times (variable i) e)) (K.mul_assoc c b (D.over (power_of e i)))
      ∙ sym (ap (A.mul (constant K c)) (anti-monomial i b e) ∙ P.term-mul-term K powers c none _ (times (variable i) e)))

  -- an antiderivative and a derivative in two variables change places
  pub anti_commutes : (i j : ℕ) → delta j i ≡ 0 → (p : Polynomial K) → anti i (d j p) ≡ d j (anti i p)
  anti_commutes i j apart =
      P.same_on_terms K powers (λ p. anti i (d j p)) (λ p. d j (anti i p))
      (λ s t. ap (anti i) (C.derivative-add K j s t) ∙ anti-add i _ _)
      (λ s t. ap (d j) (anti-add i s t) ∙ C.derivative-add K j _ _)
      (λ c e. ap (anti i) (C.derivative-monomial K j c e) ∙ anti-monomial i _ (lower j e)
      ∙ go c e (power_of e j) refl
      ∙ sym (ap (d j) (anti-monomial i c e) ∙ C.derivative-monomial K j _ (times (variable i) e)))
    where
      same_power : (e : Powers) → power_of (lower j e) i ≡ power_of e i
      same_power e = W.power_of-lower j e i ∙ ap (λ n. power_of e i - n) apart ∙ minus_zero (power_of e i)
        where
          minus_zero : (n : ℕ) → n - 0 ≡ n
          minus_zero n = omega arith

      raised_power : (e : Powers) → power_of (times (variable i) e) j ≡ power_of e j
      raised_power e = W.power_of-times (variable i) e j ∙ ap (λ n. n + power_of e j) (W.power_of-variable i j ∙ W.delta_sym i j ∙ apart) ∙ N.zero-add (power_of e j)

      go : (c : R) (e : Powers) (n : ℕ) → power_of e j ≡ n
          → monomial K (K.mul (K.mul (natural K (power_of e j)) c) (D.over (power_of (lower j e) i))) (times (variable i) (lower j e))
          ≡ monomial K (K.mul (natural K (power_of (times (variable i) e) j)) (K.mul c (D.over (power_of e i)))) (lower j (times (variable i) e))
      go c e zero h =
          ap (λ x. monomial K x (times (variable i) (lower j e))) (ap (λ n. K.mul (K.mul (natural K n) c) (D.over (power_of (lower j e) i))) h ∙ ap (λ x. K.mul x (D.over (power_of (lower j e) i))) (L.zero-mul K c) ∙ L.zero-mul K _)
          ∙ C.monomial-zero K _ ∙ sym (C.monomial-zero K (lower j (times (variable i) e)))
          ∙ ap (λ x. monomial K x (lower j (times (variable i) e))) (sym (ap (λ n. K.mul (natural K n) (K.mul c (D.over (power_of e i)))) (raised_power e ∙ h) ∙ L.zero-mul K _))
      go c e (suc n) h =
          ap₂ (monomial K)
          (ap (λ m. K.mul (K.mul (natural K (power_of e j)) c) (D.over m)) (same_power e) ∙ K.mul_assoc _ _ _ ∙ ap (λ m. K.mul (natural K m) (K.mul c (D.over (power_of e i)))) (sym (raised_power e)))
          (W.times_comm (variable i) (lower j e) ∙ sym (W.lower-times j e (variable i) (subst (λ m. 0 < m) (sym h) (zero-lt-suc n))) ∙ ap (lower j) (W.times_comm e (variable i)))
