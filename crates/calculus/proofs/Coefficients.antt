-- The coefficients of the powers 0 and 1 of a variable
use Rattle.std.proofs.Common.{◌≡◌, ℕ, zero, suc, ◌-◌, refl, sym, ◌∙◌, ap, ap₂, [], ◌∷◌, pos, arith}
use Rattle.algebra.specs.Ring.{Ring, additive, natural}
use Rattle.algebra.specs.RingLaws as L
use Rattle.algebra.specs.Solver.{at, num, ◌⊕◌, ◌⊗◌, unity}
use Rattle.algebra.specs.Sound as Solve
use Rattle.calculus.specs.Free as F
use Rattle.calculus.specs.Product as P
use Rattle.calculus.specs.Powers as W
use Rattle.calculus.specs.Powers.{Powers, none, some, powers, power_of, lower, times, variable, delta}
use Rattle.calculus.specs.OverRing.{Polynomial, ring, monomial, constant, coordinate, derivative, instead, pick, kept, kept-add, coefficient_of}
use Rattle.calculus.specs.Field.{Division}
use Rattle.calculus.proofs.OverRingLaws as C
use Rattle.calculus.proofs.Antiderivative as J

absent_power : (t j : ℕ) (f : ℕ → ℕ) → f t ≡ 0 → f j - delta t j ≡ f j
absent_power zero zero f h = omega arith
absent_power zero (suc j) f h = omega arith
absent_power (suc t) zero f h = omega arith
absent_power (suc t) (suc j) f h = absent_power t j (λ k. f (suc k)) h

module _ {R : Type 0} (K : Ring R) (D : Division K) where
  abbrev A : Ring (Polynomial K)
  A = ring K

  pub coefficient-add : (t n : ℕ) (p q : Polynomial K) → coefficient_of K t n (A.add p q) ≡ A.add (coefficient_of K t n p) (coefficient_of K t n q)
  unfolding coefficient_of
  coefficient-add t n = F.extended-plus (additive K) powers.exponents (additive A) _ (λ a b e. kept-add K n (power_of e t) a b (lower t e))

  coefficient-monomial : (t n : ℕ) (c : R) (e : Powers) → coefficient_of K t n (monomial K c e) ≡ kept K n (power_of e t) c (lower t e)
  unfolding coefficient_of
  coefficient-monomial t n = F.extended-mono (additive K) powers.exponents (additive A) _ (λ a b e. kept-add K n (power_of e t) a b (lower t e))

  lower_absent : (t : ℕ) (e : Powers) → power_of e t ≡ 0 → lower t e ≡ e
  lower_absent t e h = W.same_powers (lower t e) e (λ j. W.power_of-lower t e j ∙ absent_power t j (power_of e) h)

  lowered_power : (t : ℕ) (e : Powers) (n : ℕ) → power_of e t ≡ n → power_of (lower t e) t ≡ n - 1
  lowered_power t e n h = W.power_of-lower t e t ∙ ap (λ k. power_of e t - k) (W.delta_self t) ∙ ap (λ k. k - 1) h

  -- the power 0: what is left where the variable is zero
  pub coefficient_zero : (t : ℕ) (p : Polynomial K) → coefficient_of K t 0 p ≡ J.cut K D t p
  coefficient_zero t =
      P.same_on_terms K powers (coefficient_of K t 0) (J.cut K D t) (coefficient-add t 0) (C.replaced-add K (instead K t A.zero))
      (λ c e. coefficient-monomial t 0 c e ∙ go c e (power_of e t) refl ∙ sym (J.cut-monomial K D t c e))
    where
      go : (c : R) (e : Powers) (n : ℕ) → power_of e t ≡ n → kept K 0 n c (lower t e) ≡ pick K n A.zero (monomial K c e)
      go c e zero h = ap (monomial K c) (lower_absent t e h)
      go c e (suc n) h = refl

  -- the power 1: the derivative where the variable is zero
  pub coefficient_one : (t : ℕ) (p : Polynomial K) → coefficient_of K t 1 p ≡ J.cut K D t (derivative K t p)
  coefficient_one t =
      P.same_on_terms K powers (coefficient_of K t 1) (λ p. J.cut K D t (derivative K t p)) (coefficient-add t 1)
      (λ p q. ap (J.cut K D t) (C.derivative-add K t p q) ∙ C.replaced-add K (instead K t A.zero) _ _)
      (λ c e. coefficient-monomial t 1 c e ∙ go c e (power_of e t) refl ∙ sym (ap (J.cut K D t) (C.derivative-monomial K t c e) ∙ J.cut-monomial K D t _ (lower t e)))
    where
      go : (c : R) (e : Powers) (n : ℕ) → power_of e t ≡ n
          → kept K 1 n c (lower t e) ≡ pick K (power_of (lower t e) t) A.zero (monomial K (K.mul (natural K n) c) (lower t e))
      go c e zero h =
          sym (ap (λ x. monomial K x (lower t e)) (L.zero-mul K c) ∙ C.monomial-zero K (lower t e))
          ∙ ap (λ k. pick K k A.zero (monomial K (K.mul (natural K 0) c) (lower t e))) (sym (lowered_power t e 0 h))
      go c e (suc zero) h =
          ap (λ x. monomial K x (lower t e)) (sym (ap (λ x. K.mul x c) (K.add_zero K.one) ∙ L.one-mul K c))
          ∙ ap (λ k. pick K k A.zero (monomial K (K.mul (natural K 1) c) (lower t e))) (sym (lowered_power t e 1 h))
      go c e (suc (suc n)) h =
          ap (λ k. pick K k A.zero (monomial K (K.mul (natural K (suc (suc n))) c) (lower t e))) (sym (lowered_power t e (suc (suc n)) h ∙ one_less n))
        where
          one_less : (n : ℕ) → suc (suc n) - 1 ≡ suc n
          one_less n = omega arith

  -- so the coefficient of a product follows from the product rule
  pub coefficient_of_product : (t : ℕ) (p q : Polynomial K)
      → coefficient_of K t 1 (A.mul p q) ≡ A.add (A.mul (coefficient_of K t 1 p) (coefficient_of K t 0 q)) (A.mul (coefficient_of K t 0 p) (coefficient_of K t 1 q))
  coefficient_of_product t p q =
      coefficient_one t (A.mul p q)
      ∙ ap (J.cut K D t) (C.derivative-mul K t p q)
      ∙ C.replaced-add K (instead K t A.zero) _ _
      ∙ ap₂ A.add
      (C.replaced-mul K (instead K t A.zero) _ _ ∙ sym (ap₂ A.mul (coefficient_one t p) (coefficient_zero t q)))
      (C.replaced-mul K (instead K t A.zero) _ _ ∙ sym (ap₂ A.mul (coefficient_zero t p) (coefficient_one t q)))

  -- ---- "variable t does not occur": its derivative is zero
  abbrev pub IsFree : ℕ → Polynomial K → Type 0
  IsFree t p = derivative K t p ≡ A.zero

  pub derivative-zero : (i : ℕ) → derivative K i A.zero ≡ A.zero
  derivative-zero i = ap (derivative K i) (sym (C.monomial-zero K none)) ∙ C.derivative-constant K i K.zero

  -- derivatives change places
  pub derivative_comm : (i j : ℕ) (p : Polynomial K) → derivative K i (derivative K j p) ≡ derivative K j (derivative K i p)
  derivative_comm i j =
      C.polynomial_ind K (λ p. derivative K i (derivative K j p) ≡ derivative K j (derivative K i p)) (λ p. A.is_set _ _)
      (λ c. ap (derivative K i) (C.derivative-constant K j c) ∙ derivative-zero i ∙ sym (ap (derivative K j) (C.derivative-constant K i c) ∙ derivative-zero j))
      (λ k. ap (derivative K i) (C.derivative-coordinate K j k) ∙ C.derivative-constant K i _ ∙ sym (ap (derivative K j) (C.derivative-coordinate K i k) ∙ C.derivative-constant K j _))
      (λ p q hp hq. ap (derivative K i) (C.derivative-add K j p q) ∙ C.derivative-add K i _ _ ∙ ap₂ A.add hp hq ∙ sym (ap (derivative K j) (C.derivative-add K i p q) ∙ C.derivative-add K j _ _))
      (λ p q hp hq.
      twice i j p q ∙ ap₂ (λ x y. A.add (A.add (A.mul x q) (A.mul (derivative K j p) (derivative K i q))) (A.add (A.mul (derivative K i p) (derivative K j q)) (A.mul p y))) hp hq
      ∙ Solve.ring A (derivative K j (derivative K i p) ∷ q ∷ derivative K j p ∷ derivative K i q ∷ derivative K i p ∷ derivative K j q ∷ p ∷ derivative K j (derivative K i q) ∷ [])
      ((at 0 ⊗ at 1 ⊕ at 2 ⊗ at 3) ⊕ (at 4 ⊗ at 5 ⊕ at 6 ⊗ at 7)) ((at 0 ⊗ at 1 ⊕ at 4 ⊗ at 5) ⊕ (at 2 ⊗ at 3 ⊕ at 6 ⊗ at 7)) refl
      ∙ sym (twice j i p q))
    where
      twice : (i j : ℕ) (p q : Polynomial K) → derivative K i (derivative K j (A.mul p q))
          ≡ A.add (A.add (A.mul (derivative K i (derivative K j p)) q) (A.mul (derivative K j p) (derivative K i q))) (A.add (A.mul (derivative K i p) (derivative K j q)) (A.mul p (derivative K i (derivative K j q))))
      twice i j p q = ap (derivative K i) (C.derivative-mul K j p q) ∙ C.derivative-add K i _ _ ∙ ap₂ A.add (C.derivative-mul K i _ _) (C.derivative-mul K i _ _)

  pub free-add : (t : ℕ) (p q : Polynomial K) → IsFree t p → IsFree t q → IsFree t (A.add p q)
  free-add t p q hp hq = C.derivative-add K t p q ∙ ap₂ A.add hp hq ∙ A.add_zero A.zero

  pub free-mul : (t : ℕ) (p q : Polynomial K) → IsFree t p → IsFree t q → IsFree t (A.mul p q)
  free-mul t p q hp hq =
      C.derivative-mul K t p q ∙ ap₂ (λ x y. A.add (A.mul x q) (A.mul p y)) hp hq ∙ Solve.ring A (p ∷ q ∷ []) (num (pos 0) ⊗ at 1 ⊕ at 0 ⊗ num (pos 0)) (num (pos 0)) refl

  pub free-derivative : (t i : ℕ) (p : Polynomial K) → IsFree t p → IsFree t (derivative K i p)
  free-derivative t i p h = derivative_comm t i p ∙ ap (derivative K i) h ∙ derivative-zero i

  -- where it does not occur, its value does not matter
  pub cut_free : (t : ℕ) (p : Polynomial K) → IsFree t p → J.cut K D t p ≡ p
  cut_free t p h =
      sym (L.zero-add A _) ∙ ap (λ x. A.add x (J.cut K D t p)) (sym (ap (J.anti K D t) h ∙ anti_zero)) ∙ J.anti-derivative K D t p
    where
      anti_zero : J.anti K D t A.zero ≡ A.zero
      anti_zero = L.add_right_cancel A _ _ (J.anti K D t A.zero) (sym (J.anti-add K D t A.zero A.zero) ∙ ap (J.anti K D t) (A.add_zero A.zero) ∙ sym (L.zero-add A _))

  -- ---- how the two coefficients go through the operations
  pub coefficient_zero_free : (t : ℕ) (p : Polynomial K) → IsFree t p → coefficient_of K t 0 p ≡ p
  coefficient_zero_free t p h = coefficient_zero t p ∙ cut_free t p h

  pub coefficient_one_free : (t : ℕ) (p : Polynomial K) → IsFree t p → coefficient_of K t 1 p ≡ A.zero
  coefficient_one_free t p h = coefficient_one t p ∙ ap (J.cut K D t) h ∙ cut_free t A.zero (derivative-zero t)

  pub coefficient_zero-mul : (t : ℕ) (p q : Polynomial K) → coefficient_of K t 0 (A.mul p q) ≡ A.mul (coefficient_of K t 0 p) (coefficient_of K t 0 q)
  coefficient_zero-mul t p q = coefficient_zero t (A.mul p q) ∙ C.replaced-mul K (instead K t A.zero) p q ∙ sym (ap₂ A.mul (coefficient_zero t p) (coefficient_zero t q))

  cut_commutes : (t i : ℕ) → delta i t ≡ 0 → (p : Polynomial K) → J.cut K D t (derivative K i p) ≡ derivative K i (J.cut K D t p)
  cut_commutes t i h p =
      L.add_right_cancel A _ _ (J.anti K D t (derivative K t (derivative K i p)))
      (A.add_comm _ _ ∙ J.anti-derivative K D t (derivative K i p)
      ∙ sym (ap (derivative K i) (J.anti-derivative K D t p))
      ∙ C.derivative-add K i _ _
      ∙ ap (λ x. A.add x (derivative K i (J.cut K D t p))) (sym (J.anti_commutes K D t i h (derivative K t p)) ∙ ap (J.anti K D t) (derivative_comm i t p))
      ∙ A.add_comm _ _)

  pub coefficient_zero-derivative : (t i : ℕ) → delta i t ≡ 0 → (p : Polynomial K) → coefficient_of K t 0 (derivative K i p) ≡ derivative K i (coefficient_of K t 0 p)
  coefficient_zero-derivative t i h p = coefficient_zero t (derivative K i p) ∙ cut_commutes t i h p ∙ ap (derivative K i) (sym (coefficient_zero t p))

  pub coefficient_one-derivative : (t i : ℕ) → delta i t ≡ 0 → (p : Polynomial K) → coefficient_of K t 1 (derivative K i p) ≡ derivative K i (coefficient_of K t 1 p)
  coefficient_one-derivative t i h p =
      coefficient_one t (derivative K i p) ∙ ap (J.cut K D t) (derivative_comm t i p) ∙ cut_commutes t i h (derivative K t p) ∙ ap (derivative K i) (sym (coefficient_one t p))

  pub coefficient_zero_itself : (t : ℕ) → coefficient_of K t 0 (coordinate K t) ≡ A.zero
  coefficient_zero_itself t = coefficient_zero t (coordinate K t) ∙ C.replaced-coordinate K (instead K t A.zero) t ∙ ap (λ n. pick K n A.zero (coordinate K t)) (W.delta_self t)

  pub coefficient_one_itself : (t : ℕ) → coefficient_of K t 1 (coordinate K t) ≡ A.one
  coefficient_one_itself t =
      coefficient_one t (coordinate K t)
      ∙ ap (J.cut K D t) (C.derivative-coordinate K t t ∙ ap (λ n. constant K (natural K n)) (W.delta_self t))
      ∙ C.replaced-constant K (instead K t A.zero) _ ∙ ap (constant K) (K.add_zero K.one)

  -- p + t * q, with t in neither
  pub coefficient_zero_line : (t : ℕ) (p q : Polynomial K) → IsFree t p → coefficient_of K t 0 (A.add p (A.mul (coordinate K t) q)) ≡ p
  coefficient_zero_line t p q hp =
      coefficient-add t 0 p _ ∙ ap₂ A.add (coefficient_zero_free t p hp) (coefficient_zero-mul t (coordinate K t) q ∙ ap (λ x. A.mul x (coefficient_of K t 0 q)) (coefficient_zero_itself t) ∙ L.zero-mul A _) ∙ A.add_zero p

  pub coefficient_one_line : (t : ℕ) (p q : Polynomial K) → IsFree t p → IsFree t q → coefficient_of K t 1 (A.add p (A.mul (coordinate K t) q)) ≡ q
  coefficient_one_line t p q hp hq =
      coefficient-add t 1 p _
      ∙ ap₂ A.add (coefficient_one_free t p hp)
      (coefficient_of_product t (coordinate K t) q
      ∙ ap₂ A.add (ap₂ A.mul (coefficient_one_itself t) (coefficient_zero_free t q hq)) (ap₂ A.mul (coefficient_zero_itself t) (coefficient_one_free t q hq)))
      ∙ Solve.ring A (q ∷ []) (num (pos 0) ⊕ (unity ⊗ at 0 ⊕ num (pos 0) ⊗ num (pos 0))) (at 0) refl

  pub coefficient-zero : (t n : ℕ) → coefficient_of K t n A.zero ≡ A.zero
  coefficient-zero t n =
      L.add_right_cancel A _ _ (coefficient_of K t n A.zero)
      (sym (coefficient-add t n A.zero A.zero) ∙ ap (coefficient_of K t n) (A.add_zero A.zero) ∙ sym (L.zero-add A _))

  pub coefficient-neg : (t n : ℕ) (p : Polynomial K) → coefficient_of K t n (A.neg p) ≡ A.neg (coefficient_of K t n p)
  coefficient-neg t n p =
      L.neg-unique A (coefficient_of K t n p) (coefficient_of K t n (A.neg p))
      (sym (coefficient-add t n (A.neg p) p) ∙ ap (coefficient_of K t n) (L.neg-add A p) ∙ coefficient-zero t n)
