-- Laws of the derivative and of values
use Rattle.std.proofs.Common.{◌≡◌, ℕ, zero, suc, ◌+◌, ◌<◌, refl, sym, ◌∙◌, ap, ap₂, subst, [], ◌∷◌, pos}
use Rattle.algebra.specs.Ring.{Ring, additive, natural}
use Rattle.algebra.specs.RingLaws as L
use Rattle.algebra.specs.GroupLaws as S
use Rattle.algebra.specs.IntegerMap as I
use Rattle.algebra.specs.Solver.{at, num, ◌⊕◌, ◌⊗◌}
use Rattle.algebra.specs.Sound as Solve
use Rattle.calculus.specs.Free as F
use Rattle.calculus.specs.Free.{nothing}
use Rattle.calculus.specs.Product as P
use Rattle.calculus.specs.Powers as W
use Rattle.calculus.specs.Powers.{Powers, none, some, Tail, top, next, powers, power_of, lower, times, tail_times, variable, variable_tail, delta}
use Rattle.calculus.specs.OverRing.{Polynomial, ring, monomial, constant, coordinate, derivative, derivative_terms, raised, tail_value, powers_value, IsRingMap, value, value_terms, constant-IsRingMap, replaced}
use native.Mathlib.Nat.{zero-lt-suc}
use native.Mathlib.Nat as N

module _ {R : Type 0} (K : Ring R) where
  abbrev A : Ring (Polynomial K)
  A = ring K

  -- a term with coefficient zero is nothing
  pub monomial-zero : (e : Powers) → monomial K K.zero e ≡ A.zero
  monomial-zero e =
      S.zero_from_double (additive A) (monomial K K.zero e)
      (ap (λ c. monomial K c e) (sym (K.add_zero K.zero)) ∙ F.mono-add (additive K) powers.exponents K.zero K.zero e)

  pub derivative-add : (i : ℕ) (p q : Polynomial K) → derivative K i (A.add p q) ≡ A.add (derivative K i p) (derivative K i q)
  unfolding derivative
  derivative-add i = F.extended-plus (additive K) powers.exponents (additive A) _ (derivative_terms K i)

  pub derivative-monomial : (i : ℕ) (c : R) (e : Powers) → derivative K i (monomial K c e) ≡ monomial K (K.mul (natural K (power_of e i)) c) (lower i e)
  unfolding derivative
  derivative-monomial i = F.extended-mono (additive K) powers.exponents (additive A) _ (derivative_terms K i)

  part_left : (i : ℕ) (e f : Powers) (c d : R) (n : ℕ) → power_of e i ≡ n
      → monomial K (K.mul (K.mul (natural K n) c) d) (times (lower i e) f) ≡ monomial K (K.mul (natural K n) (K.mul c d)) (lower i (times e f))
  part_left i e f c d zero h =
      ap (λ x. monomial K x (times (lower i e) f)) (ap (λ x. K.mul x d) (L.zero-mul K c) ∙ L.zero-mul K d)
      ∙ monomial-zero (times (lower i e) f)
      ∙ sym (ap (λ x. monomial K x (lower i (times e f))) (L.zero-mul K (K.mul c d)) ∙ monomial-zero (lower i (times e f)))
  part_left i e f c d (suc n) h =
      ap₂ (monomial K) (K.mul_assoc (natural K (suc n)) c d) (sym (W.lower-times i e f (subst (λ m. 0 < m) (sym h) (zero-lt-suc n))))

  derivative-mul_terms : (i : ℕ) (c : R) (e : Powers) (d : R) (f : Powers)
      → derivative K i (A.mul (monomial K c e) (monomial K d f)) ≡ A.add (A.mul (derivative K i (monomial K c e)) (monomial K d f)) (A.mul (monomial K c e) (derivative K i (monomial K d f)))
  derivative-mul_terms i c e d f =
      ap (derivative K i) (P.term-mul-term K powers c e d f)
      ∙ derivative-monomial i (K.mul c d) (times e f)
      ∙ ap (λ x. monomial K x (lower i (times e f)))
      (ap (λ x. K.mul x (K.mul c d)) (ap (natural K) (W.power_of-times e f i) ∙ I.natural-add K (power_of e i) (power_of f i))
      ∙ L.add-mul K (natural K (power_of e i)) (natural K (power_of f i)) (K.mul c d))
      ∙ F.mono-add (additive K) powers.exponents _ _ (lower i (times e f))
      ∙ ap₂ A.add
      (sym (part_left i e f c d (power_of e i) refl)
      ∙ sym (ap (λ x. A.mul x (monomial K d f)) (derivative-monomial i c e) ∙ P.term-mul-term K powers (K.mul (natural K (power_of e i)) c) (lower i e) d f))
      (ap₂ (monomial K) (ap (K.mul (natural K (power_of f i))) (K.mul_comm c d)) (ap (lower i) (W.times_comm e f))
      ∙ sym (part_left i f e d c (power_of f i) refl)
      ∙ ap₂ (monomial K) (K.mul_comm _ _) (W.times_comm (lower i f) e)
      ∙ sym (ap (A.mul (monomial K c e)) (derivative-monomial i d f) ∙ P.term-mul-term K powers c e (K.mul (natural K (power_of f i)) d) (lower i f)))

  sum_additive : (f g : Polynomial K → Polynomial K) → ((s t : Polynomial K) → f (A.add s t) ≡ A.add (f s) (f t)) → ((s t : Polynomial K) → g (A.add s t) ≡ A.add (g s) (g t))
      → (s t : Polynomial K) → A.add (f (A.add s t)) (g (A.add s t)) ≡ A.add (A.add (f s) (g s)) (A.add (f t) (g t))
  sum_additive f g hf hg s t = ap₂ A.add (hf s t) (hg s t) ∙ L.add_medial A (f s) (f t) (g s) (g t)

  -- the product rule
  pub derivative-mul : (i : ℕ) (p q : Polynomial K) → derivative K i (A.mul p q) ≡ A.add (A.mul (derivative K i p) q) (A.mul p (derivative K i q))
  derivative-mul i p q =
      P.same_on_terms K powers (λ p. derivative K i (A.mul p q)) (λ p. A.add (A.mul (derivative K i p) q) (A.mul p (derivative K i q)))
      (λ s t. ap (derivative K i) (L.add-mul A s t q) ∙ derivative-add i (A.mul s q) (A.mul t q))
      (sum_additive (λ p. A.mul (derivative K i p) q) (λ p. A.mul p (derivative K i q))
      (λ s t. ap (λ x. A.mul x q) (derivative-add i s t) ∙ L.add-mul A _ _ q)
      (λ s t. L.add-mul A s t _))
      (λ c e. P.same_on_terms K powers (λ q. derivative K i (A.mul (monomial K c e) q)) (λ q. A.add (A.mul (derivative K i (monomial K c e)) q) (A.mul (monomial K c e) (derivative K i q)))
      (λ s t. ap (derivative K i) (A.mul_add (monomial K c e) s t) ∙ derivative-add i _ _)
      (sum_additive (λ q. A.mul (derivative K i (monomial K c e)) q) (λ q. A.mul (monomial K c e) (derivative K i q))
      (A.mul_add (derivative K i (monomial K c e)))
      (λ s t. ap (A.mul (monomial K c e)) (derivative-add i s t) ∙ A.mul_add (monomial K c e) _ _))
      (derivative-mul_terms i c e)
      q)
      p

  pub derivative-constant : (i : ℕ) (c : R) → derivative K i (constant K c) ≡ A.zero
  derivative-constant i c = derivative-monomial i c none ∙ ap (λ x. monomial K x none) (L.zero-mul K c) ∙ monomial-zero none

  -- 1 for the variable itself, else 0
  pub derivative-coordinate : (i j : ℕ) → derivative K i (coordinate K j) ≡ constant K (natural K (delta j i))
  derivative-coordinate i j =
      derivative-monomial i K.one (variable j)
      ∙ ap (λ x. monomial K x (lower i (variable j))) (K.mul_one _ ∙ ap (natural K) (W.power_of-variable j i))
      ∙ go (delta j i) refl
    where
      go : (n : ℕ) → delta j i ≡ n → monomial K (natural K n) (lower i (variable j)) ≡ monomial K (natural K n) none
      go zero h = monomial-zero (lower i (variable j)) ∙ sym (monomial-zero none)
      go (suc n) h = ap (monomial K (natural K (suc n))) (W.lower_own i j n h)

  -- ---- what holds of constants and variables, and of sums and products, holds of each polynomial
  pub polynomial_ind : (Q : Polynomial K → Type 0) → ((p : Polynomial K) → IsProp (Q p)) → ((c : R) → Q (constant K c)) → ((i : ℕ) → Q (coordinate K i))
      → ((p q : Polynomial K) → Q p → Q q → Q (A.add p q)) → ((p q : Polynomial K) → Q p → Q q → Q (A.mul p q)) → (p : Polynomial K) → Q p
  polynomial_ind Q prop hc hv ha hm =
      F.sum_ind (additive K) powers.exponents Q prop (subst Q (monomial-zero none) (hc K.zero))
      (λ c e s h. ha (monomial K c e) s (subst Q (split c e) (hm (constant K c) (monomial K K.one e) (hc c) (ones e))) h)
    where
      split : (c : R) (e : Powers) → A.mul (constant K c) (monomial K K.one e) ≡ monomial K c e
      split c e = P.term-mul-term K powers c none K.one e ∙ ap (λ x. monomial K x e) (K.mul_one c)

      ones : (e : Powers) → Q (monomial K K.one e)
      ones = W.powers_ind (λ e. Q (monomial K K.one e)) (hc K.one)
          (λ i e h. subst Q (P.term-mul-term K powers K.one (variable i) K.one e ∙ ap (λ x. monomial K x (times (variable i) e)) (K.mul_one K.one)) (hm (coordinate K i) (monomial K K.one e) (hv i) h))

  -- ---- values
  module _ {B : Type 0} (V : Ring B) where
    raised-add : (b : B) (m n : ℕ) → raised K V b (m + n) ≡ V.mul (raised K V b m) (raised K V b n)
    raised-add b zero n = ap (raised K V b) (N.zero-add n) ∙ sym (L.one-mul V _)
    raised-add b (suc m) n = ap (raised K V b) (N.suc-add m n) ∙ ap (V.mul b) (raised-add b m n) ∙ sym (V.mul_assoc _ _ _)

    tail_value-times : (s : ℕ → B) (t u : Tail) → tail_value K V s (tail_times t u) ≡ V.mul (tail_value K V s t) (tail_value K V s u)
    tail_value-times s (top a) (top b) =
        ap (λ n. raised K V (s 0) (suc n)) (sym (N.suc-add a b)) ∙ ap (V.mul (s 0)) (raised-add (s 0) (suc a) b) ∙ L.mul_left_comm V _ _ _
    tail_value-times s (top a) (next b u) = ap (λ x. V.mul x (tail_value K V (λ i. s (suc i)) u)) (raised-add (s 0) (suc a) b) ∙ V.mul_assoc _ _ _
    tail_value-times s (next a t) (top b) =
        ap (λ x. V.mul x (tail_value K V (λ i. s (suc i)) t)) (raised-add (s 0) a (suc b)) ∙ L.mul_right_comm V _ _ _
    tail_value-times s (next a t) (next b u) =
        ap₂ V.mul (raised-add (s 0) a b) (tail_value-times (λ i. s (suc i)) t u) ∙ L.mul_medial V _ _ _ _

    pub powers_value-times : (s : ℕ → B) (e f : Powers) → powers_value K V s (times e f) ≡ V.mul (powers_value K V s e) (powers_value K V s f)
    powers_value-times s none f = sym (L.one-mul V _)
    powers_value-times s (some t) none = sym (V.mul_one _)
    powers_value-times s (some t) (some u) = tail_value-times s t u

    pub powers_value-variable : (i : ℕ) (s : ℕ → B) → powers_value K V s (variable i) ≡ s i
    powers_value-variable zero s = V.mul_one (s 0)
    powers_value-variable (suc i) s = L.one-mul V _ ∙ powers_value-variable i (λ j. s (suc j))

    module _ (f : R → B) (H : IsRingMap K V f) (s : ℕ → B) where
      pub value-add : (p q : Polynomial K) → value K V f H s (A.add p q) ≡ V.add (value K V f H s p) (value K V f H s q)
      unfolding value
      value-add = F.extended-plus (additive K) powers.exponents (additive V) _ (value_terms K V f H s)

      pub value-monomial : (c : R) (e : Powers) → value K V f H s (monomial K c e) ≡ V.mul (f c) (powers_value K V s e)
      unfolding value
      value-monomial = F.extended-mono (additive K) powers.exponents (additive V) _ (value_terms K V f H s)

      pub value-constant : (c : R) → value K V f H s (constant K c) ≡ f c
      value-constant c = value-monomial c none ∙ V.mul_one (f c)

      pub value-coordinate : (i : ℕ) → value K V f H s (coordinate K i) ≡ s i
      value-coordinate i = value-monomial K.one (variable i) ∙ ap₂ V.mul H.unit (powers_value-variable i s) ∙ L.one-mul V (s i)

      pub value-mul : (p q : Polynomial K) → value K V f H s (A.mul p q) ≡ V.mul (value K V f H s p) (value K V f H s q)
      value-mul p q =
          F.same_maps (additive K) powers.exponents (additive V) (λ p. value K V f H s (A.mul p q)) (λ p. V.mul (value K V f H s p) (value K V f H s q))
          (λ a b. ap (value K V f H s) (L.add-mul A a b q) ∙ value-add _ _)
          (λ a b. ap (λ x. V.mul x (value K V f H s q)) (value-add a b) ∙ L.add-mul V _ _ _)
          (λ c e. F.same_maps (additive K) powers.exponents (additive V) (λ q. value K V f H s (A.mul (monomial K c e) q)) (λ q. V.mul (value K V f H s (monomial K c e)) (value K V f H s q))
          (λ a b. ap (value K V f H s) (A.mul_add (monomial K c e) a b) ∙ value-add _ _)
          (λ a b. ap (V.mul (value K V f H s (monomial K c e))) (value-add a b) ∙ V.mul_add _ _ _)
          (λ d g. ap (value K V f H s) (P.term-mul-term K powers c e d g) ∙ value-monomial (K.mul c d) (times e g)
          ∙ ap₂ V.mul (H.multiplies c d) (powers_value-times s e g) ∙ L.mul_medial V _ _ _ _
          ∙ sym (ap₂ V.mul (value-monomial c e) (value-monomial d g)))
          q)
          p

  -- ---- maps of rings that agree on constants and variables agree
  pub same_ring_maps : {B : Type 0} (V : Ring B) (f g : Polynomial K → B) → IsRingMap A V f → IsRingMap A V g
      → ((c : R) → f (constant K c) ≡ g (constant K c)) → ((i : ℕ) → f (coordinate K i) ≡ g (coordinate K i)) → (p : Polynomial K) → f p ≡ g p
  same_ring_maps V f g hf hg hc hv =
      polynomial_ind (λ p. f p ≡ g p) (λ p. V.is_set (f p) (g p)) hc hv
      (λ p q hp hq. hf.adds p q ∙ ap₂ V.add hp hq ∙ sym (hg.adds p q))
      (λ p q hp hq. hf.multiplies p q ∙ ap₂ V.mul hp hq ∙ sym (hg.multiplies p q))

  pub replaced-add : (s : ℕ → Polynomial K) (p q : Polynomial K) → replaced K s (A.add p q) ≡ A.add (replaced K s p) (replaced K s q)
  replaced-add s = value-add A (constant K) (constant-IsRingMap K) s

  pub replaced-mul : (s : ℕ → Polynomial K) (p q : Polynomial K) → replaced K s (A.mul p q) ≡ A.mul (replaced K s p) (replaced K s q)
  replaced-mul s = value-mul A (constant K) (constant-IsRingMap K) s

  pub replaced-constant : (s : ℕ → Polynomial K) (c : R) → replaced K s (constant K c) ≡ constant K c
  replaced-constant s = value-constant A (constant K) (constant-IsRingMap K) s

  pub replaced-coordinate : (s : ℕ → Polynomial K) (i : ℕ) → replaced K s (coordinate K i) ≡ s i
  replaced-coordinate s = value-coordinate A (constant K) (constant-IsRingMap K) s

  pub replaced-IsRingMap : (s : ℕ → Polynomial K) → IsRingMap A A (replaced K s)
  replaced-IsRingMap s = record {
    adds = replaced-add s;
    multiplies = replaced-mul s;
    unit = replaced-constant s K.one;
  }

  -- one replacement after another
  pub replaced-replaced : (s t : ℕ → Polynomial K) (p : Polynomial K) → replaced K s (replaced K t p) ≡ replaced K (λ i. replaced K s (t i)) p
  replaced-replaced s t =
      same_ring_maps A (λ p. replaced K s (replaced K t p)) (replaced K (λ i. replaced K s (t i)))
      (record {
        adds = λ p q. ap (replaced K s) (replaced-add t p q) ∙ replaced-add s _ _;
        multiplies = λ p q. ap (replaced K s) (replaced-mul t p q) ∙ replaced-mul s _ _;
        unit = ap (replaced K s) (replaced-constant t K.one) ∙ replaced-constant s K.one;
      })
      (replaced-IsRingMap (λ i. replaced K s (t i)))
      (λ c. ap (replaced K s) (replaced-constant t c) ∙ replaced-constant s c ∙ sym (replaced-constant (λ i. replaced K s (t i)) c))
      (λ i. ap (replaced K s) (replaced-coordinate t i) ∙ sym (replaced-coordinate (λ i. replaced K s (t i)) i))

  pub replaced-same : (s t : ℕ → Polynomial K) → ((i : ℕ) → s i ≡ t i) → (p : Polynomial K) → replaced K s p ≡ replaced K t p
  replaced-same s t h =
      same_ring_maps A (replaced K s) (replaced K t) (replaced-IsRingMap s) (replaced-IsRingMap t)
      (λ c. replaced-constant s c ∙ sym (replaced-constant t c)) (λ i. replaced-coordinate s i ∙ h i ∙ sym (replaced-coordinate t i))

  -- ---- the chain rule: along d, where only the variables 0, 1 and 2 are replaced by what d moves
  abbrev pub chain_sum : (ℕ → Polynomial K) → ℕ → Polynomial K → Polynomial K
  chain_sum s j p =
      A.add (A.mul (replaced K s (derivative K 0 p)) (derivative K j (s 0)))
      (A.add (A.mul (replaced K s (derivative K 1 p)) (derivative K j (s 1)))
      (A.mul (replaced K s (derivative K 2 p)) (derivative K j (s 2))))

  pub constant-natural : (n : ℕ) → constant K (natural K n) ≡ natural A n
  constant-natural zero = monomial-zero none
  constant-natural (suc n) = F.mono-add (additive K) powers.exponents K.one (natural K n) none ∙ ap (A.add A.one) (constant-natural n)

  combined : (u v w x y z : Polynomial K) → Polynomial K
  combined u v w x y z = A.add (A.mul x u) (A.add (A.mul y v) (A.mul z w))

  pub combined_same : (u v w : Polynomial K) {x x' y y' z z' : Polynomial K} → x ≡ x' → y ≡ y' → z ≡ z' → A.add (A.mul x u) (A.add (A.mul y v) (A.mul z w)) ≡ A.add (A.mul x' u) (A.add (A.mul y' v) (A.mul z' w))
  combined_same u v w a b c = ap₂ A.add (ap (λ x. A.mul x u) a) (ap₂ A.add (ap (λ x. A.mul x v) b) (ap (λ x. A.mul x w) c))

  moved_coordinate : (s : ℕ → Polynomial K) (i m : ℕ) → replaced K s (derivative K i (coordinate K m)) ≡ natural A (delta m i)
  moved_coordinate s i m = ap (replaced K s) (derivative-coordinate i m) ∙ replaced-constant s _ ∙ constant-natural (delta m i)

  moved_constant : (s : ℕ → Polynomial K) (i : ℕ) (c : R) → replaced K s (derivative K i (constant K c)) ≡ A.zero
  moved_constant s i c = ap (replaced K s) (derivative-constant i c ∙ sym (monomial-zero none)) ∙ replaced-constant s K.zero ∙ monomial-zero none

  moved_sum : (s : ℕ → Polynomial K) (i : ℕ) (p q : Polynomial K) → replaced K s (derivative K i (A.add p q)) ≡ A.add (replaced K s (derivative K i p)) (replaced K s (derivative K i q))
  moved_sum s i p q = ap (replaced K s) (derivative-add i p q) ∙ replaced-add s _ _

  moved_product : (s : ℕ → Polynomial K) (i : ℕ) (p q : Polynomial K)
      → replaced K s (derivative K i (A.mul p q)) ≡ A.add (A.mul (replaced K s (derivative K i p)) (replaced K s q)) (A.mul (replaced K s p) (replaced K s (derivative K i q)))
  moved_product s i p q = ap (replaced K s) (derivative-mul i p q) ∙ replaced-add s _ _ ∙ ap₂ A.add (replaced-mul s _ _) (replaced-mul s _ _)

  chain_constant : (s : ℕ → Polynomial K) (j : ℕ) (c : R) → derivative K j (replaced K s (constant K c)) ≡ chain_sum s j (constant K c)
  chain_constant s j c =
      ap (derivative K j) (replaced-constant s c) ∙ derivative-constant j c
      ∙ Solve.ring A (derivative K j (s 0) ∷ derivative K j (s 1) ∷ derivative K j (s 2) ∷ [])
      (num (pos 0)) (num (pos 0) ⊗ at 0 ⊕ (num (pos 0) ⊗ at 1 ⊕ num (pos 0) ⊗ at 2)) refl
      ∙ sym (combined_same (derivative K j (s 0)) (derivative K j (s 1)) (derivative K j (s 2)) (moved_constant s 0 c) (moved_constant s 1 c) (moved_constant s 2 c))

  chain_coordinate : (s : ℕ → Polynomial K) (j : ℕ) → ((i : ℕ) → derivative K j (s (suc (suc (suc i)))) ≡ A.zero)
      → (i : ℕ) → derivative K j (s i) ≡ combined (derivative K j (s 0)) (derivative K j (s 1)) (derivative K j (s 2)) (natural A (delta i 0)) (natural A (delta i 1)) (natural A (delta i 2))
  unfolding combined
  chain_coordinate s j still zero =
      Solve.ring A (derivative K j (s 0) ∷ derivative K j (s 1) ∷ derivative K j (s 2) ∷ []) (at 0) (num (pos 1) ⊗ at 0 ⊕ (num (pos 0) ⊗ at 1 ⊕ num (pos 0) ⊗ at 2)) refl
  chain_coordinate s j still (suc zero) =
      Solve.ring A (derivative K j (s 0) ∷ derivative K j (s 1) ∷ derivative K j (s 2) ∷ []) (at 1) (num (pos 0) ⊗ at 0 ⊕ (num (pos 1) ⊗ at 1 ⊕ num (pos 0) ⊗ at 2)) refl
  chain_coordinate s j still (suc (suc zero)) =
      Solve.ring A (derivative K j (s 0) ∷ derivative K j (s 1) ∷ derivative K j (s 2) ∷ []) (at 2) (num (pos 0) ⊗ at 0 ⊕ (num (pos 0) ⊗ at 1 ⊕ num (pos 1) ⊗ at 2)) refl
  chain_coordinate s j still (suc (suc (suc i))) =
      still i
      ∙ Solve.ring A (derivative K j (s 0) ∷ derivative K j (s 1) ∷ derivative K j (s 2) ∷ []) (num (pos 0)) (num (pos 0) ⊗ at 0 ⊕ (num (pos 0) ⊗ at 1 ⊕ num (pos 0) ⊗ at 2)) refl

  pub chain : (s : ℕ → Polynomial K) (j : ℕ) → ((i : ℕ) → derivative K j (s (suc (suc (suc i)))) ≡ A.zero)
      → (p : Polynomial K) → derivative K j (replaced K s p) ≡ chain_sum s j p
  unfolding combined
  chain s j still =
      polynomial_ind (λ p. derivative K j (replaced K s p) ≡ chain_sum s j p) (λ p. A.is_set _ _) (chain_constant s j)
      (λ i. ap (derivative K j) (replaced-coordinate s i) ∙ chain_coordinate s j still i ∙ sym (combined_same u v w (moved_coordinate s 0 i) (moved_coordinate s 1 i) (moved_coordinate s 2 i)))
      (λ p q hp hq. ap (derivative K j) (replaced-add s p q) ∙ derivative-add j _ _ ∙ ap₂ A.add hp hq
      ∙ Solve.ring A (u ∷ v ∷ w ∷ a 0 p ∷ a 1 p ∷ a 2 p ∷ a 0 q ∷ a 1 q ∷ a 2 q ∷ [])
      ((at 3 ⊗ at 0 ⊕ (at 4 ⊗ at 1 ⊕ at 5 ⊗ at 2)) ⊕ (at 6 ⊗ at 0 ⊕ (at 7 ⊗ at 1 ⊕ at 8 ⊗ at 2)))
      ((at 3 ⊕ at 6) ⊗ at 0 ⊕ ((at 4 ⊕ at 7) ⊗ at 1 ⊕ (at 5 ⊕ at 8) ⊗ at 2)) refl
      ∙ sym (combined_same u v w (moved_sum s 0 p q) (moved_sum s 1 p q) (moved_sum s 2 p q)))
      (λ p q hp hq. ap (derivative K j) (replaced-mul s p q) ∙ derivative-mul j _ _
      ∙ ap₂ A.add (ap (λ x. A.mul x (replaced K s q)) hp) (ap (A.mul (replaced K s p)) hq)
      ∙ Solve.ring A (u ∷ v ∷ w ∷ a 0 p ∷ a 1 p ∷ a 2 p ∷ a 0 q ∷ a 1 q ∷ a 2 q ∷ replaced K s p ∷ replaced K s q ∷ [])
      ((at 3 ⊗ at 0 ⊕ (at 4 ⊗ at 1 ⊕ at 5 ⊗ at 2)) ⊗ at 10 ⊕ at 9 ⊗ (at 6 ⊗ at 0 ⊕ (at 7 ⊗ at 1 ⊕ at 8 ⊗ at 2)))
      ((at 3 ⊗ at 10 ⊕ at 9 ⊗ at 6) ⊗ at 0 ⊕ ((at 4 ⊗ at 10 ⊕ at 9 ⊗ at 7) ⊗ at 1 ⊕ (at 5 ⊗ at 10 ⊕ at 9 ⊗ at 8) ⊗ at 2)) refl
      ∙ sym (combined_same u v w (moved_product s 0 p q) (moved_product s 1 p q) (moved_product s 2 p q)))
    where
      u : Polynomial K
      u = derivative K j (s 0)

      v : Polynomial K
      v = derivative K j (s 1)

      w : Polynomial K
      w = derivative K j (s 2)

      a : ℕ → Polynomial K → Polynomial K
      a i p = replaced K s (derivative K i p)
