-- The change of variables on intervals
use Rattle.std.proofs.Common.{◌≡◌, ℕ, zero, suc, refl, sym, ◌∙◌, ap, ap₂, [], ◌∷◌}
use Rattle.algebra.specs.Ring.{Ring, natural}
use Rattle.algebra.specs.RingLaws as L
use Rattle.algebra.specs.Solver.{at, ◌⊕◌, ◌⊗◌, ◌⊖◌}
use Rattle.algebra.specs.Sound as Solve
use Rattle.calculus.specs.Powers.{none, delta}
use Rattle.calculus.specs.OverRing.{Polynomial, ring, constant, coordinate, derivative, constant-IsRingMap, replaced, antiderivative, instead}
use Rattle.calculus.proofs.WrittenOut.{minus, difference, length_of, at_value, interval, along}
use Rattle.calculus.specs.Field.{Field}
use Rattle.calculus.proofs.OverRingLaws as C
use Rattle.calculus.proofs.Antiderivative as J

module _ {R : Type 0} (K : Ring R) (Q : Field K) where
  abbrev A : Ring (Polynomial K)
  A = ring K

  abbrev anti : ℕ → Polynomial K → Polynomial K
  anti i p = antiderivative K Q.division i p

  abbrev d : ℕ → Polynomial K → Polynomial K
  d i p = derivative K i p

  abbrev ▹ : (ℕ → Polynomial K) → Polynomial K → Polynomial K
  ▹ s p = replaced K s p

  pub constant-zero : constant K K.zero ≡ A.zero
  constant-zero = C.monomial-zero K none

  pub constant-neg : (a : R) → constant K (K.neg a) ≡ A.neg (constant K a)
  constant-neg a =
      L.neg-unique A (constant K a) (constant K (K.neg a))
      (sym ((constant-IsRingMap K).adds (K.neg a) a) ∙ ap (constant K) (L.neg-add K a) ∙ constant-zero)

  pub constant-minus : (a b : R) → constant K (minus K Q a b) ≡ difference K Q (constant K a) (constant K b)
  constant-minus a b = (constant-IsRingMap K).adds a (K.neg b) ∙ ap (A.add (constant K a)) (constant-neg b)

  pub replaced-zero : (s : ℕ → Polynomial K) → ▹ s A.zero ≡ A.zero
  replaced-zero s = ap (▹ s) (sym constant-zero) ∙ C.replaced-constant K s K.zero ∙ constant-zero

  pub replaced-neg : (s : ℕ → Polynomial K) (p : Polynomial K) → ▹ s (A.neg p) ≡ A.neg (▹ s p)
  replaced-neg s p = L.neg-unique A (▹ s p) (▹ s (A.neg p)) (sym (C.replaced-add K s (A.neg p) p) ∙ ap (▹ s) (L.neg-add A p) ∙ replaced-zero s)

  -- the integral of a derivative
  pub interval-derivative : (a b : R) (q : Polynomial K) → interval K Q a b (d 0 q) ≡ difference K Q (at_value K Q b q) (at_value K Q a q)
  unfolding interval
  interval-derivative a b q =
      Solve.ring A (left b ∷ left a ∷ none_left ∷ [])
      (at 0 ⊖ at 1) ((at 0 ⊕ at 2) ⊖ (at 1 ⊕ at 2)) refl
      ∙ ap₂ (difference K Q) (whole b) (whole a)
    where
      left : R → Polynomial K
      left c = at_value K Q c (anti 0 (d 0 q))

      none_left : Polynomial K
      none_left = J.cut K Q.division 0 q

      twice : (c : R) → at_value K Q c (J.cut K Q.division 0 q) ≡ J.cut K Q.division 0 q
      twice c = C.replaced-replaced K (instead K 0 (constant K c)) (instead K 0 A.zero) q ∙ C.replaced-same K _ _ at_each q
        where
          at_each : (i : ℕ) → ▹ (instead K 0 (constant K c)) (instead K 0 A.zero i) ≡ instead K 0 A.zero i
          at_each zero = replaced-zero (instead K 0 (constant K c))
          at_each (suc i) = C.replaced-coordinate K (instead K 0 (constant K c)) (suc i)

      whole : (c : R) → A.add (left c) none_left ≡ at_value K Q c q
      whole c = ap (A.add (left c)) (sym (twice c)) ∙ sym (C.replaced-add K _ _ _) ∙ ap (at_value K Q c) (J.anti-derivative K Q.division 0 q)

  pub interval-add : (a b : R) (p q : Polynomial K) → interval K Q a b (A.add p q) ≡ A.add (interval K Q a b p) (interval K Q a b q)
  unfolding interval
  interval-add a b p q =
      ap₂ (difference K Q) (both b) (both a)
      ∙ Solve.ring A (at_value K Q b (anti 0 p) ∷ at_value K Q b (anti 0 q) ∷ at_value K Q a (anti 0 p) ∷ at_value K Q a (anti 0 q) ∷ [])
      ((at 0 ⊕ at 1) ⊖ (at 2 ⊕ at 3)) ((at 0 ⊖ at 2) ⊕ (at 1 ⊖ at 3)) refl
    where
      both : (c : R) → at_value K Q c (anti 0 (A.add p q)) ≡ A.add (at_value K Q c (anti 0 p)) (at_value K Q c (anti 0 q))
      both c = ap (at_value K Q c) (J.anti-add K Q.division 0 p q) ∙ C.replaced-add K _ _ _

  pub interval-scaled : (a b c : R) (p : Polynomial K) → interval K Q a b (A.mul (constant K c) p) ≡ A.mul (constant K c) (interval K Q a b p)
  unfolding interval
  interval-scaled a b c p =
      ap₂ (difference K Q) (out b) (out a)
      ∙ Solve.ring A (constant K c ∷ at_value K Q b (anti 0 p) ∷ at_value K Q a (anti 0 p) ∷ []) (at 0 ⊗ at 1 ⊖ at 0 ⊗ at 2) (at 0 ⊗ (at 1 ⊖ at 2)) refl
    where
      out : (e : R) → at_value K Q e (anti 0 (A.mul (constant K c) p)) ≡ A.mul (constant K c) (at_value K Q e (anti 0 p))
      out e = ap (at_value K Q e) (J.anti-scaled K Q.division 0 c p) ∙ C.replaced-mul K _ _ _ ∙ ap (λ x. A.mul x (at_value K Q e (anti 0 p))) (C.replaced-constant K _ c)

  pub derivative-coordinate_other : (i j : ℕ) → delta j i ≡ 0 → d i (coordinate K j) ≡ A.zero
  derivative-coordinate_other i j h = C.derivative-coordinate K i j ∙ ap (λ n. constant K (natural K n)) h ∙ constant-zero

  pub derivative-coordinate_own : (i : ℕ) → delta i i ≡ 1 → d i (coordinate K i) ≡ A.one
  derivative-coordinate_own i h = C.derivative-coordinate K i i ∙ ap (λ n. constant K (natural K n)) h ∙ ap (constant K) (K.add_zero K.one)

  -- of a variable times a constant
  pub derivative-slope : (i j : ℕ) (c : R) → d i (A.mul (coordinate K j) (constant K c)) ≡ A.mul (d i (coordinate K j)) (constant K c)
  derivative-slope i j c =
      C.derivative-mul K i (coordinate K j) (constant K c)
      ∙ ap (A.add (A.mul (d i (coordinate K j)) (constant K c))) (ap (A.mul (coordinate K j)) (C.derivative-constant K i c) ∙ L.mul-zero A _)
      ∙ A.add_zero _

  slope : (a b : R) → d 0 (along K Q a b 0) ≡ constant K (length_of K Q a b)
  slope a b =
      C.derivative-add K 0 _ _
      ∙ ap₂ A.add (C.derivative-constant K 0 a) (derivative-slope 0 0 (length_of K Q a b) ∙ ap (λ x. A.mul x (constant K (length_of K Q a b))) (derivative-coordinate_own 0 refl) ∙ L.one-mul A _)
      ∙ L.zero-add A _

  along_derivative : (a b : R) (p : Polynomial K) → d 0 (▹ (along K Q a b) p) ≡ A.mul (▹ (along K Q a b) (d 0 p)) (constant K (length_of K Q a b))
  along_derivative a b p =
      C.chain K (along K Q a b) 0 (λ i. derivative-coordinate_other 0 (suc (suc (suc i))) refl) p
      ∙ C.combined_same K _ _ _ refl refl refl
      ∙ ap₂ A.add (ap (A.mul (▹ (along K Q a b) (d 0 p))) (slope a b))
      (ap₂ A.add (ap (A.mul (▹ (along K Q a b) (d 1 p))) (derivative-coordinate_other 0 1 refl) ∙ L.mul-zero A _)
      (ap (A.mul (▹ (along K Q a b) (d 2 p))) (derivative-coordinate_other 0 2 refl) ∙ L.mul-zero A _)
      ∙ A.add_zero A.zero)
      ∙ A.add_zero _

  end_of_line : (a b c e : R) → K.add a (K.mul c (minus K Q b a)) ≡ e → (p : Polynomial K) → at_value K Q c (▹ (along K Q a b) p) ≡ at_value K Q e p
  end_of_line a b c e h p = C.replaced-replaced K (instead K 0 (constant K c)) (along K Q a b) p ∙ C.replaced-same K _ _ at_each p
    where
      at_each : (i : ℕ) → ▹ (instead K 0 (constant K c)) (along K Q a b i) ≡ instead K 0 (constant K e) i
      at_each zero =
          C.replaced-add K _ _ _
          ∙ ap₂ A.add (C.replaced-constant K _ a) (C.replaced-mul K _ _ _ ∙ ap₂ A.mul (C.replaced-coordinate K (instead K 0 (constant K c)) 0) (C.replaced-constant K _ _))
          ∙ sym (ap (constant K) (sym h) ∙ (constant-IsRingMap K).adds a _ ∙ ap (A.add (constant K a)) ((constant-IsRingMap K).multiplies c _))
      at_each (suc i) = C.replaced-coordinate K (instead K 0 (constant K c)) (suc i)

  -- the law of change of variables for intervals
  pub interval_law : (a b : R) (p : Polynomial K) → interval K Q a b p ≡ A.mul (constant K (length_of K Q a b)) (interval K Q K.zero K.one (▹ (along K Q a b) p))
  interval_law a b p =
      ap (interval K Q a b) (sym (J.derivative-anti K Q.division 0 p))
      ∙ interval-derivative a b (anti 0 p)
      ∙ ap₂ (difference K Q) (sym (end_of_line a b K.one b (ap (K.add a) (L.one-mul K _) ∙ Solve.ring K (a ∷ b ∷ []) (at 0 ⊕ (at 1 ⊖ at 0)) (at 1) refl) (anti 0 p)))
      (sym (end_of_line a b K.zero a (ap (K.add a) (L.zero-mul K _) ∙ K.add_zero a) (anti 0 p)))
      ∙ sym (interval-derivative K.zero K.one (▹ (along K Q a b) (anti 0 p)))
      ∙ ap (interval K Q K.zero K.one)
      (along_derivative a b (anti 0 p)
      ∙ ap (λ x. A.mul (▹ (along K Q a b) x) (constant K (length_of K Q a b))) (J.derivative-anti K Q.division 0 p)
      ∙ A.mul_comm _ _)
      ∙ interval-scaled K.zero K.one (length_of K Q a b) (▹ (along K Q a b) p)

  pub constant-times : (a b : R) → constant K (K.mul a b) ≡ A.mul (constant K a) (constant K b)
  constant-times a b = (constant-IsRingMap K).multiplies a b

  pub derivative-neg : (i : ℕ) (p : Polynomial K) → d i (A.neg p) ≡ A.neg (d i p)
  derivative-neg i p = L.neg-unique A (d i p) (d i (A.neg p)) (sym (C.derivative-add K i (A.neg p) p) ∙ ap (d i) (L.neg-add A p ∙ sym constant-zero) ∙ C.derivative-constant K i K.zero)
