-- The reference integrals of products of powers, by factorials
use Rattle.std.proofs.Common.{◌≡◌, ℕ, zero, suc, ◌+◌, ◌*◌, refl, sym, ◌∙◌, ap, ap₂, [], ◌∷◌, pos, arith}
use Rattle.algebra.specs.Ring.{Ring, natural}
use Rattle.algebra.specs.RingLaws as L
use Rattle.algebra.specs.IntegerMap as N
use Rattle.algebra.specs.Solver.{at, num, ◌⊕◌, ◌⊗◌, ◌⊖◌, unity, minus as opposite}
use Rattle.algebra.specs.Sound as Solve
use native.Mathlib.Nat as M
use Rattle.calculus.specs.OverRing.{Polynomial, ring, constant, coordinate, derivative, replaced, raised, instead}
use Rattle.calculus.specs.Field.{Field}
use Rattle.calculus.specs.LocalFunction.{factorial}
use Rattle.calculus.proofs.OverRingLaws as C
use Rattle.calculus.proofs.IntervalLaw as I
use Rattle.calculus.proofs.TriangleLaw as T
use Rattle.calculus.proofs.TetrahedronLaw as V

module _ {R : Type 0} (K : Ring R) (Q : Field K) where
  abbrev pub A : Ring (Polynomial K)
  A = ring K

  abbrev d : ℕ → Polynomial K → Polynomial K
  d i p = derivative K i p

  abbrev pub power : Polynomial K → ℕ → Polynomial K
  power p n = raised K A p n

  -- a whole number in the polynomials
  abbrev pub # : ℕ → Polynomial K
  # n = natural A n

  -- the derivative of a power
  power_rule : (i : ℕ) (p : Polynomial K) (n : ℕ) → d i (power p (suc n)) ≡ A.mul (# (suc n)) (A.mul (power p n) (d i p))
  power_rule i p zero =
      C.derivative-mul K i p A.one
      ∙ ap (λ x. A.add (A.mul (d i p) A.one) (A.mul p x)) (C.derivative-constant K i K.one)
      ∙ Solve.ring A (d i p ∷ p ∷ []) (at 0 ⊗ unity ⊕ at 1 ⊗ num (pos 0)) (num (pos 1) ⊗ (unity ⊗ at 0)) refl
  power_rule i p (suc n) =
      C.derivative-mul K i p (power p (suc n))
      ∙ ap (λ x. A.add (A.mul (d i p) (power p (suc n))) (A.mul p x)) (power_rule i p n)
      ∙ Solve.ring A (d i p ∷ p ∷ power p n ∷ # n ∷ []) (at 0 ⊗ (at 1 ⊗ at 2) ⊕ at 1 ⊗ ((unity ⊕ at 3) ⊗ (at 2 ⊗ at 0))) ((unity ⊕ (unity ⊕ at 3)) ⊗ ((at 1 ⊗ at 2) ⊗ at 0)) refl

  replaced_power : (s : ℕ → Polynomial K) (p : Polynomial K) (n : ℕ) → replaced K s (power p n) ≡ power (replaced K s p) n
  replaced_power s p zero = C.replaced-constant K s K.one
  replaced_power s p (suc n) = C.replaced-mul K s p (power p n) ∙ ap (A.mul (replaced K s p)) (replaced_power s p n)

  zero_power : (n : ℕ) → power A.zero (suc n) ≡ A.zero
  zero_power n = L.zero-mul A _

  zero_left : (p q : Polynomial K) → p ≡ A.zero → A.mul p q ≡ A.zero
  zero_left p q h = ap (λ x. A.mul x q) h ∙ L.zero-mul A q

  zero_right : (p q : Polynomial K) → q ≡ A.zero → A.mul p q ≡ A.zero
  zero_right p q h = ap (A.mul p) h ∙ L.mul-zero A p

  one_power : (n : ℕ) → power A.one n ≡ A.one
  one_power zero = refl
  one_power (suc n) = L.one-mul A _ ∙ one_power n

  same_power : {p q : Polynomial K} (n : ℕ) → p ≡ q → power p n ≡ power q n
  same_power n h = ap (λ x. power x n) h

  -- a factor that is not zero goes
  cancel : (n : ℕ) (p q : Polynomial K) → A.mul (# (suc n)) p ≡ A.mul (# (suc n)) q → p ≡ q
  cancel n p q h = sym (back p) ∙ ap (A.mul (constant K (Q.division.over n))) h ∙ back q
    where
      back : (x : Polynomial K) → A.mul (constant K (Q.division.over n)) (A.mul (# (suc n)) x) ≡ x
      back x =
          sym (A.mul_assoc _ _ _)
          ∙ ap (λ c. A.mul c x)
          (ap (A.mul (constant K (Q.division.over n))) (sym (C.constant-natural K (suc n)))
          ∙ sym (I.constant-times K Q (Q.division.over n) (natural K (suc n)))
          ∙ ap (λ c. constant K c) (K.mul_comm _ _ ∙ Q.division.over-mul n))
          ∙ L.one-mul A x

  -- whole numbers come out of an integral
  integral_whole : (n : ℕ) (p : Polynomial K) → T.unit_integral K Q (A.mul (# n) p) ≡ A.mul (# n) (T.unit_integral K Q p)
  integral_whole n p =
      ap (λ c. T.unit_integral K Q (A.mul c p)) (sym (C.constant-natural K n))
      ∙ I.interval-scaled K Q K.zero K.one (natural K n) p
      ∙ ap (λ c. A.mul c (T.unit_integral K Q p)) (C.constant-natural K n)

  abbrev pub X : Polynomial K
  X = coordinate K 0

  abbrev pub U : Polynomial K
  U = A.add A.one (A.neg X)

  abbrev pub beta : ℕ → ℕ → Polynomial K
  beta a b = T.unit_integral K Q (A.mul (power U a) (power X b))

  slope_of_X : d 0 X ≡ A.one
  slope_of_X = I.derivative-coordinate_own K Q 0 refl

  slope_of_U : d 0 U ≡ A.neg A.one
  slope_of_U =
      C.derivative-add K 0 A.one (A.neg X) ∙ ap₂ A.add (C.derivative-constant K 0 K.one) (I.derivative-neg K Q 0 X ∙ ap A.neg slope_of_X) ∙ L.zero-add A _

  at_end : (c : R) (u x : Polynomial K) → replaced K (instead K 0 (constant K c)) U ≡ u → constant K c ≡ x → (a b : ℕ)
      → replaced K (instead K 0 (constant K c)) (A.mul (power U a) (power X b)) ≡ A.mul (power u a) (power x b)
  at_end c u x hu hx a b =
      C.replaced-mul K _ _ _
      ∙ ap₂ A.mul (replaced_power _ U a ∙ same_power a hu) (replaced_power _ X b ∙ same_power b (C.replaced-coordinate K (instead K 0 (constant K c)) 0 ∙ hx))

  U_at : (c : R) → replaced K (instead K 0 (constant K c)) U ≡ A.add A.one (A.neg (constant K c))
  U_at c = C.replaced-add K _ A.one (A.neg X) ∙ ap₂ A.add (C.replaced-constant K _ K.one) (I.replaced-neg K Q _ X ∙ ap A.neg (C.replaced-coordinate K (instead K 0 (constant K c)) 0))

  U_at_one : replaced K (instead K 0 (constant K K.one)) U ≡ A.zero
  U_at_one = U_at K.one ∙ A.add_neg A.one

  beta_zero : (b : ℕ) → A.mul (# (suc b)) (beta 0 b) ≡ A.one
  beta_zero b =
      sym (integral_whole (suc b) _)
      ∙ ap (T.unit_integral K Q) (Solve.ring A (# b ∷ power X b ∷ []) ((unity ⊕ at 0) ⊗ (unity ⊗ at 1)) ((unity ⊕ at 0) ⊗ (at 1 ⊗ unity)) refl ∙ ap (λ s. A.mul (# (suc b)) (A.mul (power X b) s)) (sym slope_of_X) ∙ sym (power_rule 0 X b))
      ∙ I.interval-derivative K Q K.zero K.one (power X (suc b))
      ∙ ap₂ (λ p q. A.add p (A.neg q))
      (replaced_power _ X (suc b) ∙ same_power (suc b) (C.replaced-coordinate K (instead K 0 (constant K K.one)) 0) ∙ one_power (suc b))
      (replaced_power _ X (suc b) ∙ same_power (suc b) (C.replaced-coordinate K (instead K 0 (constant K K.zero)) 0 ∙ I.constant-zero K Q) ∙ zero_power b)
      ∙ Solve.ring A [] (unity ⊖ num (pos 0)) unity refl

  beta_next : (a b : ℕ) → A.mul (# (suc b)) (beta (suc a) b) ≡ A.mul (# (suc a)) (beta a (suc b))
  beta_next a b =
      Solve.ring_from A (A.mul (# (suc b)) (beta (suc a) b) ∷ A.mul (# (suc a)) (beta a (suc b)) ∷ []) (at 0) (at 1) (opposite unity) (at 1 ⊖ at 0) (num (pos 0))
      (ap₂ (λ p q. A.add p (A.neg q)) (sym (integral_whole (suc a) _)) (sym (integral_whole (suc b) _))
      ∙ sym (T.integral-difference K Q _ _)
      ∙ ap (T.unit_integral K Q)
      (Solve.ring A (# a ∷ # b ∷ power U a ∷ power X b ∷ U ∷ X ∷ [])
      ((unity ⊕ at 0) ⊗ (at 2 ⊗ (at 5 ⊗ at 3)) ⊖ (unity ⊕ at 1) ⊗ ((at 4 ⊗ at 2) ⊗ at 3))
      (opposite (((unity ⊕ at 0) ⊗ (at 2 ⊗ opposite unity)) ⊗ (at 5 ⊗ at 3) ⊕ (at 4 ⊗ at 2) ⊗ ((unity ⊕ at 1) ⊗ (at 3 ⊗ unity)))) refl
      ∙ ap A.neg
      (ap₂ (λ s t. A.add (A.mul (A.mul (# (suc a)) (A.mul (power U a) s)) (power X (suc b))) (A.mul (power U (suc a)) (A.mul (# (suc b)) (A.mul (power X b) t)))) (sym slope_of_U) (sym slope_of_X)
      ∙ ap₂ (λ s t. A.add (A.mul s (power X (suc b))) (A.mul (power U (suc a)) t)) (sym (power_rule 0 U a)) (sym (power_rule 0 X b))
      ∙ sym (C.derivative-mul K 0 (power U (suc a)) (power X (suc b)))))
      ∙ T.integral-neg K Q _
      ∙ ap A.neg
      (I.interval-derivative K Q K.zero K.one (A.mul (power U (suc a)) (power X (suc b)))
      ∙ ap₂ (λ p q. A.add p (A.neg q))
      (at_end K.one A.zero A.one U_at_one refl (suc a) (suc b) ∙ ap (λ x. A.mul x (power A.one (suc b))) (zero_power a) ∙ L.zero-mul A _)
      (at_end K.zero (A.add A.one (A.neg (constant K K.zero))) A.zero (U_at K.zero) (I.constant-zero K Q) (suc a) (suc b) ∙ ap (A.mul (power (A.add A.one (A.neg (constant K K.zero))) (suc a))) (zero_power b) ∙ L.mul-zero A _))
      ∙ Solve.ring A [] (opposite (num (pos 0) ⊖ num (pos 0))) (num (pos 0)) refl)
      refl

  whole-mul : (m n : ℕ) → # (m * n) ≡ A.mul (# m) (# n)
  whole-mul = N.natural-mul A

  -- (a + b + 1)! times the integral of (1 - x)^a x^b from 0 to 1
  pub beta_is : (a b : ℕ) → A.mul (# (factorial (a + suc b))) (beta a b) ≡ # (factorial a * factorial b)
  beta_is zero b =
      ap (λ n. A.mul (# (factorial n)) (beta 0 b)) (M.zero-add (suc b))
      ∙ ap (λ x. A.mul x (beta 0 b)) (whole-mul (suc b) (factorial b))
      ∙ Solve.ring_from A (# (suc b) ∷ # (factorial b) ∷ beta 0 b ∷ []) ((at 0 ⊗ at 1) ⊗ at 2) (at 1) (at 1) (at 0 ⊗ at 2) unity (beta_zero b) refl
      ∙ ap # (sym (M.one-mul (factorial b)))
  beta_is (suc a) b =
      cancel b _ _
      (ap (λ n. A.mul (# (suc b)) (A.mul (# (factorial n)) (beta (suc a) b))) (moved a b)
      ∙ Solve.ring_from A (# (suc b) ∷ # (factorial (a + suc (suc b))) ∷ beta (suc a) b ∷ # (suc a) ∷ beta a (suc b) ∷ []) (at 0 ⊗ (at 1 ⊗ at 2)) (at 3 ⊗ (at 1 ⊗ at 4)) (at 1) (at 0 ⊗ at 2) (at 3 ⊗ at 4) (beta_next a b) refl
      ∙ ap (A.mul (# (suc a))) (beta_is a (suc b))
      ∙ sym (whole-mul (suc a) (factorial a * factorial (suc b)))
      ∙ ap # (turned (suc a) (factorial a) (suc b) (factorial b))
      ∙ whole-mul (suc b) (factorial (suc a) * factorial b))
    where
      moved : (a b : ℕ) → suc a + suc b ≡ a + suc (suc b)
      moved a b = omega arith

      turned : (x p y q : ℕ) → x * (p * (y * q)) ≡ y * (x * p * q)
      turned x p y q = omega arith

  -- ---- the reference triangle
  abbrev pub Y : Polynomial K
  Y = coordinate K 1

  reference_whole : (n : ℕ) (p : Polynomial K) → T.reference K Q (A.mul (# n) p) ≡ A.mul (# n) (T.reference K Q p)
  reference_whole n p =
      ap (λ c. T.reference K Q (A.mul c p)) (sym (C.constant-natural K n)) ∙ T.reference-scaled K Q (natural K n) p ∙ ap (λ c. A.mul c (T.reference K Q p)) (C.constant-natural K n)

  constant_power : (i : ℕ) (p : Polynomial K) (n : ℕ) → d i p ≡ A.zero → d i (power p n) ≡ A.zero
  constant_power i p zero h = C.derivative-constant K i K.one
  constant_power i p (suc n) h = power_rule i p n ∙ ap (λ s. A.mul (# (suc n)) (A.mul (power p n) s)) h ∙ ap (A.mul (# (suc n))) (L.mul-zero A _) ∙ L.mul-zero A _

  triangle_step : (a b : ℕ) → A.mul (# (suc b)) (T.reference K Q (A.mul (power X a) (power Y b))) ≡ beta a (suc b)
  triangle_step a b =
      sym (reference_whole (suc b) _)
      ∙ ap (T.reference K Q)
      (Solve.ring A (# b ∷ power X a ∷ power Y b ∷ power Y (suc b) ∷ []) ((unity ⊕ at 0) ⊗ (at 1 ⊗ at 2)) (num (pos 0) ⊗ at 3 ⊕ at 1 ⊗ ((unity ⊕ at 0) ⊗ (at 2 ⊗ unity))) refl
      ∙ ap₂ (λ s t. A.add (A.mul s (power Y (suc b))) (A.mul (power X a) (A.mul (# (suc b)) (A.mul (power Y b) t)))) (sym (constant_power 1 X a (I.derivative-coordinate_other K Q 1 0 refl))) (sym (I.derivative-coordinate_own K Q 1 refl))
      ∙ ap (λ t. A.add (A.mul (d 1 (power X a)) (power Y (suc b))) (A.mul (power X a) t)) (sym (power_rule 1 Y b))
      ∙ sym (C.derivative-mul K 1 (power X a) (power Y (suc b))))
      ∙ T.reference_second K Q (A.mul (power X a) (power Y (suc b)))
      ∙ ap₂ (λ p q. A.add p (A.neg q))
      (ap (T.unit_integral K Q) (C.replaced-mul K _ _ _ ∙ ap₂ A.mul
      (replaced_power _ X a ∙ same_power a (C.replaced-coordinate K (T.segment K Q (T.e₁ K Q) (T.e₂ K Q)) 0 ∙ T.down K Q (T.o K Q) (T.o K Q) (T.o K Q)))
      (replaced_power _ Y (suc b) ∙ same_power (suc b) (C.replaced-coordinate K (T.segment K Q (T.e₁ K Q) (T.e₂ K Q)) 1 ∙ T.up K Q (T.o K Q) (T.o K Q) (T.o K Q)))))
      (ap (T.unit_integral K Q) (C.replaced-mul K _ _ _ ∙ ap (A.mul (replaced K (instead K 1 A.zero) (power X a))) (replaced_power _ Y (suc b) ∙ same_power (suc b) (C.replaced-coordinate K (instead K 1 A.zero) 1) ∙ zero_power b) ∙ L.mul-zero A _) ∙ T.integral-zero K Q)
      ∙ Solve.ring A (beta a (suc b) ∷ []) (at 0 ⊖ num (pos 0)) (at 0) refl

  -- (a + b + 2)! times the integral of x^a y^b over the reference triangle
  pub triangle_factorials : (a b : ℕ) → A.mul (# (factorial (a + suc (suc b)))) (T.reference K Q (A.mul (power X a) (power Y b))) ≡ # (factorial a * factorial b)
  triangle_factorials a b =
      cancel b _ _
      (Solve.ring_from A (# (suc b) ∷ # (factorial (a + suc (suc b))) ∷ T.reference K Q (A.mul (power X a) (power Y b)) ∷ beta a (suc b) ∷ []) (at 0 ⊗ (at 1 ⊗ at 2)) (at 1 ⊗ at 3) (at 1) (at 0 ⊗ at 2) (at 3) (triangle_step a b) refl
      ∙ beta_is a (suc b)
      ∙ ap # (turned (factorial a) (suc b) (factorial b))
      ∙ whole-mul (suc b) (factorial a * factorial b))
    where
      turned : (p y q : ℕ) → p * (y * q) ≡ y * (p * q)
      turned p y q = omega arith

  -- ---- the reference tetrahedron
  abbrev pub Z : Polynomial K
  Z = coordinate K 2

  abbrev pub W : Polynomial K
  W = A.add A.one (A.neg (A.add X Y))

  -- the integral over the reference triangle of (1 - x - y)^a x^b y^c
  abbrev pub share : ℕ → ℕ → ℕ → Polynomial K
  share a b c = T.reference K Q (A.mul (power W a) (A.mul (power X b) (power Y c)))

  moved_W : (s : ℕ → Polynomial K) → replaced K s W ≡ A.add A.one (A.neg (A.add (s 0) (s 1)))
  moved_W s =
      C.replaced-add K s A.one _
      ∙ ap₂ A.add (C.replaced-constant K s K.one)
      (I.replaced-neg K Q s _ ∙ ap A.neg (C.replaced-add K s X Y ∙ ap₂ A.add (C.replaced-coordinate K s 0) (C.replaced-coordinate K s 1)))

  moved_product : (s : ℕ → Polynomial K) (p q r : Polynomial K) (a b c : ℕ)
      → replaced K s (A.mul (power p a) (A.mul (power q b) (power r c))) ≡ A.mul (power (replaced K s p) a) (A.mul (power (replaced K s q) b) (power (replaced K s r) c))
  moved_product s p q r a b c =
      C.replaced-mul K s _ _ ∙ ap₂ A.mul (replaced_power s p a) (C.replaced-mul K s _ _ ∙ ap₂ A.mul (replaced_power s q b) (replaced_power s r c))

  slope_of_W : d 0 W ≡ A.neg A.one
  slope_of_W =
      C.derivative-add K 0 A.one _
      ∙ ap₂ A.add (C.derivative-constant K 0 K.one)
      (I.derivative-neg K Q 0 _ ∙ ap A.neg (C.derivative-add K 0 X Y ∙ ap₂ A.add slope_of_X (I.derivative-coordinate_other K Q 0 1 refl) ∙ A.add_zero A.one))
      ∙ L.zero-add A _

  share_next : (a b c : ℕ) → A.mul (# (suc b)) (share (suc a) b c) ≡ A.mul (# (suc a)) (share a (suc b) c)
  share_next a b c =
      Solve.ring_from A (A.mul (# (suc b)) (share (suc a) b c) ∷ A.mul (# (suc a)) (share a (suc b) c) ∷ []) (at 0) (at 1) unity (at 0 ⊖ at 1) (num (pos 0))
      (ap₂ (λ p q. A.add p (A.neg q)) (sym (reference_whole (suc b) _)) (sym (reference_whole (suc a) _))
      ∙ ap (A.add (T.reference K Q (A.mul (# (suc b)) (A.mul (power W (suc a)) (A.mul (power X b) (power Y c)))))) (sym (T.reference-neg K Q _))
      ∙ sym (T.reference-add K Q _ _)
      ∙ ap (T.reference K Q)
      (Solve.ring A (# a ∷ # b ∷ power W a ∷ power X b ∷ power Y c ∷ W ∷ X ∷ [])
      ((unity ⊕ at 1) ⊗ ((at 5 ⊗ at 2) ⊗ (at 3 ⊗ at 4)) ⊖ (unity ⊕ at 0) ⊗ (at 2 ⊗ ((at 6 ⊗ at 3) ⊗ at 4)))
      (((unity ⊕ at 0) ⊗ (at 2 ⊗ opposite unity)) ⊗ ((at 6 ⊗ at 3) ⊗ at 4) ⊕ (at 5 ⊗ at 2) ⊗ (((unity ⊕ at 1) ⊗ (at 3 ⊗ unity)) ⊗ at 4 ⊕ (at 6 ⊗ at 3) ⊗ num (pos 0))) refl
      ∙ ap₂ (λ s t. A.add (A.mul (A.mul (# (suc a)) (A.mul (power W a) s)) (A.mul (power X (suc b)) (power Y c)))
      (A.mul (power W (suc a)) (A.add (A.mul (A.mul (# (suc b)) (A.mul (power X b) t)) (power Y c)) (A.mul (power X (suc b)) A.zero)))) (sym slope_of_W) (sym slope_of_X)
      ∙ ap₂ (λ s t. A.add (A.mul s (A.mul (power X (suc b)) (power Y c))) (A.mul (power W (suc a)) t)) (sym (power_rule 0 W a))
      (ap₂ (λ s t. A.add (A.mul s (power Y c)) (A.mul (power X (suc b)) t)) (sym (power_rule 0 X b)) (sym (constant_power 0 Y c (I.derivative-coordinate_other K Q 0 1 refl)))
      ∙ sym (C.derivative-mul K 0 (power X (suc b)) (power Y c)))
      ∙ sym (C.derivative-mul K 0 (power W (suc a)) (A.mul (power X (suc b)) (power Y c))))
      ∙ T.reference_first K Q (A.mul (power W (suc a)) (A.mul (power X (suc b)) (power Y c)))
      ∙ ap₂ (λ p q. A.add p (A.neg q))
      (ap (T.unit_integral K Q) (moved_product _ W X Y (suc a) (suc b) c ∙ zero_left _ _ (same_power (suc a) W_gone ∙ zero_power a)) ∙ T.integral-zero K Q)
      (ap (T.unit_integral K Q) (moved_product _ W X Y (suc a) (suc b) c ∙ zero_right _ _ (zero_left _ _ (same_power (suc b) X_gone ∙ zero_power b))) ∙ T.integral-zero K Q)
      ∙ Solve.ring A [] (num (pos 0) ⊖ num (pos 0)) (num (pos 0)) refl)
      refl
    where
      W_gone : replaced K (T.segment K Q (T.e₁ K Q) (T.e₂ K Q)) W ≡ A.zero
      W_gone =
          moved_W (T.segment K Q (T.e₁ K Q) (T.e₂ K Q))
          ∙ ap₂ (λ s t. A.add A.one (A.neg (A.add s t))) (T.down K Q (T.o K Q) (T.o K Q) (T.o K Q)) (T.up K Q (T.o K Q) (T.o K Q) (T.o K Q))
          ∙ Solve.ring A (X ∷ []) (unity ⊖ ((unity ⊖ at 0) ⊕ at 0)) (num (pos 0)) refl

      X_gone : replaced K (T.segment K Q (T.o K Q) (T.e₂ K Q)) X ≡ A.zero
      X_gone = C.replaced-coordinate K (T.segment K Q (T.o K Q) (T.e₂ K Q)) 0 ∙ T.flat K Q K.zero ∙ I.constant-zero K Q

  -- (a + b + c + 2)! times the integral of (1 - x - y)^a x^b y^c over the reference triangle
  pub share_is : (a b c : ℕ) → A.mul (# (factorial (a + (b + suc (suc c))))) (share a b c) ≡ # (factorial a * (factorial b * factorial c))
  share_is zero b c =
      ap₂ (λ n p. A.mul (# (factorial n)) (T.reference K Q p)) (M.zero-add (b + suc (suc c))) (L.one-mul A _)
      ∙ triangle_factorials b c ∙ ap # (sym (M.one-mul (factorial b * factorial c)))
  share_is (suc a) b c =
      cancel b _ _
      (ap (λ n. A.mul (# (suc b)) (A.mul (# (factorial n)) (share (suc a) b c))) (moved a b c)
      ∙ Solve.ring_from A (# (suc b) ∷ # (factorial (a + (suc b + suc (suc c)))) ∷ share (suc a) b c ∷ # (suc a) ∷ share a (suc b) c ∷ []) (at 0 ⊗ (at 1 ⊗ at 2)) (at 3 ⊗ (at 1 ⊗ at 4)) (at 1) (at 0 ⊗ at 2) (at 3 ⊗ at 4) (share_next a b c) refl
      ∙ ap (A.mul (# (suc a))) (share_is a (suc b) c)
      ∙ sym (whole-mul (suc a) (factorial a * (factorial (suc b) * factorial c)))
      ∙ ap # (turned (suc a) (factorial a) (suc b) (factorial b) (factorial c))
      ∙ whole-mul (suc b) (factorial (suc a) * (factorial b * factorial c)))
    where
      moved : (a b c : ℕ) → suc a + (b + suc (suc c)) ≡ a + (suc b + suc (suc c))
      moved a b c = omega arith

      turned : (x p y q r : ℕ) → x * (p * (y * q * r)) ≡ y * (x * p * (q * r))
      turned x p y q r = omega arith

  tetra_whole : (n : ℕ) (p : Polynomial K) → V.reference₃ K Q (A.mul (# n) p) ≡ A.mul (# n) (V.reference₃ K Q p)
  tetra_whole n p =
      ap (λ c. V.reference₃ K Q (A.mul c p)) (sym (C.constant-natural K n)) ∙ V.reference₃-scaled K Q (natural K n) p ∙ ap (λ c. A.mul c (V.reference₃ K Q p)) (C.constant-natural K n)

  tetra_step : (a b c : ℕ) → A.mul (# (suc c)) (V.reference₃ K Q (A.mul (power X a) (A.mul (power Y b) (power Z c)))) ≡ share a b (suc c)
  tetra_step a b c =
      sym (tetra_whole (suc c) _)
      ∙ ap (V.reference₃ K Q)
      (Solve.ring A (# c ∷ power X a ∷ power Y b ∷ power Z c ∷ power Z (suc c) ∷ []) ((unity ⊕ at 0) ⊗ (at 1 ⊗ (at 2 ⊗ at 3))) (num (pos 0) ⊗ (at 2 ⊗ at 4) ⊕ at 1 ⊗ (num (pos 0) ⊗ at 4 ⊕ at 2 ⊗ ((unity ⊕ at 0) ⊗ (at 3 ⊗ unity)))) refl
      ∙ ap (λ t. A.add (A.mul A.zero (A.mul (power Y b) (power Z (suc c)))) (A.mul (power X a) (A.add (A.mul A.zero (power Z (suc c))) (A.mul (power Y b) (A.mul (# (suc c)) (A.mul (power Z c) t)))))) (sym (I.derivative-coordinate_own K Q 2 refl))
      ∙ ap₂ (λ s t. A.add (A.mul s (A.mul (power Y b) (power Z (suc c)))) (A.mul (power X a) t)) (sym (constant_power 2 X a (I.derivative-coordinate_other K Q 2 0 refl)))
      (ap₂ (λ s t. A.add (A.mul s (power Z (suc c))) (A.mul (power Y b) t)) (sym (constant_power 2 Y b (I.derivative-coordinate_other K Q 2 1 refl))) (sym (power_rule 2 Z c))
      ∙ sym (C.derivative-mul K 2 (power Y b) (power Z (suc c))))
      ∙ sym (C.derivative-mul K 2 (power X a) (A.mul (power Y b) (power Z (suc c)))))
      ∙ V.reference_third K Q (A.mul (power X a) (A.mul (power Y b) (power Z (suc c))))
      ∙ ap₂ (λ p q. A.add p (A.neg q))
      (ap (T.reference K Q) (moved_product _ X Y Z a b (suc c) ∙ ap₂ A.mul (same_power a X_is) (ap₂ A.mul (same_power b Y_is) (same_power (suc c) Z_is))))
      (ap (T.reference K Q) (moved_product _ X Y Z a b (suc c) ∙ zero_right _ _ (zero_right _ _ (same_power (suc c) (C.replaced-coordinate K (instead K 2 A.zero) 2) ∙ zero_power c))) ∙ V.reference₂-zero K Q)
      ∙ Solve.ring A (share a b (suc c) ∷ []) (at 0 ⊖ num (pos 0)) (at 0) refl
    where
      s : ℕ → Polynomial K
      s = V.sheet K Q (V.e₁ K Q) (V.e₂ K Q) (V.e₃ K Q)

      zeros : (f : Polynomial K → Polynomial K) → f (constant K K.zero) ≡ f A.zero
      zeros f = ap f (I.constant-zero K Q)

      X_is : replaced K (V.sheet K Q (V.e₁ K Q) (V.e₂ K Q) (V.e₃ K Q)) X ≡ W
      X_is = C.replaced-coordinate K (V.sheet K Q (V.e₁ K Q) (V.e₂ K Q) (V.e₃ K Q)) 0 ∙ V.plane_spread K Q K.one K.zero K.zero
          ∙ zeros (λ z. A.add A.one (A.add (A.mul X (A.add z (A.neg A.one))) (A.mul Y (A.add z (A.neg A.one)))))
          ∙ Solve.ring A (X ∷ Y ∷ []) (unity ⊕ (at 0 ⊗ (num (pos 0) ⊖ unity) ⊕ at 1 ⊗ (num (pos 0) ⊖ unity))) (unity ⊖ (at 0 ⊕ at 1)) refl

      Y_is : replaced K (V.sheet K Q (V.e₁ K Q) (V.e₂ K Q) (V.e₃ K Q)) Y ≡ X
      Y_is = C.replaced-coordinate K (V.sheet K Q (V.e₁ K Q) (V.e₂ K Q) (V.e₃ K Q)) 1 ∙ V.plane_spread K Q K.zero K.one K.zero
          ∙ zeros (λ z. A.add z (A.add (A.mul X (A.add A.one (A.neg z))) (A.mul Y (A.add z (A.neg z)))))
          ∙ Solve.ring A (X ∷ Y ∷ []) (num (pos 0) ⊕ (at 0 ⊗ (unity ⊖ num (pos 0)) ⊕ at 1 ⊗ (num (pos 0) ⊖ num (pos 0)))) (at 0) refl

      Z_is : replaced K (V.sheet K Q (V.e₁ K Q) (V.e₂ K Q) (V.e₃ K Q)) Z ≡ Y
      Z_is = C.replaced-coordinate K (V.sheet K Q (V.e₁ K Q) (V.e₂ K Q) (V.e₃ K Q)) 2 ∙ V.plane_spread K Q K.zero K.zero K.one
          ∙ zeros (λ z. A.add z (A.add (A.mul X (A.add z (A.neg z))) (A.mul Y (A.add A.one (A.neg z)))))
          ∙ Solve.ring A (X ∷ Y ∷ []) (num (pos 0) ⊕ (at 0 ⊗ (num (pos 0) ⊖ num (pos 0)) ⊕ at 1 ⊗ (unity ⊖ num (pos 0)))) (at 1) refl

  -- (a + b + c + 3)! times the integral of x^a y^b z^c over the reference tetrahedron
  pub tetrahedron_factorials : (a b c : ℕ) → A.mul (# (factorial (a + (b + suc (suc (suc c)))))) (V.reference₃ K Q (A.mul (power X a) (A.mul (power Y b) (power Z c)))) ≡ # (factorial a * (factorial b * factorial c))
  tetrahedron_factorials a b c =
      cancel c _ _
      (Solve.ring_from A (# (suc c) ∷ # (factorial (a + (b + suc (suc (suc c))))) ∷ V.reference₃ K Q (A.mul (power X a) (A.mul (power Y b) (power Z c))) ∷ share a b (suc c) ∷ []) (at 0 ⊗ (at 1 ⊗ at 2)) (at 1 ⊗ at 3) (at 1) (at 0 ⊗ at 2) (at 3) (tetra_step a b c) refl
      ∙ share_is a b (suc c)
      ∙ ap # (turned (factorial a) (factorial b) (suc c) (factorial c))
      ∙ whole-mul (suc c) (factorial a * (factorial b * factorial c)))
    where
      turned : (p q y r : ℕ) → p * (q * (y * r)) ≡ y * (p * (q * r))
      turned p q y r = omega arith
