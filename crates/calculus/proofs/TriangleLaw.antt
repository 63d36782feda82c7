-- The change of variables on triangles
use Rattle.std.proofs.Common.{◌≡◌, ℕ, zero, suc, Bool, true, false, refl, sym, ◌∙◌, ap, ap₂, [], ◌∷◌, pos}
use Rattle.algebra.specs.Ring.{Ring}
use Rattle.algebra.specs.RingLaws as L
use Rattle.algebra.specs.Solver.{at, num, ◌⊕◌, ◌⊗◌, ◌⊖◌, unity, minus as opposite}
use Rattle.algebra.specs.Sound as Solve
use Rattle.calculus.specs.OverRing.{Polynomial, ring, constant, coordinate, derivative, constant-IsRingMap, replaced, antiderivative, instead}
use Rattle.calculus.proofs.WrittenOut.{minus, difference, area_of, at_value, interval, along, height, facet, triangle, across}
use Rattle.calculus.specs.Field.{Field}
use Rattle.calculus.specs.Point.{Point}
use Rattle.calculus.proofs.OverRingLaws as C
use Rattle.calculus.proofs.Antiderivative as J
use Rattle.calculus.proofs.IntervalLaw as I

module _ {R : Type 0} (K : Ring R) (Q : Field K) where
  abbrev pub A : Ring (Polynomial K)
  A = ring K

  abbrev pub anti : ℕ → Polynomial K → Polynomial K
  anti i p = antiderivative K Q.division i p

  abbrev pub d : ℕ → Polynomial K → Polynomial K
  d i p = derivative K i p

  abbrev pub ▹ : (ℕ → Polynomial K) → Polynomial K → Polynomial K
  ▹ s p = replaced K s p

  -- a constant
  abbrev pub κ : R → Polynomial K
  κ a = constant K a

  abbrev pub X : Polynomial K
  X = coordinate K 0

  abbrev pub line : R → R → Polynomial K
  line a b = A.add (κ a) (A.mul X (κ (minus K Q b a)))

  -- the points between two points of the plane
  abbrev pub segment : Point R → Point R → ℕ → Polynomial K
  segment u w zero = line u.x w.x
  segment u w (suc zero) = line u.y w.y
  segment u w (suc (suc j)) = coordinate K (suc (suc j))

  abbrev pub unit_integral : Polynomial K → Polynomial K
  unit_integral q = interval K Q K.zero K.one q

  abbrev pub over : Point R → Point R → Polynomial K → Polynomial K
  over u w p = unit_integral (▹ (segment u w) p)

  -- ---- a facet, by its parameter from 0 to 1
  pub moved_line : (s : ℕ → Polynomial K) (a b : R) → ▹ s (line a b) ≡ A.add (κ a) (A.mul (s 0) (κ (minus K Q b a)))
  moved_line s a b =
      C.replaced-add K s _ _
      ∙ ap₂ A.add (C.replaced-constant K s a) (C.replaced-mul K s _ _ ∙ ap₂ A.mul (C.replaced-coordinate K s 0) (C.replaced-constant K s _))

  moved_height : (u w : Point R) → Q.is_nought (minus K Q w.x u.x) ≡ false → ▹ (along K Q u.x w.x) (height K Q u w) ≡ line u.y w.y
  moved_height u w h =
      C.replaced-add K s _ _
      ∙ ap₂ A.add
      (C.replaced-mul K s _ _ ∙ ap₂ A.mul (C.replaced-constant K s u.y) (C.replaced-mul K s _ _ ∙ ap₂ A.mul (C.replaced-constant K s _) (moved_difference (κ w.x) X ∙ ap₂ (difference K Q) (C.replaced-constant K s w.x) (C.replaced-coordinate K s 0 ∙ spread u.x w.x))))
      (C.replaced-mul K s _ _ ∙ ap₂ A.mul (C.replaced-constant K s w.y) (C.replaced-mul K s _ _ ∙ ap₂ A.mul (C.replaced-constant K s _) (moved_difference X (κ u.x) ∙ ap₂ (difference K Q) (C.replaced-coordinate K s 0 ∙ spread u.x w.x) (C.replaced-constant K s u.x))))
      ∙ Solve.ring_from A (κ u.y ∷ κ w.y ∷ κ u.x ∷ κ w.x ∷ κ (Q.inverse (minus K Q w.x u.x)) ∷ X ∷ [])
      (at 0 ⊗ (at 4 ⊗ (at 3 ⊖ (at 2 ⊕ at 5 ⊗ (at 3 ⊖ at 2)))) ⊕ at 1 ⊗ (at 4 ⊗ ((at 2 ⊕ at 5 ⊗ (at 3 ⊖ at 2)) ⊖ at 2)))
      (at 0 ⊕ at 5 ⊗ (at 1 ⊖ at 0))
      (at 0 ⊗ (unity ⊖ at 5) ⊕ at 1 ⊗ at 5)
      ((at 3 ⊖ at 2) ⊗ at 4) unity
      (ap (λ x. A.mul x (κ (Q.inverse (minus K Q w.x u.x)))) (sym (I.constant-minus K Q w.x u.x)) ∙ sym ((constant-IsRingMap K).multiplies _ _) ∙ ap κ' (Q.inverse-mul (minus K Q w.x u.x) h))
      refl
      ∙ sym (spread u.y w.y)
    where
      s : ℕ → Polynomial K
      s = along K Q u.x w.x

      κ' : R → Polynomial K
      κ' a = constant K a

      spread : (a b : R) → line a b ≡ A.add (κ a) (A.mul X (difference K Q (κ b) (κ a)))
      spread a b = ap (λ x. A.add (κ a) (A.mul X x)) (I.constant-minus K Q b a)

      moved_difference : (p q : Polynomial K) → ▹ (along K Q u.x w.x) (difference K Q p q) ≡ difference K Q (▹ (along K Q u.x w.x) p) (▹ (along K Q u.x w.x) q)
      moved_difference p q = C.replaced-add K _ _ _ ∙ ap (A.add (▹ (along K Q u.x w.x) p)) (I.replaced-neg K Q _ q)

  pub facet_is : (u w : Point R) (p : Polynomial K) → facet K Q u w p ≡ A.mul (κ (minus K Q w.x u.x)) (over u w p)
  unfolding facet
  facet_is u w p = go (Q.is_nought (minus K Q w.x u.x)) refl
    where
      pointwise : Q.is_nought (minus K Q w.x u.x) ≡ false → (j : ℕ) → ▹ (along K Q u.x w.x) (instead K 1 (height K Q u w) j) ≡ segment u w j
      pointwise h zero = C.replaced-coordinate K (along K Q u.x w.x) 0
      pointwise h (suc zero) = moved_height u w h
      pointwise h (suc (suc j)) = C.replaced-coordinate K (along K Q u.x w.x) (suc (suc j))

      go : (b : Bool) → Q.is_nought (minus K Q w.x u.x) ≡ b
          → elim b [ true ↦ A.zero | false ↦ interval K Q u.x w.x (▹ (instead K 1 (height K Q u w)) p) ] ≡ A.mul (κ (minus K Q w.x u.x)) (over u w p)
      go true h = sym (ap (λ x. A.mul (constant K x) (over u w p)) (Q.nought (minus K Q w.x u.x) h) ∙ ap (λ x. A.mul x (over u w p)) (I.constant-zero K Q) ∙ L.zero-mul A _)
      go false h =
          I.interval_law K Q u.x w.x (▹ (instead K 1 (height K Q u w)) p)
          ∙ ap (λ x. A.mul (κ (minus K Q w.x u.x)) (unit_integral x))
          (C.replaced-replaced K (along K Q u.x w.x) (instead K 1 (height K Q u w)) p ∙ C.replaced-same K _ (segment u w) (pointwise h) p)

  -- ---- what the terms without a variable give
  -- a replacement that makes variable i zero leaves nothing of an antiderivative in it
  pub anti_vanishes : (i : ℕ) (q : Polynomial K) → J.cut K Q.division i (anti i q) ≡ A.zero
  anti_vanishes i q =
      L.add_right_cancel A _ _ (anti i q)
      (A.add_comm _ _
      ∙ ap (λ x. A.add x (J.cut K Q.division i (anti i q))) (sym (ap (anti i) (J.derivative-anti K Q.division i q)))
      ∙ J.anti-derivative K Q.division i (anti i q)
      ∙ sym (L.zero-add A _))

  replaced_cut : (s : ℕ → Polynomial K) → s 1 ≡ A.zero → (p : Polynomial K) → ▹ s (J.cut K Q.division 1 p) ≡ ▹ s p
  replaced_cut s h p = C.replaced-replaced K s (instead K 1 A.zero) p ∙ C.replaced-same K _ s at_each p
    where
      at_each : (j : ℕ) → ▹ s (instead K 1 A.zero j) ≡ s j
      at_each zero = C.replaced-coordinate K s 0
      at_each (suc zero) = I.replaced-zero K Q s ∙ sym h
      at_each (suc (suc j)) = C.replaced-coordinate K s (suc (suc j))

  replaced_anti : (s : ℕ → Polynomial K) → s 1 ≡ A.zero → (q : Polynomial K) → ▹ s (anti 1 q) ≡ A.zero
  replaced_anti s h q = sym (replaced_cut s h (anti 1 q)) ∙ ap (▹ s) (anti_vanishes 1 q) ∙ I.replaced-zero K Q s

  -- ---- the unit integral
  pub integral-zero : unit_integral A.zero ≡ A.zero
  integral-zero = L.add_right_cancel A _ _ (unit_integral A.zero) (sym (I.interval-add K Q K.zero K.one A.zero A.zero) ∙ ap unit_integral (A.add_zero A.zero) ∙ sym (L.zero-add A _))

  pub integral-neg : (q : Polynomial K) → unit_integral (A.neg q) ≡ A.neg (unit_integral q)
  integral-neg q = L.neg-unique A _ _ (sym (I.interval-add K Q K.zero K.one (A.neg q) q) ∙ ap unit_integral (L.neg-add A q) ∙ integral-zero)

  pub integral-difference : (p q : Polynomial K) → unit_integral (difference K Q p q) ≡ difference K Q (unit_integral p) (unit_integral q)
  integral-difference p q = I.interval-add K Q K.zero K.one p (A.neg q) ∙ ap (A.add (unit_integral p)) (integral-neg q)

  swapped : (q : Polynomial K) → interval K Q K.one K.zero q ≡ A.neg (unit_integral q)
  unfolding interval
  swapped q =
      Solve.ring A (at_value K Q K.zero (anti 0 q) ∷ at_value K Q K.one (anti 0 q) ∷ []) (at 0 ⊖ at 1) (opposite (at 1 ⊖ at 0)) refl

  pub minus-one : κ (minus K Q K.zero K.one) ≡ A.neg A.one
  minus-one = I.constant-minus K Q K.zero K.one ∙ ap (λ x. A.add x (A.neg A.one)) (I.constant-zero K Q) ∙ L.zero-add A _

  -- from 1 down to 0, and from 0 up to 1
  pub reflected : (q : Polynomial K) → unit_integral (▹ (along K Q K.one K.zero) q) ≡ unit_integral q
  reflected q =
      sym (L.neg-neg A _)
      ∙ ap (A.neg) (sym (L.neg_one-mul A _) ∙ ap (λ x. A.mul x (unit_integral (▹ (along K Q K.one K.zero) q))) (sym minus-one) ∙ sym (I.interval_law K Q K.one K.zero q) ∙ swapped q)
      ∙ L.neg-neg A _

  -- ---- the reference triangle: its corners, its slanted side, and the two others
  abbrev pub o : Point R
  o = record { x = K.zero; y = K.zero; z = K.zero }

  abbrev pub e₁ : Point R
  e₁ = record { x = K.one; y = K.zero; z = K.zero }

  abbrev pub e₂ : Point R
  e₂ = record { x = K.zero; y = K.one; z = K.zero }

  abbrev pub reference : Polynomial K → Polynomial K
  reference q = triangle K Q o e₁ e₂ q

  abbrev pub slanted : Polynomial K → Polynomial K
  slanted p = over e₁ e₂ p

  abbrev pub bottom : Polynomial K → Polynomial K
  bottom p = unit_integral (J.cut K Q.division 1 p)

  abbrev pub left : Polynomial K → Polynomial K
  left p = over o e₂ p

  pub zero_slope : (a : R) → κ (minus K Q a a) ≡ A.zero
  zero_slope a = ap (λ x. constant K x) (K.add_neg a) ∙ I.constant-zero K Q

  pub flat : (a : R) → line a a ≡ κ a
  flat a = ap (λ x. A.add (κ a) (A.mul X x)) (zero_slope a) ∙ ap (A.add (κ a)) (L.mul-zero A X) ∙ A.add_zero (κ a)

  over_bottom_zero : (q : Polynomial K) → over o e₁ (anti 1 q) ≡ A.zero
  over_bottom_zero q = ap unit_integral (replaced_anti (segment o e₁) (flat K.zero ∙ I.constant-zero K Q) q) ∙ integral-zero

  pub reference_is : (q : Polynomial K) → reference q ≡ slanted (anti 1 q)
  unfolding triangle
  reference_is q =
      ap₂ (λ f g. A.add (A.neg f) g)
      (facet_is e₁ e₂ (anti 1 q) ∙ ap (λ x. A.mul x (slanted (anti 1 q))) minus-one)
      (ap₂ (λ f g. A.add f (A.neg g))
      (facet_is o e₂ (anti 1 q) ∙ ap (λ x. A.mul x (left (anti 1 q))) (zero_slope K.zero) ∙ L.zero-mul A _)
      (facet_is o e₁ (anti 1 q) ∙ ap (A.mul (κ (minus K Q K.one K.zero))) (over_bottom_zero q) ∙ L.mul-zero A _))
      ∙ Solve.ring A (slanted (anti 1 q) ∷ []) (opposite (opposite unity ⊗ at 0) ⊕ (num (pos 0) ⊕ opposite (num (pos 0)))) (at 0) refl

  slanted-add : (p q : Polynomial K) → slanted (A.add p q) ≡ A.add (slanted p) (slanted q)
  slanted-add p q = ap unit_integral (C.replaced-add K (segment e₁ e₂) p q) ∙ I.interval-add K Q K.zero K.one _ _

  -- ---- the boundary law in the second variable
  slanted_cut : (p : Polynomial K) → slanted (J.cut K Q.division 1 p) ≡ bottom p
  slanted_cut p =
      ap unit_integral (C.replaced-replaced K (segment e₁ e₂) (instead K 1 A.zero) p ∙ C.replaced-same K _ _ at_each p ∙ sym (C.replaced-replaced K (along K Q K.one K.zero) (instead K 1 A.zero) p))
      ∙ reflected (J.cut K Q.division 1 p)
    where
      at_each : (j : ℕ) → ▹ (segment e₁ e₂) (instead K 1 A.zero j) ≡ ▹ (along K Q K.one K.zero) (instead K 1 A.zero j)
      at_each zero = C.replaced-coordinate K (segment e₁ e₂) 0 ∙ sym (C.replaced-coordinate K (along K Q K.one K.zero) 0)
      at_each (suc zero) = I.replaced-zero K Q (segment e₁ e₂) ∙ sym (I.replaced-zero K Q (along K Q K.one K.zero))
      at_each (suc (suc j)) = C.replaced-coordinate K (segment e₁ e₂) (suc (suc j)) ∙ sym (C.replaced-coordinate K (along K Q K.one K.zero) (suc (suc j)))

  pub reference_second : (q : Polynomial K) → reference (d 1 q) ≡ difference K Q (slanted q) (bottom q)
  reference_second q =
      reference_is (d 1 q)
      ∙ Solve.ring A (slanted (anti 1 (d 1 q)) ∷ slanted (J.cut K Q.division 1 q) ∷ []) (at 0) ((at 0 ⊕ at 1) ⊖ at 1) refl
      ∙ ap₂ (difference K Q) (sym (slanted-add (anti 1 (d 1 q)) (J.cut K Q.division 1 q)) ∙ ap slanted (J.anti-derivative K Q.division 1 q)) (slanted_cut q)

  -- ---- and in the first
  -- antiderivatives and derivatives in two variables change places
  anti_commutes : (q : Polynomial K) → anti 1 (d 0 q) ≡ d 0 (anti 1 q)
  anti_commutes q = J.anti_commutes K Q.division 1 0 refl q

  line_slope : (a b : R) → d 0 (line a b) ≡ κ (minus K Q b a)
  line_slope a b =
      C.derivative-add K 0 _ _
      ∙ ap₂ A.add (C.derivative-constant K 0 a) (I.derivative-slope K Q 0 0 (minus K Q b a) ∙ ap (λ x. A.mul x (κ (minus K Q b a))) (I.derivative-coordinate_own K Q 0 refl) ∙ L.one-mul A _)
      ∙ L.zero-add A _

  pub segment_derivative : (u w : Point R) (p : Polynomial K)
      → d 0 (▹ (segment u w) p) ≡ A.add (A.mul (▹ (segment u w) (d 0 p)) (κ (minus K Q w.x u.x))) (A.mul (▹ (segment u w) (d 1 p)) (κ (minus K Q w.y u.y)))
  segment_derivative u w p =
      C.chain K (segment u w) 0 (λ i. I.derivative-coordinate_other K Q 0 (suc (suc (suc i))) refl) p
      ∙ ap₂ A.add (ap (A.mul (▹ (segment u w) (d 0 p))) (line_slope u.x w.x))
      (ap₂ A.add (ap (A.mul (▹ (segment u w) (d 1 p))) (line_slope u.y w.y))
      (ap (A.mul (▹ (segment u w) (d 2 p))) (I.derivative-coordinate_other K Q 0 2 refl) ∙ L.mul-zero A _)
      ∙ A.add_zero _)

  -- the ends of a segment
  ends : (c : R) (u w u' w' : Point R) → K.add u.x (K.mul c (minus K Q w.x u.x)) ≡ K.add u'.x (K.mul c (minus K Q w'.x u'.x))
      → K.add u.y (K.mul c (minus K Q w.y u.y)) ≡ K.add u'.y (K.mul c (minus K Q w'.y u'.y))
      → (p : Polynomial K) → at_value K Q c (▹ (segment u w) p) ≡ at_value K Q c (▹ (segment u' w') p)
  ends c u w u' w' hx hy p =
      C.replaced-replaced K (instead K 0 (κ c)) (segment u w) p ∙ C.replaced-same K _ _ at_each p ∙ sym (C.replaced-replaced K (instead K 0 (κ c)) (segment u' w') p)
    where
      point : (a b : R) → ▹ (instead K 0 (κ c)) (line a b) ≡ κ (K.add a (K.mul c (minus K Q b a)))
      point a b = moved_line (instead K 0 (κ c)) a b ∙ sym ((constant-IsRingMap K).adds a _ ∙ ap (A.add (κ a)) ((constant-IsRingMap K).multiplies c _))

      at_each : (j : ℕ) → ▹ (instead K 0 (κ c)) (segment u w j) ≡ ▹ (instead K 0 (κ c)) (segment u' w' j)
      at_each zero = point u.x w.x ∙ ap (λ x. constant K x) hx ∙ sym (point u'.x w'.x)
      at_each (suc zero) = point u.y w.y ∙ ap (λ x. constant K x) hy ∙ sym (point u'.y w'.y)
      at_each (suc (suc j)) = refl

  -- the start of a segment whose first point has the second coordinate 0
  start_vanishes : (u w : Point R) → u.y ≡ K.zero → (q : Polynomial K) → at_value K Q K.zero (▹ (segment u w) (anti 1 q)) ≡ A.zero
  start_vanishes u w h q =
      C.replaced-replaced K (instead K 0 (κ K.zero)) (segment u w) (anti 1 q) ∙ replaced_anti _ second q
    where
      second : ▹ (instead K 0 (κ K.zero)) (line u.y w.y) ≡ A.zero
      second = moved_line (instead K 0 (κ K.zero)) u.y w.y
          ∙ ap₂ A.add (ap (λ x. constant K x) h ∙ I.constant-zero K Q) (ap (λ x. A.mul x (κ (minus K Q w.y u.y))) (I.constant-zero K Q) ∙ L.zero-mul A _) ∙ A.add_zero _

  -- along a segment that starts at the second coordinate 0
  along_segment : (u w : Point R) → u.y ≡ K.zero → (q : Polynomial K)
      → A.add (A.mul (over u w (d 0 (anti 1 q))) (κ (minus K Q w.x u.x))) (A.mul (over u w q) (κ (minus K Q w.y u.y)))
      ≡ at_value K Q K.one (▹ (segment u w) (anti 1 q))
  along_segment u w h q =
      ap₂ A.add (A.mul_comm _ _ ∙ sym (I.interval-scaled K Q K.zero K.one _ _)) (A.mul_comm _ _ ∙ sym (I.interval-scaled K Q K.zero K.one _ _))
      ∙ sym (I.interval-add K Q K.zero K.one _ _)
      ∙ ap unit_integral
      (ap₂ A.add (A.mul_comm _ _) (A.mul_comm _ _ ∙ ap (λ x. A.mul (▹ (segment u w) x) (κ (minus K Q w.y u.y))) (sym (J.derivative-anti K Q.division 1 q)))
      ∙ sym (segment_derivative u w (anti 1 q)))
      ∙ I.interval-derivative K Q K.zero K.one (▹ (segment u w) (anti 1 q))
      ∙ ap (difference K Q (at_value K Q K.one (▹ (segment u w) (anti 1 q)))) (start_vanishes u w h q)
      ∙ Solve.ring A (at_value K Q K.one (▹ (segment u w) (anti 1 q)) ∷ []) (at 0 ⊖ num (pos 0)) (at 0) refl

  pub reference_first : (q : Polynomial K) → reference (d 0 q) ≡ difference K Q (slanted q) (left q)
  reference_first q =
      reference_is (d 0 q)
      ∙ ap slanted (anti_commutes q)
      ∙ Solve.ring_from A (slanted (d 0 (anti 1 q)) ∷ slanted q ∷ left q ∷ left (d 0 (anti 1 q)) ∷ [])
      (at 0) (at 1 ⊖ at 2) (opposite unity)
      (at 0 ⊗ opposite unity ⊕ at 1 ⊗ unity) (at 3 ⊗ num (pos 0) ⊕ at 2 ⊗ unity)
      (ap₂ (λ a b. A.add (A.mul (slanted (d 0 (anti 1 q))) a) (A.mul (slanted q) b)) (sym minus-one) (sym one-minus)
      ∙ along_segment e₁ e₂ refl q
      ∙ ends K.one e₁ e₂ o e₂ (ring_one K.one K.zero K.one ∙ sym (ring_one K.zero K.zero K.one)) refl (anti 1 q)
      ∙ sym (along_segment o e₂ refl q)
      ∙ ap₂ (λ a b. A.add (A.mul (left (d 0 (anti 1 q))) a) (A.mul (left q) b)) (zero_slope K.zero) one-minus)
      refl
    where
      one-minus : κ (minus K Q K.one K.zero) ≡ A.one
      one-minus = I.constant-minus K Q K.one K.zero ∙ ap (difference K Q A.one) (I.constant-zero K Q) ∙ Solve.ring A [] (unity ⊖ num (pos 0)) unity refl

      ring_one : (a b c : R) → K.add a (K.mul K.one (minus K Q b a)) ≡ b
      ring_one a b c = Solve.ring K (a ∷ b ∷ []) (at 0 ⊕ unity ⊗ (at 1 ⊖ at 0)) (at 1) refl

  -- ---- the reference integral is linear
  pub reference-add : (p q : Polynomial K) → reference (A.add p q) ≡ A.add (reference p) (reference q)
  reference-add p q =
      reference_is (A.add p q) ∙ ap slanted (J.anti-add K Q.division 1 p q) ∙ slanted-add _ _ ∙ ap₂ A.add (sym (reference_is p)) (sym (reference_is q))

  pub reference-scaled : (c : R) (p : Polynomial K) → reference (A.mul (κ c) p) ≡ A.mul (κ c) (reference p)
  reference-scaled c p =
      reference_is _
      ∙ ap slanted (J.anti-scaled K Q.division 1 c p)
      ∙ ap unit_integral (C.replaced-mul K (segment e₁ e₂) _ _ ∙ ap (λ x. A.mul x (▹ (segment e₁ e₂) (anti 1 p))) (C.replaced-constant K _ c))
      ∙ I.interval-scaled K Q K.zero K.one c _
      ∙ ap (A.mul (κ c)) (sym (reference_is p))

  pub reference-neg : (p : Polynomial K) → reference (A.neg p) ≡ A.neg (reference p)
  reference-neg p = L.neg-unique A (reference p) (reference (A.neg p)) (sym (reference-add (A.neg p) p) ∙ ap reference (L.neg-add A p) ∙ nothing)
    where
      nothing : reference A.zero ≡ A.zero
      nothing = L.add_right_cancel A _ _ (reference A.zero) (sym (reference-add A.zero A.zero) ∙ ap reference (A.add_zero A.zero) ∙ sym (L.zero-add A _))

  -- ---- the affine map, and what it makes of the three sides
  module _ (a b c : Point R) where
    abbrev F : ℕ → Polynomial K
    F = across K Q a b c

    pub affine : R → R → R → Polynomial K
    affine u v w = A.add (κ u) (A.add (A.mul X (κ (minus K Q v u))) (A.mul (coordinate K 1) (κ (minus K Q w u))))

    pub moved_affine : (s : ℕ → Polynomial K) (u v w : R)
        → ▹ s (A.add (κ u) (A.add (A.mul X (κ (minus K Q v u))) (A.mul (coordinate K 1) (κ (minus K Q w u)))))
        ≡ A.add (κ u) (A.add (A.mul (s 0) (difference K Q (κ v) (κ u))) (A.mul (s 1) (difference K Q (κ w) (κ u))))
    moved_affine s u v w =
        C.replaced-add K s _ _
        ∙ ap₂ A.add (C.replaced-constant K s u)
        (C.replaced-add K s _ _
        ∙ ap₂ A.add
        (C.replaced-mul K s _ _ ∙ ap₂ A.mul (C.replaced-coordinate K s 0) (C.replaced-constant K s _ ∙ I.constant-minus K Q v u))
        (C.replaced-mul K s _ _ ∙ ap₂ A.mul (C.replaced-coordinate K s 1) (C.replaced-constant K s _ ∙ I.constant-minus K Q w u)))

    pub spread : (u v : R) → line u v ≡ A.add (κ u) (A.mul X (difference K Q (κ v) (κ u)))
    spread u v = ap (λ x. A.add (κ u) (A.mul X x)) (I.constant-minus K Q v u)

    pub up : line K.zero K.one ≡ X
    up = spread K.zero K.one ∙ ap₂ (λ x y. A.add x (A.mul X (difference K Q A.one y))) (I.constant-zero K Q) (I.constant-zero K Q) ∙ Solve.ring A (X ∷ []) (num (pos 0) ⊕ at 0 ⊗ (unity ⊖ num (pos 0))) (at 0) refl

    pub down : line K.one K.zero ≡ A.add A.one (A.neg X)
    down = spread K.one K.zero ∙ ap (λ y. A.add A.one (A.mul X (difference K Q y A.one))) (I.constant-zero K Q) ∙ Solve.ring A (X ∷ []) (unity ⊕ at 0 ⊗ (num (pos 0) ⊖ unity)) (unity ⊖ at 0) refl

    pub on_slanted : (u v w : R) → ▹ (segment e₁ e₂) (A.add (κ u) (A.add (A.mul X (κ (minus K Q v u))) (A.mul (coordinate K 1) (κ (minus K Q w u))))) ≡ line v w
    on_slanted u v w =
        moved_affine (segment e₁ e₂) u v w
        ∙ ap₂ (λ s t. A.add (κ u) (A.add (A.mul s (difference K Q (κ v) (κ u))) (A.mul t (difference K Q (κ w) (κ u))))) down up
        ∙ Solve.ring A (κ u ∷ κ v ∷ κ w ∷ X ∷ []) (at 0 ⊕ ((unity ⊖ at 3) ⊗ (at 1 ⊖ at 0) ⊕ at 3 ⊗ (at 2 ⊖ at 0))) (at 1 ⊕ at 3 ⊗ (at 2 ⊖ at 1)) refl
        ∙ sym (spread v w)

    pub on_left : (u v w : R) → ▹ (segment o e₂) (A.add (κ u) (A.add (A.mul X (κ (minus K Q v u))) (A.mul (coordinate K 1) (κ (minus K Q w u))))) ≡ line u w
    on_left u v w =
        moved_affine (segment o e₂) u v w
        ∙ ap₂ (λ s t. A.add (κ u) (A.add (A.mul s (difference K Q (κ v) (κ u))) (A.mul t (difference K Q (κ w) (κ u))))) (flat K.zero ∙ I.constant-zero K Q) up
        ∙ Solve.ring A (κ u ∷ κ v ∷ κ w ∷ X ∷ []) (at 0 ⊕ (num (pos 0) ⊗ (at 1 ⊖ at 0) ⊕ at 3 ⊗ (at 2 ⊖ at 0))) (at 0 ⊕ at 3 ⊗ (at 2 ⊖ at 0)) refl
        ∙ sym (spread u w)

    on_bottom : (u v w : R) → ▹ (instead K 1 A.zero) (A.add (κ u) (A.add (A.mul X (κ (minus K Q v u))) (A.mul (coordinate K 1) (κ (minus K Q w u))))) ≡ line u v
    on_bottom u v w =
        moved_affine (instead K 1 A.zero) u v w
        ∙ Solve.ring A (κ u ∷ κ v ∷ κ w ∷ X ∷ []) (at 0 ⊕ (at 3 ⊗ (at 1 ⊖ at 0) ⊕ num (pos 0) ⊗ (at 2 ⊖ at 0))) (at 0 ⊕ at 3 ⊗ (at 1 ⊖ at 0)) refl
        ∙ sym (spread u v)

    side : (s t : ℕ → Polynomial K) → ▹ s (F 0) ≡ t 0 → ▹ s (F 1) ≡ t 1 → ((j : ℕ) → s (suc (suc j)) ≡ t (suc (suc j))) → (p : Polynomial K) → ▹ s (▹ F p) ≡ ▹ t p
    side s t h₀ h₁ h p = C.replaced-replaced K s F p ∙ C.replaced-same K _ t at_each p
      where
        at_each : (j : ℕ) → ▹ s (F j) ≡ t j
        at_each zero = h₀
        at_each (suc zero) = h₁
        at_each (suc (suc j)) = C.replaced-coordinate K s (suc (suc j)) ∙ h j

    along_slanted : (p : Polynomial K) → slanted (▹ F p) ≡ over b c p
    along_slanted p = ap unit_integral (side (segment e₁ e₂) (segment b c) (on_slanted a.x b.x c.x) (on_slanted a.y b.y c.y) (λ j. refl) p)

    along_left : (p : Polynomial K) → left (▹ F p) ≡ over a c p
    along_left p = ap unit_integral (side (segment o e₂) (segment a c) (on_left a.x b.x c.x) (on_left a.y b.y c.y) (λ j. refl) p)

    along_bottom : (p : Polynomial K) → bottom (▹ F p) ≡ over a b p
    along_bottom p = ap unit_integral (side (instead K 1 A.zero) (segment a b) (on_bottom a.x b.x c.x) (on_bottom a.y b.y c.y) (λ j. refl) p)

    -- ---- the derivatives along the map
    pub affine_slope : (i : ℕ) (u v w : R)
        → d i (A.add (κ u) (A.add (A.mul X (κ (minus K Q v u))) (A.mul (coordinate K 1) (κ (minus K Q w u)))))
        ≡ A.add (A.mul (d i X) (κ (minus K Q v u))) (A.mul (d i (coordinate K 1)) (κ (minus K Q w u)))
    affine_slope i u v w =
        C.derivative-add K i _ _
        ∙ ap₂ A.add (C.derivative-constant K i u) (C.derivative-add K i _ _ ∙ ap₂ A.add (I.derivative-slope K Q i 0 _) (I.derivative-slope K Q i 1 _))
        ∙ L.zero-add A _

    pub first_slope : (u v w : R) → d 0 (A.add (κ u) (A.add (A.mul X (κ (minus K Q v u))) (A.mul (coordinate K 1) (κ (minus K Q w u))))) ≡ κ (minus K Q v u)
    first_slope u v w =
        affine_slope 0 u v w
        ∙ ap₂ (λ s t. A.add (A.mul s (κ (minus K Q v u))) (A.mul t (κ (minus K Q w u)))) (I.derivative-coordinate_own K Q 0 refl) (I.derivative-coordinate_other K Q 0 1 refl)
        ∙ Solve.ring A (κ (minus K Q v u) ∷ κ (minus K Q w u) ∷ []) (unity ⊗ at 0 ⊕ num (pos 0) ⊗ at 1) (at 0) refl

    pub second_slope : (u v w : R) → d 1 (A.add (κ u) (A.add (A.mul X (κ (minus K Q v u))) (A.mul (coordinate K 1) (κ (minus K Q w u))))) ≡ κ (minus K Q w u)
    second_slope u v w =
        affine_slope 1 u v w
        ∙ ap₂ (λ s t. A.add (A.mul s (κ (minus K Q v u))) (A.mul t (κ (minus K Q w u)))) (I.derivative-coordinate_other K Q 1 0 refl) (I.derivative-coordinate_own K Q 1 refl)
        ∙ Solve.ring A (κ (minus K Q v u) ∷ κ (minus K Q w u) ∷ []) (num (pos 0) ⊗ at 0 ⊕ unity ⊗ at 1) (at 1) refl

    map_derivative : (i : ℕ) → ((j : ℕ) → d i (coordinate K (suc (suc j))) ≡ A.zero) → (x y : Polynomial K) → d i (F 0) ≡ x → d i (F 1) ≡ y
        → (p : Polynomial K) → d i (▹ F p) ≡ A.add (A.mul (▹ F (d 0 p)) x) (A.mul (▹ F (d 1 p)) y)
    map_derivative i still x y hx hy p =
        C.chain K F i (λ j. still (suc j)) p
        ∙ ap₂ A.add (ap (A.mul (▹ F (d 0 p))) hx) (ap₂ A.add (ap (A.mul (▹ F (d 1 p))) hy) (ap (A.mul (▹ F (d 2 p))) (still 0) ∙ L.mul-zero A _) ∙ A.add_zero _)

    area_is : κ (area_of K Q a b c) ≡ difference K Q (A.mul (κ (minus K Q b.x a.x)) (κ (minus K Q c.y a.y))) (A.mul (κ (minus K Q c.x a.x)) (κ (minus K Q b.y a.y)))
    area_is = I.constant-minus K Q _ _ ∙ ap₂ (difference K Q) ((constant-IsRingMap K).multiplies _ _) ((constant-IsRingMap K).multiplies _ _)

    -- the cofactor identity, and the chain rule
    as_divergence : (p : Polynomial K) → A.mul (κ (area_of K Q a b c)) (▹ F (d 1 p))
        ≡ A.add (A.mul (κ (minus K Q b.x a.x)) (d 1 (▹ F p))) (A.neg (A.mul (κ (minus K Q c.x a.x)) (d 0 (▹ F p))))
    as_divergence p =
        ap (λ x. A.mul x (▹ F (d 1 p))) area_is
        ∙ Solve.ring A (κ (minus K Q b.x a.x) ∷ κ (minus K Q c.y a.y) ∷ κ (minus K Q c.x a.x) ∷ κ (minus K Q b.y a.y) ∷ ▹ F (d 0 p) ∷ ▹ F (d 1 p) ∷ [])
        ((at 0 ⊗ at 1 ⊖ at 2 ⊗ at 3) ⊗ at 5)
        (at 0 ⊗ (at 4 ⊗ at 2 ⊕ at 5 ⊗ at 1) ⊖ at 2 ⊗ (at 4 ⊗ at 0 ⊕ at 5 ⊗ at 3)) refl
        ∙ sym (ap₂ (λ s t. A.add (A.mul (κ (minus K Q b.x a.x)) s) (A.neg (A.mul (κ (minus K Q c.x a.x)) t)))
        (map_derivative 1 (λ j. I.derivative-coordinate_other K Q 1 (suc (suc j)) refl) _ _ (second_slope a.x b.x c.x) (second_slope a.y b.y c.y) p)
        (map_derivative 0 (λ j. I.derivative-coordinate_other K Q 0 (suc (suc j)) refl) _ _ (first_slope a.x b.x c.x) (first_slope a.y b.y c.y) p))

    -- the law of change of variables for triangles
    pub triangle_law : (p : Polynomial K) → triangle K Q a b c p ≡ A.mul (κ (area_of K Q a b c)) (reference (▹ (across K Q a b c) p))
    unfolding triangle
    triangle_law p =
        ap₂ (λ f g. A.add (A.neg f) g)
        (facet_is b c P ∙ ap₂ A.mul (I.constant-minus K Q c.x b.x) (sym (along_slanted P)))
        (ap₂ (λ f g. A.add f (A.neg g)) (facet_is a c P ∙ ap₂ A.mul (I.constant-minus K Q c.x a.x) (sym (along_left P))) (facet_is a b P ∙ ap₂ A.mul (I.constant-minus K Q b.x a.x) (sym (along_bottom P))))
        ∙ Solve.ring A (κ a.x ∷ κ b.x ∷ κ c.x ∷ slanted (▹ F P) ∷ left (▹ F P) ∷ bottom (▹ F P) ∷ [])
        (opposite ((at 2 ⊖ at 1) ⊗ at 3) ⊕ ((at 2 ⊖ at 0) ⊗ at 4 ⊕ opposite ((at 1 ⊖ at 0) ⊗ at 5)))
        ((at 1 ⊖ at 0) ⊗ (at 3 ⊖ at 5) ⊖ (at 2 ⊖ at 0) ⊗ (at 3 ⊖ at 4)) refl
        ∙ sym (ap (λ q. A.mul (κ (area_of K Q a b c)) (reference (▹ F q))) (sym (J.derivative-anti K Q.division 1 p))
        ∙ sym (reference-scaled (area_of K Q a b c) (▹ F (d 1 P)))
        ∙ ap reference (as_divergence P)
        ∙ reference-add _ _
        ∙ ap₂ A.add
        (reference-scaled _ _ ∙ ap₂ A.mul (I.constant-minus K Q b.x a.x) (reference_second (▹ F P)))
        (reference-neg _ ∙ ap A.neg (reference-scaled _ _ ∙ ap₂ A.mul (I.constant-minus K Q c.x a.x) (reference_first (▹ F P)))))
      where
        P : Polynomial K
        P = anti 1 p
