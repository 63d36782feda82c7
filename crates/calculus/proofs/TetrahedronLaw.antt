-- The change of variables on tetrahedra
use Rattle.std.proofs.Common.{◌≡◌, ℕ, zero, suc, Bool, true, false, refl, sym, ◌∙◌, ap, ap₂, [], ◌∷◌, pos}
use Rattle.algebra.specs.Ring.{Ring}
use Rattle.algebra.specs.RingLaws as L
use Rattle.algebra.specs.Solver.{Expr, at, num, ◌⊕◌, ◌⊗◌, ◌⊖◌, unity, minus as opposite}
use Rattle.algebra.specs.Sound as Solve
use Rattle.calculus.specs.OverRing.{Polynomial, ring, constant, coordinate, derivative, constant-IsRingMap, replaced, antiderivative, instead}
use Rattle.calculus.proofs.WrittenOut.{minus, difference, area_of, facet, triangle, across, corner, first_unit, second_unit, third_unit, volume_of, polynomial_area, height_of_three, facet_of_three, tetrahedron, image, through}
use Rattle.calculus.specs.Field.{Field}
use Rattle.calculus.specs.Point.{Point}
use Rattle.calculus.proofs.OverRingLaws as C
use Rattle.calculus.proofs.Antiderivative as J
use Rattle.calculus.proofs.IntervalLaw as I
use Rattle.calculus.proofs.TriangleLaw as T

module _ {R : Type 0} (K : Ring R) (Q : Field K) where
  abbrev pub A : Ring (Polynomial K)
  A = ring K

  abbrev pub anti : ℕ → Polynomial K → Polynomial K
  anti i p = antiderivative K Q.division i p

  abbrev pub d : ℕ → Polynomial K → Polynomial K
  d i p = derivative K i p

  abbrev pub ▹ : (ℕ → Polynomial K) → Polynomial K → Polynomial K
  ▹ s p = replaced K s p

  abbrev pub κ : R → Polynomial K
  κ a = constant K a

  abbrev pub X : Polynomial K
  X = coordinate K 0

  abbrev pub Y : Polynomial K
  Y = coordinate K 1

  abbrev Z : Polynomial K
  Z = coordinate K 2

  abbrev pub _-_ : Polynomial K → Polynomial K → Polynomial K
  _-_ p q = difference K Q p q

  abbrev pub plane : R → R → R → Polynomial K
  plane u v w = A.add (κ u) (A.add (A.mul X (κ (minus K Q v u))) (A.mul Y (κ (minus K Q w u))))

  -- the points of a triangle in space
  abbrev pub sheet : Point R → Point R → Point R → ℕ → Polynomial K
  sheet u v w zero = plane u.x v.x w.x
  sheet u v w (suc zero) = plane u.y v.y w.y
  sheet u v w (suc (suc zero)) = plane u.z v.z w.z
  sheet u v w (suc (suc (suc j))) = coordinate K (suc (suc (suc j)))

  abbrev pub reference₂ : Polynomial K → Polynomial K
  reference₂ q = triangle K Q (corner K Q) (first_unit K Q) (second_unit K Q) q

  abbrev pub over : Point R → Point R → Point R → Polynomial K → Polynomial K
  over u v w p = reference₂ (▹ (sheet u v w) p)

  -- constants spelt out, for the solver
  pub plane_spread : (u v w : R) → plane u v w ≡ A.add (κ u) (A.add (A.mul X (_-_ (κ v) (κ u))) (A.mul Y (_-_ (κ w) (κ u))))
  plane_spread u v w = ap₂ (λ s t. A.add (κ u) (A.add (A.mul X s) (A.mul Y t))) (I.constant-minus K Q v u) (I.constant-minus K Q w u)

  area_spread : (u v w : Point R) → κ (area_of K Q u v w) ≡ polynomial_area K Q (κ u.x) (κ u.y) (κ v.x) (κ v.y) (κ w.x) (κ w.y)
  area_spread u v w =
      I.constant-minus K Q _ _
      ∙ ap₂ (_-_)
      ((constant-IsRingMap K).multiplies _ _ ∙ ap₂ A.mul (I.constant-minus K Q v.x u.x) (I.constant-minus K Q w.y u.y))
      ((constant-IsRingMap K).multiplies _ _ ∙ ap₂ A.mul (I.constant-minus K Q w.x u.x) (I.constant-minus K Q v.y u.y))

  moved_difference : (s : ℕ → Polynomial K) (p q : Polynomial K) → ▹ s (_-_ p q) ≡ _-_ (▹ s p) (▹ s q)
  moved_difference s p q = C.replaced-add K s p (A.neg q) ∙ ap (A.add (▹ s p)) (I.replaced-neg K Q s q)

  moved_area : (s : ℕ → Polynomial K) (a b c e f g : Polynomial K) → ▹ s (polynomial_area K Q a b c e f g) ≡ polynomial_area K Q (▹ s a) (▹ s b) (▹ s c) (▹ s e) (▹ s f) (▹ s g)
  moved_area s a b c e f g =
      moved_difference s _ _
      ∙ ap₂ (_-_)
      (C.replaced-mul K s _ _ ∙ ap₂ A.mul (moved_difference s c a) (moved_difference s g b))
      (C.replaced-mul K s _ _ ∙ ap₂ A.mul (moved_difference s f a) (moved_difference s e b))

  -- ---- a facet, by its parameters
  area_same : {a a' b b' c c' e e' f f' g g' : Polynomial K} → a ≡ a' → b ≡ b' → c ≡ c' → e ≡ e' → f ≡ f' → g ≡ g'
      → polynomial_area K Q a b c e f g ≡ polynomial_area K Q a' b' c' e' f' g'
  area_same ha hb hc he hf hg = ap₂ (_-_) (ap₂ A.mul (ap₂ (_-_) hc ha) (ap₂ (_-_) hg hb)) (ap₂ A.mul (ap₂ (_-_) hf ha) (ap₂ (_-_) he hb))

  moved_height : (u v w : Point R) → Q.is_nought (area_of K Q u v w) ≡ false → ▹ (across K Q u v w) (height_of_three K Q u v w) ≡ plane u.z v.z w.z
  moved_height u v w h =
      C.replaced-add K s _ _
      ∙ ap₂ A.add (part u.z _ _ (moved_area s _ _ _ _ _ _ ∙ area_same first second (fixed v.x) (fixed v.y) (fixed w.x) (fixed w.y)))
      (C.replaced-add K s _ _
      ∙ ap₂ A.add (part v.z _ _ (moved_area s _ _ _ _ _ _ ∙ area_same (fixed u.x) (fixed u.y) first second (fixed w.x) (fixed w.y)))
      (part w.z _ _ (moved_area s _ _ _ _ _ _ ∙ area_same (fixed u.x) (fixed u.y) (fixed v.x) (fixed v.y) first second)))
      ∙ Solve.ring_from A (κ u.x ∷ κ u.y ∷ κ u.z ∷ κ v.x ∷ κ v.y ∷ κ v.z ∷ κ w.x ∷ κ w.y ∷ κ w.z ∷ κ (Q.inverse (area_of K Q u v w)) ∷ X ∷ Y ∷ [])
      (at 2 ⊗ (at 9 ⊗ area px py (at 3) (at 4) (at 6) (at 7)) ⊕ (at 5 ⊗ (at 9 ⊗ area (at 0) (at 1) px py (at 6) (at 7)) ⊕ at 8 ⊗ (at 9 ⊗ area (at 0) (at 1) (at 3) (at 4) px py)))
      (at 2 ⊕ (at 10 ⊗ (at 5 ⊖ at 2) ⊕ at 11 ⊗ (at 8 ⊖ at 2)))
      (at 2 ⊗ (unity ⊖ at 10 ⊖ at 11) ⊕ at 5 ⊗ at 10 ⊕ at 8 ⊗ at 11)
      (area (at 0) (at 1) (at 3) (at 4) (at 6) (at 7) ⊗ at 9) unity
      (ap (λ x. A.mul x (κ (Q.inverse (area_of K Q u v w)))) (sym (area_spread u v w)) ∙ sym ((constant-IsRingMap K).multiplies _ _) ∙ ap (λ x. constant K x) (Q.inverse-mul (area_of K Q u v w) h))
      refl
      ∙ sym (plane_spread u.z v.z w.z)
    where
      s : ℕ → Polynomial K
      s = across K Q u v w

      area : (a b c e f g : Expr) → Expr
      area a b c e f g = (c ⊖ a) ⊗ (g ⊖ b) ⊖ (f ⊖ a) ⊗ (e ⊖ b)

      px : Expr
      px = at 0 ⊕ (at 10 ⊗ (at 3 ⊖ at 0) ⊕ at 11 ⊗ (at 6 ⊖ at 0))

      py : Expr
      py = at 1 ⊕ (at 10 ⊗ (at 4 ⊖ at 1) ⊕ at 11 ⊗ (at 7 ⊖ at 1))

      first : ▹ (across K Q u v w) X ≡ A.add (κ u.x) (A.add (A.mul X (_-_ (κ v.x) (κ u.x))) (A.mul Y (_-_ (κ w.x) (κ u.x))))
      first = C.replaced-coordinate K (across K Q u v w) 0 ∙ plane_spread u.x v.x w.x

      second : ▹ (across K Q u v w) Y ≡ A.add (κ u.y) (A.add (A.mul X (_-_ (κ v.y) (κ u.y))) (A.mul Y (_-_ (κ w.y) (κ u.y))))
      second = C.replaced-coordinate K (across K Q u v w) 1 ∙ plane_spread u.y v.y w.y

      fixed : (a : R) → ▹ (across K Q u v w) (κ a) ≡ κ a
      fixed a = C.replaced-constant K (across K Q u v w) a

      part : (a : R) (p q : Polynomial K) → ▹ (across K Q u v w) p ≡ q
          → ▹ (across K Q u v w) (A.mul (κ a) (A.mul (κ (Q.inverse (area_of K Q u v w))) p)) ≡ A.mul (κ a) (A.mul (κ (Q.inverse (area_of K Q u v w))) q)
      part a p q e = C.replaced-mul K (across K Q u v w) _ _ ∙ ap₂ A.mul (fixed a) (C.replaced-mul K (across K Q u v w) _ _ ∙ ap₂ A.mul (fixed _) e)

  pub facet_is : (u v w : Point R) (p : Polynomial K) → facet_of_three K Q u v w p ≡ A.mul (κ (area_of K Q u v w)) (over u v w p)
  unfolding facet_of_three
  facet_is u v w p = go (Q.is_nought (area_of K Q u v w)) refl
    where
      pointwise : Q.is_nought (area_of K Q u v w) ≡ false → (j : ℕ) → ▹ (across K Q u v w) (instead K 2 (height_of_three K Q u v w) j) ≡ sheet u v w j
      pointwise h zero = C.replaced-coordinate K (across K Q u v w) 0
      pointwise h (suc zero) = C.replaced-coordinate K (across K Q u v w) 1
      pointwise h (suc (suc zero)) = moved_height u v w h
      pointwise h (suc (suc (suc j))) = C.replaced-coordinate K (across K Q u v w) (suc (suc (suc j)))

      go : (b : Bool) → Q.is_nought (area_of K Q u v w) ≡ b
          → elim b [ true ↦ A.zero | false ↦ triangle K Q u v w (▹ (instead K 2 (height_of_three K Q u v w)) p) ] ≡ A.mul (κ (area_of K Q u v w)) (over u v w p)
      go true h = sym (ap (λ x. A.mul (constant K x) (over u v w p)) (Q.nought (area_of K Q u v w) h) ∙ ap (λ x. A.mul x (over u v w p)) (I.constant-zero K Q) ∙ L.zero-mul A _)
      go false h =
          T.triangle_law K Q u v w (▹ (instead K 2 (height_of_three K Q u v w)) p)
          ∙ ap (λ x. A.mul (κ (area_of K Q u v w)) (reference₂ x))
          (C.replaced-replaced K (across K Q u v w) (instead K 2 (height_of_three K Q u v w)) p ∙ C.replaced-same K _ (sheet u v w) (pointwise h) p)

  -- ---- what the terms without the third variable give
  replaced_cut : (s : ℕ → Polynomial K) → s 2 ≡ A.zero → (p : Polynomial K) → ▹ s (J.cut K Q.division 2 p) ≡ ▹ s p
  replaced_cut s h p = C.replaced-replaced K s (instead K 2 A.zero) p ∙ C.replaced-same K _ s at_each p
    where
      at_each : (j : ℕ) → ▹ s (instead K 2 A.zero j) ≡ s j
      at_each zero = C.replaced-coordinate K s 0
      at_each (suc zero) = C.replaced-coordinate K s 1
      at_each (suc (suc zero)) = I.replaced-zero K Q s ∙ sym h
      at_each (suc (suc (suc j))) = C.replaced-coordinate K s (suc (suc (suc j)))

  replaced_anti : (s : ℕ → Polynomial K) → s 2 ≡ A.zero → (q : Polynomial K) → ▹ s (anti 2 q) ≡ A.zero
  replaced_anti s h q = sym (replaced_cut s h (anti 2 q)) ∙ ap (▹ s) (T.anti_vanishes K Q 2 q) ∙ I.replaced-zero K Q s

  pub reference₂-zero : reference₂ A.zero ≡ A.zero
  reference₂-zero = L.add_right_cancel A _ _ (reference₂ A.zero) (sym (T.reference-add K Q A.zero A.zero) ∙ ap reference₂ (A.add_zero A.zero) ∙ sym (L.zero-add A _))

  -- ---- the triangle's integral does not change where its corners go round
  facet_turned : (u w : Point R) (p : Polynomial K) → facet K Q w u p ≡ A.neg (facet K Q u w p)
  facet_turned u w p =
      T.facet_is K Q w u p
      ∙ ap₂ A.mul (I.constant-minus K Q u.x w.x) (sym (T.reflected K Q _) ∙ ap (T.unit_integral K Q) (C.replaced-replaced K _ (T.segment K Q w u) p ∙ C.replaced-same K _ _ at_each p))
      ∙ Solve.ring A (κ u.x ∷ κ w.x ∷ T.over K Q u w p ∷ []) ((at 0 ⊖ at 1) ⊗ at 2) (opposite ((at 1 ⊖ at 0) ⊗ at 2)) refl
      ∙ ap A.neg (ap (λ x. A.mul x (T.over K Q u w p)) (sym (I.constant-minus K Q w.x u.x)) ∙ sym (T.facet_is K Q u w p))
    where
      turned : (a b : R) → ▹ (instead K 0 (A.add (κ K.one) (A.mul X (κ (minus K Q K.zero K.one))))) (A.add (κ a) (A.mul X (κ (minus K Q b a)))) ≡ A.add (κ b) (A.mul X (κ (minus K Q a b)))
      turned a b =
          T.moved_line K Q _ a b
          ∙ ap₂ (λ s t. A.add (κ a) (A.mul (A.add A.one (A.mul X s)) t)) (T.minus-one K Q) (I.constant-minus K Q b a)
          ∙ Solve.ring A (κ a ∷ κ b ∷ X ∷ []) (at 0 ⊕ (unity ⊕ at 2 ⊗ opposite unity) ⊗ (at 1 ⊖ at 0)) (at 1 ⊕ at 2 ⊗ (at 0 ⊖ at 1)) refl
          ∙ ap (λ s. A.add (κ b) (A.mul X s)) (sym (I.constant-minus K Q a b))

      at_each : (j : ℕ) → ▹ (instead K 0 (A.add (κ K.one) (A.mul X (κ (minus K Q K.zero K.one))))) (T.segment K Q w u j) ≡ T.segment K Q u w j
      at_each zero = turned w.x u.x
      at_each (suc zero) = turned w.y u.y
      at_each (suc (suc j)) = C.replaced-coordinate K (instead K 0 (A.add (κ K.one) (A.mul X (κ (minus K Q K.zero K.one))))) (suc (suc j))

  triangle_turned : (a b c : Point R) (p : Polynomial K) → triangle K Q b c a p ≡ triangle K Q a b c p
  unfolding triangle
  triangle_turned a b c p =
      ap₂ (λ f g. A.add (A.neg f) g) (facet_turned a c P) (ap (λ f. A.add f (A.neg (facet K Q b c P))) (facet_turned a b P))
      ∙ Solve.ring A (facet K Q a c P ∷ facet K Q a b P ∷ facet K Q b c P ∷ []) (opposite (opposite (at 0)) ⊕ (opposite (at 1) ⊕ opposite (at 2))) (opposite (at 2) ⊕ (at 0 ⊕ opposite (at 1))) refl
    where
      P : Polynomial K
      P = anti 1 p

  one-minus : κ (minus K Q K.one K.zero) ≡ A.one
  one-minus = I.constant-minus K Q K.one K.zero ∙ ap (_-_ A.one) (I.constant-zero K Q) ∙ Solve.ring A [] (unity ⊖ num (pos 0)) unity refl

  -- the reference triangle, from its second corner on
  reference₂_turned : (q : Polynomial K) → reference₂ (▹ (across K Q (first_unit K Q) (second_unit K Q) (corner K Q)) q) ≡ reference₂ q
  reference₂_turned q =
      sym (L.one-mul A _)
      ∙ ap (λ x. A.mul x (reference₂ (▹ (across K Q (first_unit K Q) (second_unit K Q) (corner K Q)) q))) (sym whole)
      ∙ sym (T.triangle_law K Q (first_unit K Q) (second_unit K Q) (corner K Q) q)
      ∙ triangle_turned (corner K Q) (first_unit K Q) (second_unit K Q) q
    where
      whole : κ (area_of K Q (first_unit K Q) (second_unit K Q) (corner K Q)) ≡ A.one
      whole =
          area_spread (first_unit K Q) (second_unit K Q) (corner K Q)
          ∙ ap (λ z. polynomial_area K Q A.one z z A.one z z) (I.constant-zero K Q)
          ∙ Solve.ring A [] ((num (pos 0) ⊖ unity) ⊗ (num (pos 0) ⊖ num (pos 0)) ⊖ (num (pos 0) ⊖ unity) ⊗ (unity ⊖ num (pos 0))) unity refl

  -- ---- the reference tetrahedron
  abbrev pub o : Point R
  o = corner K Q

  abbrev pub e₁ : Point R
  e₁ = first_unit K Q

  abbrev pub e₂ : Point R
  e₂ = second_unit K Q

  abbrev pub e₃ : Point R
  e₃ = third_unit K Q

  abbrev pub reference₃ : Polynomial K → Polynomial K
  reference₃ q = tetrahedron K Q o e₁ e₂ e₃ q

  abbrev pub slanted : Polynomial K → Polynomial K
  slanted p = over e₁ e₂ e₃ p

  flat_plane : (a : R) → plane a a a ≡ κ a
  flat_plane a = plane_spread a a a ∙ Solve.ring A (κ a ∷ X ∷ Y ∷ []) (at 0 ⊕ (at 1 ⊗ (at 0 ⊖ at 0) ⊕ at 2 ⊗ (at 0 ⊖ at 0))) (at 0) refl

  over_bottom_zero : (q : Polynomial K) → over o e₁ e₂ (anti 2 q) ≡ A.zero
  over_bottom_zero q = ap reference₂ (replaced_anti (sheet o e₁ e₂) (flat_plane K.zero ∙ I.constant-zero K Q) q) ∙ reference₂-zero

  shadow : (u v w : Point R) (x : Polynomial K) → polynomial_area K Q (κ u.x) (κ u.y) (κ v.x) (κ v.y) (κ w.x) (κ w.y) ≡ x → (p : Polynomial K) → facet_of_three K Q u v w p ≡ A.mul x (over u v w p)
  shadow u v w x h p = facet_is u v w p ∙ ap (λ y. A.mul y (over u v w p)) (area_spread u v w ∙ h)

  pub reference₃_is : (q : Polynomial K) → reference₃ q ≡ slanted (anti 2 q)
  unfolding tetrahedron
  reference₃_is q =
      ap₂ A.add
      (shadow e₁ e₂ e₃ A.one (zeros (λ z. polynomial_area K Q A.one z z A.one z z) ∙ Solve.ring A [] ((num (pos 0) ⊖ unity) ⊗ (num (pos 0) ⊖ num (pos 0)) ⊖ (num (pos 0) ⊖ unity) ⊗ (unity ⊖ num (pos 0))) unity refl) P)
      (ap₂ (λ f g. A.add (A.neg f) g)
      (shadow o e₂ e₃ A.zero (zeros (λ z. polynomial_area K Q z z z A.one z z) ∙ Solve.ring A [] ((num (pos 0) ⊖ num (pos 0)) ⊗ (num (pos 0) ⊖ num (pos 0)) ⊖ (num (pos 0) ⊖ num (pos 0)) ⊗ (unity ⊖ num (pos 0))) (num (pos 0)) refl) P)
      (ap₂ (λ f g. A.add f (A.neg g))
      (shadow o e₁ e₃ A.zero (zeros (λ z. polynomial_area K Q z z A.one z z z) ∙ Solve.ring A [] ((unity ⊖ num (pos 0)) ⊗ (num (pos 0) ⊖ num (pos 0)) ⊖ (num (pos 0) ⊖ num (pos 0)) ⊗ (num (pos 0) ⊖ num (pos 0))) (num (pos 0)) refl) P)
      (facet_is o e₁ e₂ P ∙ ap (A.mul (κ (area_of K Q o e₁ e₂))) (over_bottom_zero q) ∙ L.mul-zero A _)))
      ∙ Solve.ring A (over e₁ e₂ e₃ P ∷ over o e₂ e₃ P ∷ over o e₁ e₃ P ∷ []) (unity ⊗ at 0 ⊕ (opposite (num (pos 0) ⊗ at 1) ⊕ (num (pos 0) ⊗ at 2 ⊕ opposite (num (pos 0))))) (at 0) refl
    where
      P : Polynomial K
      P = anti 2 q

      zeros : (f : Polynomial K → Polynomial K) → f (κ K.zero) ≡ f A.zero
      zeros f = ap f (I.constant-zero K Q)

  slanted-add : (p q : Polynomial K) → slanted (A.add p q) ≡ A.add (slanted p) (slanted q)
  slanted-add p q = ap reference₂ (C.replaced-add K (sheet e₁ e₂ e₃) p q) ∙ T.reference-add K Q _ _

  abbrev pub bottom : Polynomial K → Polynomial K
  bottom p = reference₂ (J.cut K Q.division 2 p)

  slanted_cut : (p : Polynomial K) → slanted (J.cut K Q.division 2 p) ≡ bottom p
  slanted_cut p =
      ap reference₂ (C.replaced-replaced K (sheet e₁ e₂ e₃) (instead K 2 A.zero) p ∙ C.replaced-same K _ _ at_each p ∙ sym (C.replaced-replaced K (across K Q e₁ e₂ o) (instead K 2 A.zero) p))
      ∙ reference₂_turned (J.cut K Q.division 2 p)
    where
      at_each : (j : ℕ) → ▹ (sheet e₁ e₂ e₃) (instead K 2 A.zero j) ≡ ▹ (across K Q e₁ e₂ o) (instead K 2 A.zero j)
      at_each zero = C.replaced-coordinate K (sheet e₁ e₂ e₃) 0 ∙ sym (C.replaced-coordinate K (across K Q e₁ e₂ o) 0)
      at_each (suc zero) = C.replaced-coordinate K (sheet e₁ e₂ e₃) 1 ∙ sym (C.replaced-coordinate K (across K Q e₁ e₂ o) 1)
      at_each (suc (suc zero)) = I.replaced-zero K Q (sheet e₁ e₂ e₃) ∙ sym (I.replaced-zero K Q (across K Q e₁ e₂ o))
      at_each (suc (suc (suc j))) = C.replaced-coordinate K (sheet e₁ e₂ e₃) (suc (suc (suc j))) ∙ sym (C.replaced-coordinate K (across K Q e₁ e₂ o) (suc (suc (suc j))))

  -- ---- the boundary law in the third variable
  pub reference_third : (q : Polynomial K) → reference₃ (d 2 q) ≡ _-_ (slanted q) (bottom q)
  reference_third q =
      reference₃_is (d 2 q)
      ∙ Solve.ring A (slanted (anti 2 (d 2 q)) ∷ slanted (J.cut K Q.division 2 q) ∷ []) (at 0) ((at 0 ⊕ at 1) ⊖ at 1) refl
      ∙ ap₂ (_-_) (sym (slanted-add (anti 2 (d 2 q)) (J.cut K Q.division 2 q)) ∙ ap slanted (J.anti-derivative K Q.division 2 q)) (slanted_cut q)

  -- ---- and in the first and the second
  -- an edge in space
  abbrev edge_points : Point R → Point R → ℕ → Polynomial K
  edge_points u w zero = T.line K Q u.x w.x
  edge_points u w (suc zero) = T.line K Q u.y w.y
  edge_points u w (suc (suc zero)) = T.line K Q u.z w.z
  edge_points u w (suc (suc (suc j))) = coordinate K (suc (suc (suc j)))

  abbrev edge : Point R → Point R → Polynomial K → Polynomial K
  edge u w p = T.unit_integral K Q (▹ (edge_points u w) p)

  slanted_edge : (u v w : Point R) (p : Polynomial K) → T.slanted K Q (▹ (sheet u v w) p) ≡ edge v w p
  slanted_edge u v w p = ap (T.unit_integral K Q) (C.replaced-replaced K _ (sheet u v w) p ∙ C.replaced-same K _ (edge_points v w) at_each p)
    where
      at_each : (j : ℕ) → ▹ (T.segment K Q e₁ e₂) (sheet u v w j) ≡ edge_points v w j
      at_each zero = T.on_slanted K Q o o o u.x v.x w.x
      at_each (suc zero) = T.on_slanted K Q o o o u.y v.y w.y
      at_each (suc (suc zero)) = T.on_slanted K Q o o o u.z v.z w.z
      at_each (suc (suc (suc j))) = C.replaced-coordinate K (T.segment K Q e₁ e₂) (suc (suc (suc j)))

  left_edge : (u v w : Point R) (p : Polynomial K) → T.left K Q (▹ (sheet u v w) p) ≡ edge u w p
  left_edge u v w p = ap (T.unit_integral K Q) (C.replaced-replaced K _ (sheet u v w) p ∙ C.replaced-same K _ (edge_points u w) at_each p)
    where
      at_each : (j : ℕ) → ▹ (T.segment K Q o e₂) (sheet u v w j) ≡ edge_points u w j
      at_each zero = T.on_left K Q o o o u.x v.x w.x
      at_each (suc zero) = T.on_left K Q o o o u.y v.y w.y
      at_each (suc (suc zero)) = T.on_left K Q o o o u.z v.z w.z
      at_each (suc (suc (suc j))) = C.replaced-coordinate K (T.segment K Q o e₂) (suc (suc (suc j)))

  -- the lower edge of a sheet that starts at the third coordinate 0
  lower_edge : (u v w : Point R) → u.z ≡ K.zero → v.z ≡ K.zero → (q : Polynomial K) → T.bottom K Q (▹ (sheet u v w) (anti 2 q)) ≡ A.zero
  lower_edge u v w hu hv q =
      ap (T.unit_integral K Q) (C.replaced-replaced K (instead K 1 A.zero) (sheet u v w) (anti 2 q) ∙ replaced_anti _ third q)
      ∙ T.integral-zero K Q
    where
      third : ▹ (instead K 1 A.zero) (plane u.z v.z w.z) ≡ A.zero
      third =
          ap₂ (λ a b. ▹ (instead K 1 A.zero) (plane a b w.z)) hu hv
          ∙ T.moved_affine K Q o o o (instead K 1 A.zero) K.zero K.zero w.z
          ∙ ap (λ z. A.add z (A.add (A.mul X (_-_ z z)) (A.mul A.zero (_-_ (κ w.z) z)))) (I.constant-zero K Q)
          ∙ Solve.ring A (X ∷ κ w.z ∷ []) (num (pos 0) ⊕ (at 0 ⊗ (num (pos 0) ⊖ num (pos 0)) ⊕ num (pos 0) ⊗ (at 1 ⊖ num (pos 0)))) (num (pos 0)) refl

  -- the integral of a derivative along a sheet
  scaled_right : (c : R) (p : Polynomial K) → reference₂ (A.mul p (κ c)) ≡ A.mul (reference₂ p) (κ c)
  scaled_right c p = ap reference₂ (A.mul_comm p (κ c)) ∙ T.reference-scaled K Q c p ∙ A.mul_comm (κ c) (reference₂ p)

  three_parts : (p q r : Polynomial K) (a b c : R) → reference₂ (A.add (A.mul p (κ a)) (A.add (A.mul q (κ b)) (A.mul r (κ c))))
      ≡ A.add (A.mul (reference₂ p) (κ a)) (A.add (A.mul (reference₂ q) (κ b)) (A.mul (reference₂ r) (κ c)))
  three_parts p q r a b c =
      T.reference-add K Q _ _ ∙ ap₂ A.add (scaled_right a p) (T.reference-add K Q _ _ ∙ ap₂ A.add (scaled_right b q) (scaled_right c r))

  first_way : (u v w : Point R) (p : Polynomial K) → reference₂ (d 0 (▹ (sheet u v w) p))
      ≡ A.add (A.mul (over u v w (d 0 p)) (κ (minus K Q v.x u.x))) (A.add (A.mul (over u v w (d 1 p)) (κ (minus K Q v.y u.y))) (A.mul (over u v w (d 2 p)) (κ (minus K Q v.z u.z))))
  first_way u v w p =
      ap reference₂
      (C.chain K (sheet u v w) 0 (λ i. I.derivative-coordinate_other K Q 0 (suc (suc (suc i))) refl) p
      ∙ ap₂ A.add (ap (A.mul (▹ (sheet u v w) (d 0 p))) (T.first_slope K Q o o o u.x v.x w.x))
      (ap₂ A.add (ap (A.mul (▹ (sheet u v w) (d 1 p))) (T.first_slope K Q o o o u.y v.y w.y)) (ap (A.mul (▹ (sheet u v w) (d 2 p))) (T.first_slope K Q o o o u.z v.z w.z))))
      ∙ three_parts _ _ _ _ _ _

  second_way : (u v w : Point R) (p : Polynomial K) → reference₂ (d 1 (▹ (sheet u v w) p))
      ≡ A.add (A.mul (over u v w (d 0 p)) (κ (minus K Q w.x u.x))) (A.add (A.mul (over u v w (d 1 p)) (κ (minus K Q w.y u.y))) (A.mul (over u v w (d 2 p)) (κ (minus K Q w.z u.z))))
  second_way u v w p =
      ap reference₂
      (C.chain K (sheet u v w) 1 (λ i. I.derivative-coordinate_other K Q 1 (suc (suc (suc i))) refl) p
      ∙ ap₂ A.add (ap (A.mul (▹ (sheet u v w) (d 0 p))) (T.second_slope K Q o o o u.x v.x w.x))
      (ap₂ A.add (ap (A.mul (▹ (sheet u v w) (d 1 p))) (T.second_slope K Q o o o u.y v.y w.y)) (ap (A.mul (▹ (sheet u v w) (d 2 p))) (T.second_slope K Q o o o u.z v.z w.z))))
      ∙ three_parts _ _ _ _ _ _

  minus-one : κ (minus K Q K.zero K.one) ≡ A.neg A.one
  minus-one = T.minus-one K Q

  none : κ (minus K Q K.zero K.zero) ≡ A.zero
  none = T.zero_slope K Q K.zero

  combined : (x y z : Polynomial K) {a a' b b' c c' : Polynomial K} → a ≡ a' → b ≡ b' → c ≡ c'
      → A.add (A.mul x a) (A.add (A.mul y b) (A.mul z c)) ≡ A.add (A.mul x a') (A.add (A.mul y b') (A.mul z c'))
  combined x y z ha hb hc = ap₂ A.add (ap (A.mul x) ha) (ap₂ A.add (ap (A.mul y) hb) (ap (A.mul z) hc))

  second_way_ends : (u v w : Point R) → u.z ≡ K.zero → v.z ≡ K.zero → (q : Polynomial K) → reference₂ (d 1 (▹ (sheet u v w) (anti 2 q))) ≡ edge v w (anti 2 q)
  second_way_ends u v w hu hv q =
      T.reference_second K Q (▹ (sheet u v w) (anti 2 q))
      ∙ ap₂ (_-_) (slanted_edge u v w (anti 2 q)) (lower_edge u v w hu hv q)
      ∙ Solve.ring A (edge v w (anti 2 q) ∷ []) (at 0 ⊖ num (pos 0)) (at 0) refl

  -- what stands over the slanted side, over x = 0 and over y = 0
  on_slanted : (q : Polynomial K) → A.add (A.neg (slanted (d 0 (anti 2 q)))) (slanted q) ≡ edge e₂ e₃ (anti 2 q)
  on_slanted q =
      Solve.ring A (slanted (d 0 R') ∷ slanted (d 1 R') ∷ slanted q ∷ []) (opposite (at 0) ⊕ at 2) (at 0 ⊗ opposite unity ⊕ (at 1 ⊗ num (pos 0) ⊕ at 2 ⊗ unity)) refl
      ∙ combined (slanted (d 0 R')) (slanted (d 1 R')) (slanted q) (sym minus-one) (sym none) (sym one-minus)
      ∙ ap (λ t. A.add (A.mul (slanted (d 0 R')) (κ (minus K Q K.zero K.one))) (A.add (A.mul (slanted (d 1 R')) (κ (minus K Q K.zero K.zero))) (A.mul (slanted t) (κ (minus K Q K.one K.zero))))) (sym (J.derivative-anti K Q.division 2 q))
      ∙ sym (second_way e₁ e₂ e₃ R')
      ∙ second_way_ends e₁ e₂ e₃ refl refl q
    where
      R' : Polynomial K
      R' = anti 2 q

  on_first : (q : Polynomial K) → over o e₂ e₃ q ≡ edge e₂ e₃ (anti 2 q)
  on_first q =
      Solve.ring A (over o e₂ e₃ (d 0 R') ∷ over o e₂ e₃ (d 1 R') ∷ over o e₂ e₃ q ∷ []) (at 2) (at 0 ⊗ num (pos 0) ⊕ (at 1 ⊗ num (pos 0) ⊕ at 2 ⊗ unity)) refl
      ∙ combined (over o e₂ e₃ (d 0 R')) (over o e₂ e₃ (d 1 R')) (over o e₂ e₃ q) (sym none) (sym none) (sym one-minus)
      ∙ ap (λ t. A.add (A.mul (over o e₂ e₃ (d 0 R')) (κ (minus K Q K.zero K.zero))) (A.add (A.mul (over o e₂ e₃ (d 1 R')) (κ (minus K Q K.zero K.zero))) (A.mul (over o e₂ e₃ t) (κ (minus K Q K.one K.zero))))) (sym (J.derivative-anti K Q.division 2 q))
      ∙ sym (second_way o e₂ e₃ R')
      ∙ second_way_ends o e₂ e₃ refl refl q
    where
      R' : Polynomial K
      R' = anti 2 q

  on_second : (q : Polynomial K) → over o e₁ e₃ q ≡ edge e₁ e₃ (anti 2 q)
  on_second q =
      Solve.ring A (over o e₁ e₃ (d 0 R') ∷ over o e₁ e₃ (d 1 R') ∷ over o e₁ e₃ q ∷ []) (at 2) (at 0 ⊗ num (pos 0) ⊕ (at 1 ⊗ num (pos 0) ⊕ at 2 ⊗ unity)) refl
      ∙ combined (over o e₁ e₃ (d 0 R')) (over o e₁ e₃ (d 1 R')) (over o e₁ e₃ q) (sym none) (sym none) (sym one-minus)
      ∙ ap (λ t. A.add (A.mul (over o e₁ e₃ (d 0 R')) (κ (minus K Q K.zero K.zero))) (A.add (A.mul (over o e₁ e₃ (d 1 R')) (κ (minus K Q K.zero K.zero))) (A.mul (over o e₁ e₃ t) (κ (minus K Q K.one K.zero))))) (sym (J.derivative-anti K Q.division 2 q))
      ∙ sym (second_way o e₁ e₃ R')
      ∙ second_way_ends o e₁ e₃ refl refl q
    where
      R' : Polynomial K
      R' = anti 2 q

  pub reference_first : (q : Polynomial K) → reference₃ (d 0 q) ≡ _-_ (slanted q) (over o e₂ e₃ q)
  reference_first q =
      reference₃_is (d 0 q)
      ∙ ap slanted (J.anti_commutes K Q.division 2 0 refl q)
      ∙ Solve.ring_from A (slanted (d 0 (anti 2 q)) ∷ slanted q ∷ over o e₂ e₃ q ∷ []) (at 0) (at 1 ⊖ at 2) (opposite unity) (opposite (at 0) ⊕ at 1) (at 2)
      (on_slanted q ∙ sym (on_first q)) refl

  between : (q : Polynomial K) → A.add (A.neg (slanted (d 0 (anti 2 q)))) (slanted (d 1 (anti 2 q))) ≡ _-_ (edge e₂ e₃ (anti 2 q)) (edge e₁ e₃ (anti 2 q))
  between q =
      Solve.ring A (slanted (d 0 R') ∷ slanted (d 1 R') ∷ slanted (d 2 R') ∷ []) (opposite (at 0) ⊕ at 1) (at 0 ⊗ opposite unity ⊕ (at 1 ⊗ unity ⊕ at 2 ⊗ num (pos 0))) refl
      ∙ combined (slanted (d 0 R')) (slanted (d 1 R')) (slanted (d 2 R')) (sym minus-one) (sym one-minus) (sym none)
      ∙ sym (first_way e₁ e₂ e₃ R')
      ∙ T.reference_first K Q (▹ (sheet e₁ e₂ e₃) R')
      ∙ ap₂ (_-_) (slanted_edge e₁ e₂ e₃ R') (left_edge e₁ e₂ e₃ R')
    where
      R' : Polynomial K
      R' = anti 2 q

  pub reference_second : (q : Polynomial K) → reference₃ (d 1 q) ≡ _-_ (slanted q) (over o e₁ e₃ q)
  reference_second q =
      reference₃_is (d 1 q)
      ∙ ap slanted (J.anti_commutes K Q.division 2 1 refl q)
      ∙ Solve.ring_from A (slanted (d 1 (anti 2 q)) ∷ slanted q ∷ over o e₁ e₃ q ∷ slanted (d 0 (anti 2 q)) ∷ []) (at 0) (at 1 ⊖ at 2) unity (opposite (at 3) ⊕ at 0) ((opposite (at 3) ⊕ at 1) ⊖ at 2)
      (between q ∙ ap₂ (_-_) (sym (on_slanted q)) (sym (on_second q))) refl

  -- ---- the reference integral is linear
  reference₃-add : (p q : Polynomial K) → reference₃ (A.add p q) ≡ A.add (reference₃ p) (reference₃ q)
  reference₃-add p q =
      reference₃_is (A.add p q) ∙ ap slanted (J.anti-add K Q.division 2 p q) ∙ slanted-add _ _ ∙ ap₂ A.add (sym (reference₃_is p)) (sym (reference₃_is q))

  pub reference₃-scaled : (c : R) (p : Polynomial K) → reference₃ (A.mul (κ c) p) ≡ A.mul (κ c) (reference₃ p)
  reference₃-scaled c p =
      reference₃_is _
      ∙ ap slanted (J.anti-scaled K Q.division 2 c p)
      ∙ ap reference₂ (C.replaced-mul K (sheet e₁ e₂ e₃) _ _ ∙ ap (λ x. A.mul x (▹ (sheet e₁ e₂ e₃) (anti 2 p))) (C.replaced-constant K _ c))
      ∙ T.reference-scaled K Q c _
      ∙ ap (A.mul (κ c)) (sym (reference₃_is p))

  reference₃-neg : (p : Polynomial K) → reference₃ (A.neg p) ≡ A.neg (reference₃ p)
  reference₃-neg p = L.neg-unique A (reference₃ p) (reference₃ (A.neg p)) (sym (reference₃-add (A.neg p) p) ∙ ap reference₃ (L.neg-add A p) ∙ nothing)
    where
      nothing : reference₃ A.zero ≡ A.zero
      nothing = L.add_right_cancel A _ _ (reference₃ A.zero) (sym (reference₃-add A.zero A.zero) ∙ ap reference₃ (A.add_zero A.zero) ∙ sym (L.zero-add A _))

  -- ---- the affine map, and what it makes of the four sides
  module _ (a b c e : Point R) where
    abbrev F : ℕ → Polynomial K
    F = through K Q a b c e

    moved_image : (s : ℕ → Polynomial K) (u v w t : R)
        → ▹ s (image K Q u v w t) ≡ A.add (κ u) (A.add (A.mul (s 0) (_-_ (κ v) (κ u))) (A.add (A.mul (s 1) (_-_ (κ w) (κ u))) (A.mul (s 2) (_-_ (κ t) (κ u)))))
    moved_image s u v w t =
        C.replaced-add K s _ _
        ∙ ap₂ A.add (C.replaced-constant K s u)
        (C.replaced-add K s _ _ ∙ ap₂ A.add (moved 0 v) (C.replaced-add K s _ _ ∙ ap₂ A.add (moved 1 w) (moved 2 t)))
      where
        moved : (i : ℕ) (x : R) → ▹ s (A.mul (coordinate K i) (κ (minus K Q x u))) ≡ A.mul (s i) (_-_ (κ x) (κ u))
        moved i x = C.replaced-mul K s _ _ ∙ ap₂ A.mul (C.replaced-coordinate K s i) (C.replaced-constant K s _ ∙ I.constant-minus K Q x u)

    by_zero : (f : Polynomial K → Polynomial K) → f (κ K.zero) ≡ f A.zero
    by_zero f = ap f (I.constant-zero K Q)

    side : (u v w u' v' w' : Point R) → ▹ (sheet u v w) (F 0) ≡ plane u'.x v'.x w'.x → ▹ (sheet u v w) (F 1) ≡ plane u'.y v'.y w'.y → ▹ (sheet u v w) (F 2) ≡ plane u'.z v'.z w'.z
        → (p : Polynomial K) → over u v w (▹ F p) ≡ over u' v' w' p
    side u v w u' v' w' h₀ h₁ h₂ p = ap reference₂ (C.replaced-replaced K (sheet u v w) F p ∙ C.replaced-same K _ (sheet u' v' w') at_each p)
      where
        at_each : (j : ℕ) → ▹ (sheet u v w) (F j) ≡ sheet u' v' w' j
        at_each zero = h₀
        at_each (suc zero) = h₁
        at_each (suc (suc zero)) = h₂
        at_each (suc (suc (suc j))) = C.replaced-coordinate K (sheet u v w) (suc (suc (suc j)))

    on_slanted_side : (u v w t : R) → ▹ (sheet e₁ e₂ e₃) (image K Q u v w t) ≡ plane v w t
    on_slanted_side u v w t =
        moved_image (sheet e₁ e₂ e₃) u v w t
        ∙ ap₂ (λ x y. A.add (κ u) (A.add (A.mul x (_-_ (κ v) (κ u))) y)) (plane_spread K.one K.zero K.zero)
        (ap₂ (λ x y. A.add (A.mul x (_-_ (κ w) (κ u))) (A.mul y (_-_ (κ t) (κ u)))) (plane_spread K.zero K.one K.zero) (plane_spread K.zero K.zero K.one))
        ∙ by_zero (λ z. A.add (κ u) (A.add (A.mul (A.add A.one (A.add (A.mul X (_-_ z A.one)) (A.mul Y (_-_ z A.one)))) (_-_ (κ v) (κ u)))
        (A.add (A.mul (A.add z (A.add (A.mul X (_-_ A.one z)) (A.mul Y (_-_ z z)))) (_-_ (κ w) (κ u))) (A.mul (A.add z (A.add (A.mul X (_-_ z z)) (A.mul Y (_-_ A.one z)))) (_-_ (κ t) (κ u))))))
        ∙ Solve.ring A (κ u ∷ κ v ∷ κ w ∷ κ t ∷ X ∷ Y ∷ [])
        (at 0 ⊕ ((unity ⊕ (at 4 ⊗ (nil ⊖ unity) ⊕ at 5 ⊗ (nil ⊖ unity))) ⊗ (at 1 ⊖ at 0)
        ⊕ ((nil ⊕ (at 4 ⊗ (unity ⊖ nil) ⊕ at 5 ⊗ (nil ⊖ nil))) ⊗ (at 2 ⊖ at 0) ⊕ (nil ⊕ (at 4 ⊗ (nil ⊖ nil) ⊕ at 5 ⊗ (unity ⊖ nil))) ⊗ (at 3 ⊖ at 0))))
        (at 1 ⊕ (at 4 ⊗ (at 2 ⊖ at 1) ⊕ at 5 ⊗ (at 3 ⊖ at 1))) refl
        ∙ sym (plane_spread v w t)
      where
        nil : Expr
        nil = num (pos 0)

    on_first_side : (u v w t : R) → ▹ (sheet o e₂ e₃) (image K Q u v w t) ≡ plane u w t
    on_first_side u v w t =
        moved_image (sheet o e₂ e₃) u v w t
        ∙ ap₂ (λ x y. A.add (κ u) (A.add (A.mul x (_-_ (κ v) (κ u))) y)) (plane_spread K.zero K.zero K.zero)
        (ap₂ (λ x y. A.add (A.mul x (_-_ (κ w) (κ u))) (A.mul y (_-_ (κ t) (κ u)))) (plane_spread K.zero K.one K.zero) (plane_spread K.zero K.zero K.one))
        ∙ by_zero (λ z. A.add (κ u) (A.add (A.mul (A.add z (A.add (A.mul X (_-_ z z)) (A.mul Y (_-_ z z)))) (_-_ (κ v) (κ u)))
        (A.add (A.mul (A.add z (A.add (A.mul X (_-_ A.one z)) (A.mul Y (_-_ z z)))) (_-_ (κ w) (κ u))) (A.mul (A.add z (A.add (A.mul X (_-_ z z)) (A.mul Y (_-_ A.one z)))) (_-_ (κ t) (κ u))))))
        ∙ Solve.ring A (κ u ∷ κ v ∷ κ w ∷ κ t ∷ X ∷ Y ∷ [])
        (at 0 ⊕ ((nil ⊕ (at 4 ⊗ (nil ⊖ nil) ⊕ at 5 ⊗ (nil ⊖ nil))) ⊗ (at 1 ⊖ at 0)
        ⊕ ((nil ⊕ (at 4 ⊗ (unity ⊖ nil) ⊕ at 5 ⊗ (nil ⊖ nil))) ⊗ (at 2 ⊖ at 0) ⊕ (nil ⊕ (at 4 ⊗ (nil ⊖ nil) ⊕ at 5 ⊗ (unity ⊖ nil))) ⊗ (at 3 ⊖ at 0))))
        (at 0 ⊕ (at 4 ⊗ (at 2 ⊖ at 0) ⊕ at 5 ⊗ (at 3 ⊖ at 0))) refl
        ∙ sym (plane_spread u w t)
      where
        nil : Expr
        nil = num (pos 0)

    on_second_side : (u v w t : R) → ▹ (sheet o e₁ e₃) (image K Q u v w t) ≡ plane u v t
    on_second_side u v w t =
        moved_image (sheet o e₁ e₃) u v w t
        ∙ ap₂ (λ x y. A.add (κ u) (A.add (A.mul x (_-_ (κ v) (κ u))) y)) (plane_spread K.zero K.one K.zero)
        (ap₂ (λ x y. A.add (A.mul x (_-_ (κ w) (κ u))) (A.mul y (_-_ (κ t) (κ u)))) (plane_spread K.zero K.zero K.zero) (plane_spread K.zero K.zero K.one))
        ∙ by_zero (λ z. A.add (κ u) (A.add (A.mul (A.add z (A.add (A.mul X (_-_ A.one z)) (A.mul Y (_-_ z z)))) (_-_ (κ v) (κ u)))
        (A.add (A.mul (A.add z (A.add (A.mul X (_-_ z z)) (A.mul Y (_-_ z z)))) (_-_ (κ w) (κ u))) (A.mul (A.add z (A.add (A.mul X (_-_ z z)) (A.mul Y (_-_ A.one z)))) (_-_ (κ t) (κ u))))))
        ∙ Solve.ring A (κ u ∷ κ v ∷ κ w ∷ κ t ∷ X ∷ Y ∷ [])
        (at 0 ⊕ ((nil ⊕ (at 4 ⊗ (unity ⊖ nil) ⊕ at 5 ⊗ (nil ⊖ nil))) ⊗ (at 1 ⊖ at 0)
        ⊕ ((nil ⊕ (at 4 ⊗ (nil ⊖ nil) ⊕ at 5 ⊗ (nil ⊖ nil))) ⊗ (at 2 ⊖ at 0) ⊕ (nil ⊕ (at 4 ⊗ (nil ⊖ nil) ⊕ at 5 ⊗ (unity ⊖ nil))) ⊗ (at 3 ⊖ at 0))))
        (at 0 ⊕ (at 4 ⊗ (at 1 ⊖ at 0) ⊕ at 5 ⊗ (at 3 ⊖ at 0))) refl
        ∙ sym (plane_spread u v t)
      where
        nil : Expr
        nil = num (pos 0)

    on_bottom_side : (u v w t : R) → ▹ (instead K 2 A.zero) (image K Q u v w t) ≡ plane u v w
    on_bottom_side u v w t =
        moved_image (instead K 2 A.zero) u v w t
        ∙ Solve.ring A (κ u ∷ κ v ∷ κ w ∷ κ t ∷ X ∷ Y ∷ [])
        (at 0 ⊕ (at 4 ⊗ (at 1 ⊖ at 0) ⊕ (at 5 ⊗ (at 2 ⊖ at 0) ⊕ num (pos 0) ⊗ (at 3 ⊖ at 0)))) (at 0 ⊕ (at 4 ⊗ (at 1 ⊖ at 0) ⊕ at 5 ⊗ (at 2 ⊖ at 0))) refl
        ∙ sym (plane_spread u v w)

    along_slanted : (p : Polynomial K) → slanted (▹ F p) ≡ over b c e p
    along_slanted = side e₁ e₂ e₃ b c e (on_slanted_side a.x b.x c.x e.x) (on_slanted_side a.y b.y c.y e.y) (on_slanted_side a.z b.z c.z e.z)

    along_first : (p : Polynomial K) → over o e₂ e₃ (▹ F p) ≡ over a c e p
    along_first = side o e₂ e₃ a c e (on_first_side a.x b.x c.x e.x) (on_first_side a.y b.y c.y e.y) (on_first_side a.z b.z c.z e.z)

    along_second : (p : Polynomial K) → over o e₁ e₃ (▹ F p) ≡ over a b e p
    along_second = side o e₁ e₃ a b e (on_second_side a.x b.x c.x e.x) (on_second_side a.y b.y c.y e.y) (on_second_side a.z b.z c.z e.z)

    along_bottom : (p : Polynomial K) → bottom (▹ F p) ≡ over a b c p
    along_bottom p = ap reference₂ (C.replaced-replaced K (instead K 2 A.zero) F p ∙ C.replaced-same K _ (sheet a b c) at_each p)
      where
        at_each : (j : ℕ) → ▹ (instead K 2 A.zero) (F j) ≡ sheet a b c j
        at_each zero = on_bottom_side a.x b.x c.x e.x
        at_each (suc zero) = on_bottom_side a.y b.y c.y e.y
        at_each (suc (suc zero)) = on_bottom_side a.z b.z c.z e.z
        at_each (suc (suc (suc j))) = C.replaced-coordinate K (instead K 2 A.zero) (suc (suc (suc j)))

    -- ---- the derivatives along the map
    image_slope : (i : ℕ) (u v w t : R) → d i (image K Q u v w t)
        ≡ A.add (A.mul (d i X) (κ (minus K Q v u))) (A.add (A.mul (d i Y) (κ (minus K Q w u))) (A.mul (d i Z) (κ (minus K Q t u))))
    image_slope i u v w t =
        C.derivative-add K i _ _
        ∙ ap₂ A.add (C.derivative-constant K i u)
        (C.derivative-add K i _ _ ∙ ap₂ A.add (I.derivative-slope K Q i 0 _) (C.derivative-add K i _ _ ∙ ap₂ A.add (I.derivative-slope K Q i 1 _) (I.derivative-slope K Q i 2 _)))
        ∙ L.zero-add A _

    slopes : (i : ℕ) (u v w t : R) (x y z : Polynomial K) → d i X ≡ x → d i Y ≡ y → d i Z ≡ z
        → d i (image K Q u v w t) ≡ A.add (A.mul x (κ (minus K Q v u))) (A.add (A.mul y (κ (minus K Q w u))) (A.mul z (κ (minus K Q t u))))
    slopes i u v w t x y z hx hy hz = image_slope i u v w t ∙ ap₂ A.add (ap (λ s. A.mul s (κ (minus K Q v u))) hx) (ap₂ A.add (ap (λ s. A.mul s (κ (minus K Q w u))) hy) (ap (λ s. A.mul s (κ (minus K Q t u))) hz))

    slope₀ : (u v w t : R) → d 0 (image K Q u v w t) ≡ κ (minus K Q v u)
    slope₀ u v w t =
        slopes 0 u v w t A.one A.zero A.zero (I.derivative-coordinate_own K Q 0 refl) (I.derivative-coordinate_other K Q 0 1 refl) (I.derivative-coordinate_other K Q 0 2 refl)
        ∙ Solve.ring A (κ (minus K Q v u) ∷ κ (minus K Q w u) ∷ κ (minus K Q t u) ∷ []) (unity ⊗ at 0 ⊕ (num (pos 0) ⊗ at 1 ⊕ num (pos 0) ⊗ at 2)) (at 0) refl

    slope₁ : (u v w t : R) → d 1 (image K Q u v w t) ≡ κ (minus K Q w u)
    slope₁ u v w t =
        slopes 1 u v w t A.zero A.one A.zero (I.derivative-coordinate_other K Q 1 0 refl) (I.derivative-coordinate_own K Q 1 refl) (I.derivative-coordinate_other K Q 1 2 refl)
        ∙ Solve.ring A (κ (minus K Q v u) ∷ κ (minus K Q w u) ∷ κ (minus K Q t u) ∷ []) (num (pos 0) ⊗ at 0 ⊕ (unity ⊗ at 1 ⊕ num (pos 0) ⊗ at 2)) (at 1) refl

    slope₂ : (u v w t : R) → d 2 (image K Q u v w t) ≡ κ (minus K Q t u)
    slope₂ u v w t =
        slopes 2 u v w t A.zero A.zero A.one (I.derivative-coordinate_other K Q 2 0 refl) (I.derivative-coordinate_other K Q 2 1 refl) (I.derivative-coordinate_own K Q 2 refl)
        ∙ Solve.ring A (κ (minus K Q v u) ∷ κ (minus K Q w u) ∷ κ (minus K Q t u) ∷ []) (num (pos 0) ⊗ at 0 ⊕ (num (pos 0) ⊗ at 1 ⊕ unity ⊗ at 2)) (at 2) refl

    map_derivative : (i : ℕ) → ((j : ℕ) → d i (coordinate K (suc (suc (suc j)))) ≡ A.zero) → (x y z : Polynomial K) → d i (F 0) ≡ x → d i (F 1) ≡ y → d i (F 2) ≡ z
        → (p : Polynomial K) → d i (▹ F p) ≡ A.add (A.mul (▹ F (d 0 p)) x) (A.add (A.mul (▹ F (d 1 p)) y) (A.mul (▹ F (d 2 p)) z))
    map_derivative i still x y z hx hy hz p = C.chain K F i still p ∙ combined _ _ _ hx hy hz

    product_difference : (p q r s : R) → κ (minus K Q (K.mul p q) (K.mul r s)) ≡ _-_ (A.mul (κ p) (κ q)) (A.mul (κ r) (κ s))
    product_difference p q r s = I.constant-minus K Q _ _ ∙ ap₂ (_-_) ((constant-IsRingMap K).multiplies p q) ((constant-IsRingMap K).multiplies r s)

    volume_spread : κ (volume_of K Q a b c e)
        ≡ A.add
        (_-_ (A.mul (κ (minus K Q b.x a.x)) (_-_ (A.mul (κ (minus K Q c.y a.y)) (κ (minus K Q e.z a.z))) (A.mul (κ (minus K Q e.y a.y)) (κ (minus K Q c.z a.z)))))
        (A.mul (κ (minus K Q c.x a.x)) (_-_ (A.mul (κ (minus K Q b.y a.y)) (κ (minus K Q e.z a.z))) (A.mul (κ (minus K Q e.y a.y)) (κ (minus K Q b.z a.z))))))
        (A.mul (κ (minus K Q e.x a.x)) (_-_ (A.mul (κ (minus K Q b.y a.y)) (κ (minus K Q c.z a.z))) (A.mul (κ (minus K Q c.y a.y)) (κ (minus K Q b.z a.z)))))
    volume_spread =
        (constant-IsRingMap K).adds _ _
        ∙ ap₂ A.add
        (I.constant-minus K Q _ _ ∙ ap₂ (_-_) ((constant-IsRingMap K).multiplies _ _ ∙ ap (A.mul (κ (minus K Q b.x a.x))) (product_difference _ _ _ _)) ((constant-IsRingMap K).multiplies _ _ ∙ ap (A.mul (κ (minus K Q c.x a.x))) (product_difference _ _ _ _)))
        ((constant-IsRingMap K).multiplies _ _ ∙ ap (A.mul (κ (minus K Q e.x a.x))) (product_difference _ _ _ _))

    -- the cofactor identity, and the chain rule
    as_divergence : (p : Polynomial K) → A.mul (κ (volume_of K Q a b c e)) (▹ F (d 2 p))
        ≡ A.add (A.mul (κ (area_of K Q a c e)) (d 0 (▹ F p))) (A.add (A.neg (A.mul (κ (area_of K Q a b e)) (d 1 (▹ F p)))) (A.mul (κ (area_of K Q a b c)) (d 2 (▹ F p))))
    as_divergence p =
        ap (λ x. A.mul x (▹ F (d 2 p))) volume_spread
        ∙ Solve.ring A
        (κ (minus K Q b.x a.x) ∷ κ (minus K Q b.y a.y) ∷ κ (minus K Q b.z a.z) ∷ κ (minus K Q c.x a.x) ∷ κ (minus K Q c.y a.y) ∷ κ (minus K Q c.z a.z)
        ∷ κ (minus K Q e.x a.x) ∷ κ (minus K Q e.y a.y) ∷ κ (minus K Q e.z a.z) ∷ ▹ F (d 0 p) ∷ ▹ F (d 1 p) ∷ ▹ F (d 2 p) ∷ [])
        ((at 0 ⊗ (at 4 ⊗ at 8 ⊖ at 7 ⊗ at 5) ⊖ at 3 ⊗ (at 1 ⊗ at 8 ⊖ at 7 ⊗ at 2) ⊕ at 6 ⊗ (at 1 ⊗ at 5 ⊖ at 4 ⊗ at 2)) ⊗ at 11)
        ((at 3 ⊗ at 7 ⊖ at 6 ⊗ at 4) ⊗ (at 9 ⊗ at 0 ⊕ (at 10 ⊗ at 1 ⊕ at 11 ⊗ at 2))
        ⊕ (opposite ((at 0 ⊗ at 7 ⊖ at 6 ⊗ at 1) ⊗ (at 9 ⊗ at 3 ⊕ (at 10 ⊗ at 4 ⊕ at 11 ⊗ at 5)))
        ⊕ (at 0 ⊗ at 4 ⊖ at 3 ⊗ at 1) ⊗ (at 9 ⊗ at 6 ⊕ (at 10 ⊗ at 7 ⊕ at 11 ⊗ at 8)))) refl
        ∙ sym (ap₂ A.add
        (ap₂ A.mul (product_difference _ _ _ _) (map_derivative 0 (λ j. I.derivative-coordinate_other K Q 0 (suc (suc (suc j))) refl) _ _ _ (slope₀ a.x b.x c.x e.x) (slope₀ a.y b.y c.y e.y) (slope₀ a.z b.z c.z e.z) p))
        (ap₂ (λ x y. A.add (A.neg x) y)
        (ap₂ A.mul (product_difference _ _ _ _) (map_derivative 1 (λ j. I.derivative-coordinate_other K Q 1 (suc (suc (suc j))) refl) _ _ _ (slope₁ a.x b.x c.x e.x) (slope₁ a.y b.y c.y e.y) (slope₁ a.z b.z c.z e.z) p))
        (ap₂ A.mul (product_difference _ _ _ _) (map_derivative 2 (λ j. I.derivative-coordinate_other K Q 2 (suc (suc (suc j))) refl) _ _ _ (slope₂ a.x b.x c.x e.x) (slope₂ a.y b.y c.y e.y) (slope₂ a.z b.z c.z e.z) p))))

    -- the law of change of variables for tetrahedra
    pub tetrahedron_law : (p : Polynomial K) → tetrahedron K Q a b c e p ≡ A.mul (κ (volume_of K Q a b c e)) (reference₃ (▹ (through K Q a b c e) p))
    unfolding tetrahedron
    tetrahedron_law p =
        ap₂ A.add (part b c e (sym (along_slanted P)))
        (ap₂ (λ f g. A.add (A.neg f) g) (part a c e (sym (along_first P)))
        (ap₂ (λ f g. A.add f (A.neg g)) (part a b e (sym (along_second P))) (part a b c (sym (along_bottom P)))))
        ∙ Solve.ring A (κ a.x ∷ κ a.y ∷ κ b.x ∷ κ b.y ∷ κ c.x ∷ κ c.y ∷ κ e.x ∷ κ e.y ∷ slanted (▹ F P) ∷ over o e₂ e₃ (▹ F P) ∷ over o e₁ e₃ (▹ F P) ∷ bottom (▹ F P) ∷ [])
        (area (at 2) (at 3) (at 4) (at 5) (at 6) (at 7) ⊗ at 8 ⊕ (opposite (area (at 0) (at 1) (at 4) (at 5) (at 6) (at 7) ⊗ at 9) ⊕ (area (at 0) (at 1) (at 2) (at 3) (at 6) (at 7) ⊗ at 10 ⊕ opposite (area (at 0) (at 1) (at 2) (at 3) (at 4) (at 5) ⊗ at 11))))
        (area (at 0) (at 1) (at 4) (at 5) (at 6) (at 7) ⊗ (at 8 ⊖ at 9) ⊕ (opposite (area (at 0) (at 1) (at 2) (at 3) (at 6) (at 7) ⊗ (at 8 ⊖ at 10)) ⊕ area (at 0) (at 1) (at 2) (at 3) (at 4) (at 5) ⊗ (at 8 ⊖ at 11))) refl
        ∙ sym (ap (λ q. A.mul (κ (volume_of K Q a b c e)) (reference₃ (▹ F q))) (sym (J.derivative-anti K Q.division 2 p))
        ∙ sym (reference₃-scaled (volume_of K Q a b c e) (▹ F (d 2 P)))
        ∙ ap reference₃ (as_divergence P)
        ∙ reference₃-add _ _
        ∙ ap₂ A.add
        (reference₃-scaled _ _ ∙ ap₂ A.mul (area_spread a c e) (reference_first (▹ F P)))
        (reference₃-add _ _
        ∙ ap₂ A.add
        (reference₃-neg _ ∙ ap A.neg (reference₃-scaled _ _ ∙ ap₂ A.mul (area_spread a b e) (reference_second (▹ F P))))
        (reference₃-scaled _ _ ∙ ap₂ A.mul (area_spread a b c) (reference_third (▹ F P)))))
      where
        P : Polynomial K
        P = anti 2 p

        area : (a b c e f g : Expr) → Expr
        area a b c e f g = (c ⊖ a) ⊗ (g ⊖ b) ⊖ (f ⊖ a) ⊗ (e ⊖ b)

        part : (u v w : Point R) {q : Polynomial K} → over u v w (anti 2 p) ≡ q → facet_of_three K Q u v w (anti 2 p) ≡ A.mul (polynomial_area K Q (κ u.x) (κ u.y) (κ v.x) (κ v.y) (κ w.x) (κ w.y)) q
        part u v w h = facet_is u v w (anti 2 p) ∙ ap₂ A.mul (area_spread u v w) h
