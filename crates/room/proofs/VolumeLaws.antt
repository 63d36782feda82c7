-- Differences, cofactors, the volume factor and its reciprocal are over the stated numbers
use Rattle.std.proofs.Common.{◌≡◌, ℕ, zero, suc, ◌+◌, ◌-◌, ◌*◌, ◌^◌, ◌<◌, ◌≤◌, refl, sym, ◌∙◌, ap, subst, arith, unsigned_abs, List, [], ◌∷◌, length, false, true, Bool}
use native.Mathlib.Nat as N
use Rattle.algebra.specs.Fraction.{Fraction, fractions, add, mul, negative, inverse, absolute, is_zero_fraction, is_below_zero, when, one_fraction, mul_inverse}
use Rattle.algebra.specs.RingLaws as L
use Rattle.algebra.specs.Solver.{at, ◌⊕◌, ◌⊗◌, ◌⊖◌, minus, unity}
use Rattle.algebra.specs.Sound.{ring, ring_from}
use Rattle.calculus.specs.Simplex.{Simplex, IsCell, dimension, volume}
use Rattle.calculus.specs.Jacobian.{jacobian, next_axis, cofactor_in, cofactor}
use Rattle.calculus.specs.Point.{Point}
use Rattle.algebra.specs.Over.{Over}
use Rattle.room.specs.Room.{cofactor_at, volume_at, cofactor_bound, volume_bound, whole_volume}
use Rattle.room.specs.declared.numbers.CellNumbers.{CellNumbers}
use Rattle.weigh.specs.Numerators.{size_over}
use Rattle.room.specs.Numbered.{IsNumbered}
use Rattle.room.specs.Kernel.{expanded, minor}
use Rattle.algebra.proofs.OverLaws.{over_same, over_at, over_lift, over_sum, over_difference, over_product, over_negative, over_absolute, over_one, over_positive, over_quotient}
use Rattle.room.proofs.NumbersLaws.{over_exact}

pub square : (x : ℕ) → x ^ 2 ≡ x * x
square x = N.pow-suc x 1 ∙ ap (λ n. n * x) (N.pow-suc x 0 ∙ ap (λ n. n * x) (N.pow-zero x) ∙ N.one-mul x)

pub cube : (x : ℕ) → x ^ 3 ≡ x * x * x
cube x = N.pow-suc x 2 ∙ ap (λ n. n * x) (square x)

first_power : (x : ℕ) → x ^ 1 ≡ x
first_power x = N.pow-suc x 0 ∙ ap (λ n. n * x) (N.pow-zero x) ∙ N.one-mul x

-- ---- the kernel's volume factor is the volume factor
pub volume-expanded : (v : Simplex) → IsCell v → volume v ≡ expanded (dimension v) (jacobian v)
unfolding volume
volume-expanded [] h = elim h [ ]
volume-expanded (a ∷ []) h = elim h [ ]
volume-expanded (a ∷ (b ∷ (c ∷ (e ∷ (f ∷ v))))) h = elim h [ ]
volume-expanded (a ∷ b ∷ []) h = refl
volume-expanded (a ∷ b ∷ c ∷ []) h = refl
volume-expanded (a ∷ b ∷ c ∷ e ∷ []) h =
    ring fractions (x b a ∷ y b a ∷ z b a ∷ x c a ∷ y c a ∷ z c a ∷ x e a ∷ y e a ∷ z e a ∷ [])
    ((at 0 ⊗ (at 4 ⊗ at 8 ⊖ at 7 ⊗ at 5) ⊖ at 3 ⊗ (at 1 ⊗ at 8 ⊖ at 7 ⊗ at 2)) ⊕ at 6 ⊗ (at 1 ⊗ at 5 ⊖ at 4 ⊗ at 2))
    ((at 0 ⊗ (at 4 ⊗ at 8 ⊖ at 7 ⊗ at 5) ⊕ at 3 ⊗ (at 7 ⊗ at 2 ⊖ at 1 ⊗ at 8)) ⊕ at 6 ⊗ (at 1 ⊗ at 5 ⊖ at 4 ⊗ at 2)) refl
  where
    x : Point Fraction → Point Fraction → Fraction
    x p q = add p.x (negative q.x)

    y : Point Fraction → Point Fraction → Fraction
    y p q = add p.y (negative q.y)

    z : Point Fraction → Point Fraction → Fraction
    z p q = add p.z (negative q.z)

-- ---- a matrix whose items are over l and b
abbrev pub AreOver : ℕ → ℕ → ℕ → (ℕ → ℕ → Fraction) → Type 0
AreOver d l b j = (i a : ℕ) → i < d → a < d → Over l b (j i a)

pub next_below : (i : ℕ) → next_axis i < 3
next_below zero = omega arith
next_below (suc zero) = omega arith
next_below (suc (suc i)) = omega arith

pub minor_over : (l b : ℕ) (x y z w : Fraction) → Over l b x → Over l b y → Over l b z → Over l b w → Over (l * l) (2 * b * b) (minor x y z w)
minor_over l b x y z w ox oy oz ow =
    over_same (l * l) (b * b + b * b) (l * l) (2 * b * b) (minor x y z w) refl (twice b)
    (over_difference (l * l) (b * b) (b * b) (mul x y) (mul z w) (over_product l l b b x y ox oy) (over_product l l b b z w oz ow))
  where
    twice : (b : ℕ) → b * b + b * b ≡ 2 * b * b
    twice b = omega arith

pub space_cofactor : (l b : ℕ) (j : ℕ → ℕ → Fraction) → AreOver 3 l b j → (i a : ℕ) → Over (l * l) (2 * b * b) (cofactor_in 3 j i a)
space_cofactor l b j h i a =
    minor_over l b (j (next_axis i) (next_axis a)) (j (next_axis (next_axis i)) (next_axis (next_axis a))) (j (next_axis i) (next_axis (next_axis a))) (j (next_axis (next_axis i)) (next_axis a))
    (h (next_axis i) (next_axis a) (next_below i) (next_below a))
    (h (next_axis (next_axis i)) (next_axis (next_axis a)) (next_below (next_axis i)) (next_below (next_axis a)))
    (h (next_axis i) (next_axis (next_axis a)) (next_below i) (next_below (next_axis a)))
    (h (next_axis (next_axis i)) (next_axis a) (next_below (next_axis i)) (next_below a))

plane_cofactor : (l b : ℕ) (j : ℕ → ℕ → Fraction) → AreOver 2 l b j → (i a : ℕ) → Over l b (cofactor_in 2 j i a)
plane_cofactor l b j h zero zero = h 1 1 (omega arith) (omega arith)
plane_cofactor l b j h zero (suc a) = over_negative l b (j 1 0) (h 1 0 (omega arith) (omega arith))
plane_cofactor l b j h (suc i) zero = over_negative l b (j 0 1) (h 0 1 (omega arith) (omega arith))
plane_cofactor l b j h (suc i) (suc a) = h 0 0 (omega arith) (omega arith)

pub cofactor_over : (d l b : ℕ) (j : ℕ → ℕ → Fraction) → 0 < d → d ≤ 3 → AreOver d l b j → (i a : ℕ) → Over (l ^ (d - 1)) (cofactor_at b d) (cofactor_in d j i a)
cofactor_over zero l b j g k h i a = absurd (omega arith)
cofactor_over (suc zero) l b j g k h i a = subst (λ n. Over n 1 (cofactor_in 1 j i a)) (sym (N.pow-zero l)) over_one
cofactor_over (suc (suc zero)) l b j g k h i a = subst (λ n. Over n b (cofactor_in 2 j i a)) (sym (first_power l)) (plane_cofactor l b j h i a)
cofactor_over (suc (suc (suc zero))) l b j g k h i a = subst (λ n. Over n (2 * b * b) (cofactor_in 3 j i a)) (sym (square l)) (space_cofactor l b j h i a)
cofactor_over (suc (suc (suc (suc d)))) l b j g k h i a = absurd (omega arith)

-- a term of the volume factor in space
pub term_over : (l b : ℕ) (j : ℕ → ℕ → Fraction) → AreOver 3 l b j → (a : ℕ) → a < 3 → Over (l * (l * l)) (b * (2 * b * b)) (mul (j 0 a) (cofactor_in 3 j 0 a))
term_over l b j h a g = over_product l (l * l) b (2 * b * b) (j 0 a) (cofactor_in 3 j 0 a) (h 0 a (omega arith) g) (space_cofactor l b j h 0 a)

pub two_terms_over : (l b : ℕ) (j : ℕ → ℕ → Fraction) → AreOver 3 l b j
    → Over (l * (l * l)) (b * (2 * b * b) + b * (2 * b * b)) (add (mul (j 0 0) (cofactor_in 3 j 0 0)) (mul (j 0 1) (cofactor_in 3 j 0 1)))
two_terms_over l b j h =
    over_sum (l * (l * l)) (b * (2 * b * b)) (b * (2 * b * b)) (mul (j 0 0) (cofactor_in 3 j 0 0)) (mul (j 0 1) (cofactor_in 3 j 0 1))
    (term_over l b j h 0 (omega arith)) (term_over l b j h 1 (omega arith))

pub expanded_over : (d l b : ℕ) (j : ℕ → ℕ → Fraction) → 0 < d → d ≤ 3 → AreOver d l b j → Over (l ^ d) (volume_at b d) (expanded d j)
expanded_over zero l b j g k h = absurd (omega arith)
expanded_over (suc zero) l b j g k h = subst (λ n. Over n b (j 0 0)) (sym (first_power l)) (h 0 0 (omega arith) (omega arith))
expanded_over (suc (suc zero)) l b j g k h =
    subst (λ n. Over n (2 * b * b) (expanded 2 j)) (sym (square l))
    (minor_over l b (j 0 0) (j 1 1) (j 0 1) (j 1 0)
    (h 0 0 (omega arith) (omega arith)) (h 1 1 (omega arith) (omega arith)) (h 0 1 (omega arith) (omega arith)) (h 1 0 (omega arith) (omega arith)))
expanded_over (suc (suc (suc zero))) l b j g k h =
    over_same (l * (l * l)) (b * (2 * b * b) + b * (2 * b * b) + b * (2 * b * b)) (l ^ 3) (6 * b * b * b) (expanded 3 j) (sym (cube l ∙ N.mul_assoc l l l)) (six b)
    (over_sum (l * (l * l)) (b * (2 * b * b) + b * (2 * b * b)) (b * (2 * b * b))
    (add (mul (j 0 0) (cofactor_in 3 j 0 0)) (mul (j 0 1) (cofactor_in 3 j 0 1))) (mul (j 0 2) (cofactor_in 3 j 0 2))
    (two_terms_over l b j h) (term_over l b j h 2 (omega arith)))
  where
    six : (b : ℕ) → b * (2 * b * b) + b * (2 * b * b) + b * (2 * b * b) ≡ 6 * b * b * b
    six b = omega arith
expanded_over (suc (suc (suc (suc d)))) l b j g k h = absurd (omega arith)

-- ---- on a cell
pub some_dimension : (v : Simplex) → IsCell v → 0 < dimension v
some_dimension [] h = elim h [ ]
some_dimension (a ∷ []) h = elim h [ ]
some_dimension (a ∷ b ∷ v) h = N.zero-lt-suc (dimension (b ∷ v))

pub small_dimension : (v : Simplex) → IsCell v → dimension v ≤ 3
small_dimension [] h = elim h [ ]
small_dimension (a ∷ []) h = elim h [ ]
small_dimension (a ∷ (b ∷ (c ∷ (e ∷ (f ∷ v))))) h = elim h [ ]
small_dimension (a ∷ b ∷ []) h = omega arith
small_dimension (a ∷ b ∷ c ∷ []) h = omega arith
small_dimension (a ∷ b ∷ c ∷ e ∷ []) h = omega arith

pub vertices : (v : Simplex) → IsCell v → length v ≡ suc (dimension v)
vertices [] h = elim h [ ]
vertices (a ∷ []) h = elim h [ ]
vertices (a ∷ (b ∷ (c ∷ (e ∷ (f ∷ v))))) h = elim h [ ]
vertices (a ∷ b ∷ []) h = refl
vertices (a ∷ b ∷ c ∷ []) h = refl
vertices (a ∷ b ∷ c ∷ e ∷ []) h = refl

module _ (c : CellNumbers) (v : Simplex) (w : List Fraction) (n : IsNumbered c v w) where
  pub some_d : 0 < c.d
  some_d = subst (λ k. 0 < k) n.dimension (some_dimension v n.cell)

  pub small_d : c.d ≤ 3
  small_d = subst (λ k. k ≤ 3) n.dimension (small_dimension v n.cell)

  pub corner : (a : ℕ) → a < c.d → suc a < length v
  corner a h = let e : length v ≡ suc c.d = vertices v n.cell ∙ ap suc n.dimension in omega arith

  pub corner_zero : 0 < length v
  corner_zero = let e : length v ≡ suc c.d = vertices v n.cell ∙ ap suc n.dimension in omega arith

  pub jacobian_over : AreOver c.d c.dd c.j (jacobian v)
  jacobian_over i a h g = n.difference (suc a) 0 i (corner a g) corner_zero h

  pub cofactors_over : (i a : ℕ) → Over (c.dd ^ (c.d - 1)) (cofactor_bound c) (cofactor v i a)
  unfolding cofactor
  cofactors_over i a = subst (λ d. Over (c.dd ^ (c.d - 1)) (cofactor_bound c) (cofactor_in d (jacobian v) i a)) (sym n.dimension) (cofactor_over c.d c.dd c.j (jacobian v) some_d small_d jacobian_over i a)

  pub volume_over : Over (c.dd ^ c.d) (volume_bound c) (volume v)
  volume_over =
      over_at (c.dd ^ c.d) (volume_bound c) (expanded c.d (jacobian v)) (volume v) (sym (volume-expanded v n.cell ∙ ap (λ d. expanded d (jacobian v)) n.dimension))
      (expanded_over c.d c.dd c.j (jacobian v) some_d small_d jacobian_over)

  -- the whole number D^d times the volume factor is at most s
  pub volume_below : whole_volume c v ≤ volume_bound c
  volume_below = subst (λ k. k ≤ volume_bound c) (over_exact (c.dd ^ c.d) (volume_bound c) (volume v) volume_over) volume_over.bound

  pub absolute_over : Over (c.dd ^ c.d) (whole_volume c v) (absolute (volume v))
  absolute_over =
      over_absolute (c.dd ^ c.d) (whole_volume c v) (volume v)
      (record { positive = volume_over.positive; num = volume_over.num; is = volume_over.is; bound = subst (λ k. k ≤ whole_volume c v) (sym (over_exact (c.dd ^ c.d) (volume_bound c) (volume v) volume_over)) (N.le_refl (whole_volume c v)) })

  module _ (some : is_zero_fraction (volume v) ≡ false) where
    whole_is : unsigned_abs volume_over.num ≡ whole_volume c v
    whole_is = over_exact (c.dd ^ c.d) (volume_bound c) (volume v) volume_over

    pub whole_positive : 0 < whole_volume c v
    whole_positive = subst (λ k. 0 < k) whole_is (over_positive (c.dd ^ c.d) (volume_bound c) (volume v) volume_over some)

    -- what is over D^e has a quotient by the volume factor over V, where D^e cancels
    quotient_over : (e k b : ℕ) (x : Fraction) → c.dd ^ c.d ≡ e * k → Over e b x → Over (whole_volume c v) (b * k) (mul x (inverse (volume v)))
    quotient_over e k b x h o =
        let p : Over (e * k) (volume_bound c) (volume v) = subst (λ l. Over l (volume_bound c) (volume v)) h volume_over in
        let q : unsigned_abs p.num ≡ whole_volume c v = over_exact (e * k) (volume_bound c) (volume v) p ∙ ap (λ l. size_over l (volume v)) (sym h) in
        subst (λ l. Over l (b * k) (mul x (inverse (volume v)))) q
        (over_quotient e k b (volume_bound c) x (volume v) o p (over_positive (e * k) (volume_bound c) (volume v) p some))

    pub inverse_over : Over (whole_volume c v) (c.dd ^ c.d) (inverse (volume v))
    inverse_over =
        over_same (whole_volume c v) (1 * c.dd ^ c.d) (whole_volume c v) (c.dd ^ c.d) (inverse (volume v)) refl (N.one-mul (c.dd ^ c.d))
        (over_at (whole_volume c v) (1 * c.dd ^ c.d) (mul one_fraction (inverse (volume v))) (inverse (volume v)) (L.one-mul fractions (inverse (volume v)))
        (quotient_over 1 (c.dd ^ c.d) 1 one_fraction (sym (N.one-mul (c.dd ^ c.d))) over_one))

    one_less : (d : ℕ) → 0 < d → d ≡ suc (d - 1)
    one_less d h = omega arith

    pub power_before : c.dd ^ c.d ≡ c.dd ^ (c.d - 1) * c.dd
    power_before = ap (λ k. c.dd ^ k) (one_less c.d some_d) ∙ N.pow-suc c.dd (c.d - 1)

    -- how a reference coordinate grows along an axis: a cofactor times the reciprocal
    pub growth_over : (i a : ℕ) → Over (whole_volume c v) (cofactor_bound c * c.dd) (mul (cofactor v i a) (inverse (volume v)))
    growth_over i a = quotient_over (c.dd ^ (c.d - 1)) c.dd (cofactor_bound c) (cofactor v i a) power_before (cofactors_over i a)

    -- the absolute volume factor times one of them, where the volume factor cancels
    pub first_over : (i a : ℕ) → Over (c.dd ^ c.d) (cofactor_bound c * c.dd) (mul (absolute (volume v)) (mul (cofactor v i a) (inverse (volume v))))
    first_over i a =
        subst (λ l. Over l (cofactor_bound c * c.dd) (mul (absolute (volume v)) (mul (cofactor v i a) (inverse (volume v))))) (sym power_before)
        (over_lift (c.dd ^ (c.d - 1)) (cofactor_bound c) c.dd (mul (absolute (volume v)) (mul (cofactor v i a) (inverse (volume v)))) n.dd (go (is_below_zero (volume v))))
      where
        go : (t : Bool) → Over (c.dd ^ (c.d - 1)) (cofactor_bound c) (mul (when t (negative (volume v)) (volume v)) (mul (cofactor v i a) (inverse (volume v))))
        go true =
            over_at (c.dd ^ (c.d - 1)) (cofactor_bound c) (negative (cofactor v i a)) (mul (negative (volume v)) (mul (cofactor v i a) (inverse (volume v))))
            (ring_from fractions (volume v ∷ cofactor v i a ∷ inverse (volume v) ∷ []) (minus (at 1)) (minus (at 0) ⊗ (at 1 ⊗ at 2)) (at 1) (at 0 ⊗ at 2) unity (mul_inverse (volume v) some) refl)
            (over_negative (c.dd ^ (c.d - 1)) (cofactor_bound c) (cofactor v i a) (cofactors_over i a))
        go false =
            over_at (c.dd ^ (c.d - 1)) (cofactor_bound c) (cofactor v i a) (mul (volume v) (mul (cofactor v i a) (inverse (volume v))))
            (ring_from fractions (volume v ∷ cofactor v i a ∷ inverse (volume v) ∷ []) (at 1) (at 0 ⊗ (at 1 ⊗ at 2)) (minus (at 1)) (at 0 ⊗ at 2) unity (mul_inverse (volume v) some) refl)
            (cofactors_over i a)
