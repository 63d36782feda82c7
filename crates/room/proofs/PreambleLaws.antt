-- The steps before the columns don't pass
use Rattle.std.proofs.Common.{◌≡◌, ℕ, zero, suc, ◌+◌, ◌*◌, ◌^◌, ◌<◌, ◌≤◌, ◌∙◌, ap, subst, arith, List, [], ◌∷◌, ◌++◌, false}
use native.Mathlib.Nat as N
use Rattle.algebra.specs.Fraction.{Fraction, zero_fraction, add, mul, inverse, is_zero_fraction}
use Rattle.calculus.specs.Simplex.{Simplex, volume, along_axis}
use Rattle.calculus.specs.Jacobian.{vertex_at, jacobian, next_axis, cofactor_in, cofactor}
use Rattle.algebra.specs.Over.{Over}
use Rattle.room.specs.Room.{volume_at, cofactor_bound, volume_bound, whole_volume}
use Rattle.room.specs.declared.numbers.CellNumbers.{CellNumbers}
use Rattle.room.specs.Steps.{Step, Difference, Product, StepFits, StepsFit}
use Rattle.room.specs.Numbered.{IsNumbered}
use Rattle.room.specs.Kernel.{each_below, difference_steps, minor_steps, cofactor_steps, volume_steps, growth_steps, steps_to_volume, preamble_steps}
use Rattle.algebra.proofs.OverLaws.{over_product, over_zero}
use Rattle.algebra.proofs.OverSteps.{product_fits, sum_fits_over, difference_fits_over}
use Rattle.room.proofs.Lists.{all_append}
use Rattle.room.proofs.VolumeLaws.{AreOver, next_below, term_over, two_terms_over, square, cube, some_d, small_d, corner, corner_zero, jacobian_over, growth_over, volume_below}

pub all_each_below : (n : ℕ) (f : ℕ → List Step) → ((i : ℕ) → i < n → StepsFit (f i)) → StepsFit (each_below n f)
all_each_below zero f h = tt
all_each_below (suc n) f h = all_append StepFits (each_below n f) (f n) (all_each_below n f (λ i g. h i (N.le_trans g (N.le-suc n)))) (h n (N.le_refl (suc n)))

grow : (a b : ℕ) → 0 < b → a ≤ a * b
grow a b h = subst (λ k. k ≤ a * b) (N.mul-one a) (N.mul-le-mul_left a h)

minor_fit : (l b : ℕ) (x y z w : Fraction) → l * l < 2 ^ 127 → 2 * b * b < 2 ^ 127 → Over l b x → Over l b y → Over l b z → Over l b w → StepsFit (minor_steps x y z w)
minor_fit l b x y z w h k ox oy oz ow =
    let p = over_product l l b b x y ox oy in
    let q = over_product l l b b z w oz ow in (
      product_fits (l * l) (b * b) x y h (half b k) p,
      (product_fits (l * l) (b * b) z w h (half b k) q, (difference_fits_over (l * l) (b * b) (b * b) (mul x y) (mul z w) h (twice b k) p q, tt)),
    )
  where
    half : (b : ℕ) → 2 * b * b < 2 ^ 127 → b * b < 2 ^ 127
    half b h = omega arith

    twice : (b : ℕ) → 2 * b * b < 2 ^ 127 → b * b + b * b < 2 ^ 127
    twice b h = omega arith

turned_fit : (l b : ℕ) (x : Fraction) → 0 < l → l < 2 ^ 127 → b < 2 ^ 127 → Over l b x → StepFits (Difference zero_fraction x)
turned_fit l b x s h k o = difference_fits_over l 0 b zero_fraction x h (same b k) (over_zero l 0 s) o
  where
    same : (b : ℕ) → b < 2 ^ 127 → 0 + b < 2 ^ 127
    same b h = omega arith

pub cofactor_fit : (d l b : ℕ) (j : ℕ → ℕ → Fraction) → d ≤ 3 → 0 < l → 0 < b → l ^ d < 2 ^ 127 → volume_at b d < 2 ^ 127 → AreOver d l b j → StepsFit (cofactor_steps d j)
cofactor_fit zero l b j g sl sb h k o = tt
cofactor_fit (suc zero) l b j g sl sb h k o = tt
cofactor_fit (suc (suc zero)) l b j g sl sb h k o =
    let low : l < 2 ^ 127 = N.lt_of_le_of_lt (grow l l sl) (subst (λ i. i < 2 ^ 127) (square l) h) in
    let high : b < 2 ^ 127 = N.lt_of_le_of_lt (small b (grow b b sb)) k in
    (turned_fit l b (j 0 1) sl low high (o 0 1 (omega arith) (omega arith)), (turned_fit l b (j 1 0) sl low high (o 1 0 (omega arith) (omega arith)), tt))
  where
    small : (b : ℕ) → b ≤ b * b → b ≤ 2 * b * b
    small b h = omega arith
cofactor_fit (suc (suc (suc zero))) l b j g sl sb h k o =
    all_each_below 3 (λ a. each_below 3 (λ i. steps i a)) (λ a ha. all_each_below 3 (λ i. steps i a) (λ i hi.
    minor_fit l b (j (next_axis i) (next_axis a)) (j (next_axis (next_axis i)) (next_axis (next_axis a))) (j (next_axis i) (next_axis (next_axis a))) (j (next_axis (next_axis i)) (next_axis a))
    (N.lt_of_le_of_lt (grow (l * l) l sl) (subst (λ i. i < 2 ^ 127) (cube l) h)) (N.lt_of_le_of_lt (small b (grow (b * b) b sb)) k)
    (o (next_axis i) (next_axis a) (next_below i) (next_below a))
    (o (next_axis (next_axis i)) (next_axis (next_axis a)) (next_below (next_axis i)) (next_below (next_axis a)))
    (o (next_axis i) (next_axis (next_axis a)) (next_below i) (next_below (next_axis a)))
    (o (next_axis (next_axis i)) (next_axis a) (next_below (next_axis i)) (next_below a))))
  where
    steps : ℕ → ℕ → List Step
    steps i a = minor_steps (j (next_axis i) (next_axis a)) (j (next_axis (next_axis i)) (next_axis (next_axis a))) (j (next_axis i) (next_axis (next_axis a))) (j (next_axis (next_axis i)) (next_axis a))

    small : (b : ℕ) → b * b ≤ b * b * b → 2 * b * b ≤ 6 * b * b * b
    small b h = omega arith
cofactor_fit (suc (suc (suc (suc d)))) l b j g sl sb h k o = absurd (omega arith)

pub volume_fit : (d l b : ℕ) (j : ℕ → ℕ → Fraction) → d ≤ 3 → l ^ d < 2 ^ 127 → volume_at b d < 2 ^ 127 → AreOver d l b j → StepsFit (volume_steps d j)
volume_fit zero l b j g h k o = tt
volume_fit (suc zero) l b j g h k o = tt
volume_fit (suc (suc zero)) l b j g h k o =
    minor_fit l b (j 0 0) (j 1 1) (j 0 1) (j 1 0) (subst (λ i. i < 2 ^ 127) (square l) h) k
    (o 0 0 (omega arith) (omega arith)) (o 1 1 (omega arith) (omega arith)) (o 0 1 (omega arith) (omega arith)) (o 1 0 (omega arith) (omega arith))
volume_fit (suc (suc (suc zero))) l b j g h k o =
    let low : l * (l * l) < 2 ^ 127 = subst (λ i. i < 2 ^ 127) (cube l ∙ N.mul_assoc l l l) h in
    let term : (a : ℕ) → a < 3 → Over (l * (l * l)) (b * (2 * b * b)) (mul (j 0 a) (cofactor_in 3 j 0 a)) = term_over l b j o in
    let first = term 0 (omega arith) in
    let second = term 1 (omega arith) in
    let third = term 2 (omega arith) in (
      product_fits (l * (l * l)) (b * (2 * b * b)) (j 0 0) (cofactor_in 3 j 0 0) low (one b k) first,
      (
        product_fits (l * (l * l)) (b * (2 * b * b)) (j 0 1) (cofactor_in 3 j 0 1) low (one b k) second,
        (
          sum_fits_over (l * (l * l)) (b * (2 * b * b)) (b * (2 * b * b)) (mul (j 0 0) (cofactor_in 3 j 0 0)) (mul (j 0 1) (cofactor_in 3 j 0 1)) low (two b k) first second,
          (
            product_fits (l * (l * l)) (b * (2 * b * b)) (j 0 2) (cofactor_in 3 j 0 2) low (one b k) third,
            (
              sum_fits_over (l * (l * l)) (b * (2 * b * b) + b * (2 * b * b)) (b * (2 * b * b)) (add (mul (j 0 0) (cofactor_in 3 j 0 0)) (mul (j 0 1) (cofactor_in 3 j 0 1))) (mul (j 0 2) (cofactor_in 3 j 0 2)) low (three b k)
                  (two_terms_over l b j o) third,
              tt,
            ),
          ),
        ),
      ),
    )
  where
    one : (b : ℕ) → 6 * b * b * b < 2 ^ 127 → b * (2 * b * b) < 2 ^ 127
    one b h = omega arith

    two : (b : ℕ) → 6 * b * b * b < 2 ^ 127 → b * (2 * b * b) + b * (2 * b * b) < 2 ^ 127
    two b h = omega arith

    three : (b : ℕ) → 6 * b * b * b < 2 ^ 127 → b * (2 * b * b) + b * (2 * b * b) + b * (2 * b * b) < 2 ^ 127
    three b h = omega arith
volume_fit (suc (suc (suc (suc d)))) l b j g h k o = absurd (omega arith)

-- ---- on a cell
-- what the steps before the columns need of its numbers
pub record HasSmallNumbers (c : CellNumbers) : Type 0 where
  pub coordinates : c.m + c.m < 2 ^ 127
  pub denominator : c.dd ^ c.d < 2 ^ 127
  pub volume : volume_bound c < 2 ^ 127
  pub growth : cofactor_bound c * c.dd < 2 ^ 127

module _ (c : CellNumbers) (v : Simplex) (w : List Fraction) (n : IsNumbered c v w) (small : HasSmallNumbers c) where
  first_power : c.dd ≤ c.dd ^ c.d
  first_power = subst (λ k. k ≤ c.dd ^ c.d) (N.pow-suc c.dd 0 ∙ ap (λ k. k * c.dd) (N.pow-zero c.dd) ∙ N.one-mul c.dd) (N.pow-le-pow_right n.dd (some_d c v w n))

  pub differences_fit : StepsFit (difference_steps c.d v)
  differences_fit =
      all_each_below c.d (λ i. each_below c.d (λ a. difference i a ∷ []))
      (λ i h. all_each_below c.d (λ a. difference i a ∷ [])
      (λ a g. (
        difference_fits_over c.dd c.m c.m (along_axis i (vertex_at v (suc a))) (along_axis i (vertex_at v 0)) (N.lt_of_le_of_lt first_power small.denominator) small.coordinates
            (n.coordinate (suc a) i (corner c v w n a g) h) (n.coordinate 0 i (corner_zero c v w n) h),
        tt,
      )))
    where
      difference : ℕ → ℕ → Step
      difference i a = Difference (along_axis i (vertex_at v (suc a))) (along_axis i (vertex_at v 0))

  -- up to the volume factor, on a degenerate cell too
  pub volume_fits : StepsFit (steps_to_volume c.d v)
  volume_fits =
      all_append StepFits (difference_steps c.d v) (cofactor_steps c.d (jacobian v) ++ volume_steps c.d (jacobian v)) differences_fit
      (all_append StepFits (cofactor_steps c.d (jacobian v)) (volume_steps c.d (jacobian v))
      (cofactor_fit c.d c.dd c.j (jacobian v) (small_d c v w n) n.dd n.j small.denominator small.volume (jacobian_over c v w n))
      (volume_fit c.d c.dd c.j (jacobian v) (small_d c v w n) small.denominator small.volume (jacobian_over c v w n)))

  pub preamble_fits : is_zero_fraction (volume v) ≡ false → StepsFit (preamble_steps c.d v)
  preamble_fits some =
      all_append StepFits (steps_to_volume c.d v) (growth_steps c.d v) volume_fits
      (all_each_below c.d (λ i. each_below c.d (λ a. growth i a ∷ []))
      (λ i h. all_each_below c.d (λ a. growth i a ∷ [])
      (λ a g. (
        product_fits (whole_volume c v) (cofactor_bound c * c.dd) (cofactor v i a) (inverse (volume v)) (N.lt_of_le_of_lt (volume_below c v w n) small.volume) small.growth
            (growth_over c v w n some i a),
        tt,
      ))))
    where
      growth : ℕ → ℕ → Step
      growth i a = Product (cofactor v i a) (inverse (volume v))
