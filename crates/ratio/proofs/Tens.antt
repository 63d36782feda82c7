-- Powers of ten, and numbers that are multiplied and divided by them
use Rattle.std.proofs.Common.{◌≡◌, ℕ, zero, suc, pos, ◌+◌, ◌-◌, ◌*◌, ◌/◌, subst₂, ◌<◌, ◌≤◌, ◌^◌, lit<, lit≤, refl, sym, ◌∙◌, ap, ap₂, subst, arith, unsigned_abs, Bool, true, false, None, Some}
use native.Mathlib.Nat as N
use mathlib.Core.Quot.{mk}
use Rattle.algebra.specs.Fraction.{Pair, Fraction, same, whole, pair_product, mul, inverse, of_integer, zero_fraction}
use Rattle.algebra.specs.Gcd.{gcd}
use Rattle.algebra.specs.GcdLaws.{IsGcd-gcd}
use Rattle.algebra.specs.Steps.{fits, product}
use Rattle.algebra.proofs.StepLaws.{product_value, product_refused}
use Rattle.ratio.specs.NumberText.{power_positive, scaled_by_tens}
use Rattle.ratio.proofs.Reading.{fits_pair}
use Rattle.ratio.proofs.FitLaws.{fits_below}

pub power_below : (k : ℕ) → k ≤ 38 → 10 ^ k < 2 ^ 127
power_below k h = N.lt_of_le_of_lt (N.pow-le-pow_right (lit< tt) h) (lit< tt)

pub power-add : (j k : ℕ) → 10 ^ (j + k) ≡ 10 ^ j * 10 ^ k
power-add j zero = ap (λ n. 10 ^ n) (N.add-zero j) ∙ sym (N.mul-one (10 ^ j))
power-add j (suc k) =
    ap (λ n. 10 ^ n) (N.add-suc j k) ∙ N.pow-suc 10 (j + k) ∙ ap (λ n. n * 10) (power-add j k) ∙ N.mul_assoc (10 ^ j) (10 ^ k) 10 ∙ ap (λ n. 10 ^ j * n) (sym (N.pow-suc 10 k))

power_parts : (j k : ℕ) → j ≤ k → 10 ^ k ≡ 10 ^ j * 10 ^ (k - j)
power_parts j k h = ap (λ n. 10 ^ n) (parts j k h) ∙ power-add j (k - j)
  where
    parts : (j k : ℕ) → j ≤ k → k ≡ j + (k - j)
    parts j k h = omega arith

-- the pair of n * 10^k / 10^m
abbrev pub tens_pair : ℕ → ℕ → ℕ → Pair
tens_pair n k m = record { num = pos (n * 10 ^ k); den = 10 ^ m; positive = power_positive m }

-- ---- whole numbers
pub whole_is : (top m k : ℕ) → top ≡ m * 10 ^ k → of_integer (pos top) ≡ scaled_by_tens m k 0
unfolding of_integer
whole_is top m k e = same (whole (pos top)) (tens_pair m k 0) (ap (λ n. pos (n * 1)) e)

whole_fits : (n : ℕ) (p : Pair) → p.num ≡ pos n → p.den ≡ 1 → fits (mk p) ≡ true → n < 2 ^ 127
whole_fits n p en ed h =
    let wide : n / gcd n 1 < 2 ^ 127 = subst₂ (λ z d. unsigned_abs z / gcd (unsigned_abs z) d < 2 ^ 127) en ed (fits_pair p h).0 in
    let one : gcd n 1 ≡ 1 = N.dvd-one.0 (IsGcd-gcd n 1).1 in
    subst (λ k. k < 2 ^ 127) (ap (λ g. n / g) one ∙ N.div-one n) wide

pub wide_whole : (m k : ℕ) → ¬ (m * 10 ^ k < 2 ^ 127) → ¬ (fits (scaled_by_tens m k 0) ≡ true)
wide_whole m k n h = n (whole_fits (m * 10 ^ k) (tens_pair m k 0) refl refl h)

-- a power of ten above the 38th is too wide for every multiple but 0
pub wide_power : (m k : ℕ) → 0 < m → 38 < k → ¬ (m * 10 ^ k < 2 ^ 127)
wide_power m k sm h l =
    let wide : 2 ^ 127 ≤ 10 ^ 39 = lit≤ tt in
    let power : 10 ^ 39 ≤ 10 ^ k = N.pow-le-pow_right (lit< tt) h in
    let product : 10 ^ k ≤ m * 10 ^ k = subst (λ n. 10 ^ k ≤ n) (N.mul_comm (10 ^ k) m) (N.le-mul_of_pos_right (10 ^ k) sm) in
    N.lt_irrefl (2 ^ 127) (N.lt_of_le_of_lt (N.le_trans wide (N.le_trans power product)) l)

-- ---- divided by tens
pub inverse_of_whole : (d : ℕ) (h : 0 < d) → inverse (of_integer (pos d)) ≡ mk (record { num = pos 1; den = d; positive = h })
unfolding inverse of_integer
inverse_of_whole zero h = absurd (N.lt_irrefl 0 h)
inverse_of_whole (suc d) h = same _ _ refl

step_cross : (m a b d : ℕ) → d ≡ a * b → m * 1 * 1 * d ≡ m * 1 * (a * b)
step_cross m a b d e = ap (λ n. m * 1 * 1 * n) e ∙ turn m a b
  where
    turn : (m a b : ℕ) → m * 1 * 1 * (a * b) ≡ m * 1 * (a * b)
    turn m a b = omega arith

step_at : (m j s : ℕ) → mul (scaled_by_tens m 0 j) (mk (record { num = pos 1; den = 10 ^ s; positive = power_positive s })) ≡ scaled_by_tens m 0 (j + s)
unfolding mul
step_at m j s =
    same (pair_product (tens_pair m 0 j) (record { num = pos 1; den = 10 ^ s; positive = power_positive s })) (tens_pair m 0 (j + s))
    (ap pos (step_cross m (10 ^ j) (10 ^ s) (10 ^ (j + s)) (power-add j s)))

-- one step down
pub lowered_step : (m j s : ℕ) → mul (scaled_by_tens m 0 j) (inverse (of_integer (pos (10 ^ s)))) ≡ scaled_by_tens m 0 (j + s)
lowered_step m j s = ap (mul (scaled_by_tens m 0 j)) (inverse_of_whole (10 ^ s) (power_positive s)) ∙ step_at m j s

pub lowered_start : (m : ℕ) → of_integer (pos m) ≡ scaled_by_tens m 0 0
lowered_start m = whole_is m m 0 (sym (N.mul-one m))

-- what fits when it is divided further fits before
pub fits_before : (m j k : ℕ) → m < 2 ^ 127 → j ≤ k → fits (scaled_by_tens m 0 k) ≡ true → fits (scaled_by_tens m 0 j) ≡ true
fits_before m j k small l h =
    fits_below (tens_pair m 0 j) (tens_pair m 0 k) (10 ^ (k - j)) (power_positive (k - j)) (subst (λ n. n < 2 ^ 127) (sym (N.mul-one m)) small) refl (power_parts j k l) h

-- ---- multiplied and divided
pub scaled_up : (m up down : ℕ) → down ≤ up → scaled_by_tens m (up - down) 0 ≡ scaled_by_tens m up down
scaled_up m up down h =
    same (tens_pair m (up - down) 0) (tens_pair m up down) (ap pos (turn m (10 ^ (up - down)) (10 ^ down) (10 ^ up) (power_parts down up h)))
  where
    turn : (m a b c : ℕ) → c ≡ b * a → m * a * b ≡ m * c * 1
    turn m a b c e = omega (arith, ap (λ n. m * n) e)

pub scaled_down : (m up down : ℕ) → up ≤ down → scaled_by_tens m 0 (down - up) ≡ scaled_by_tens m up down
scaled_down m up down h =
    same (tens_pair m 0 (down - up)) (tens_pair m up down) (ap pos (turn m (10 ^ up) (10 ^ (down - up)) (10 ^ down) (power_parts up down h)))
  where
    turn : (m a b c : ℕ) → c ≡ a * b → m * 1 * c ≡ m * a * b
    turn m a b c e = omega (arith, ap (λ n. m * n) e)

pub scaled_zero : (up down : ℕ) → zero_fraction ≡ scaled_by_tens 0 up down
unfolding zero_fraction
scaled_zero up down = same (whole (pos 0)) (tens_pair 0 up down) (ap pos (N.zero-mul (10 ^ down) ∙ sym (N.zero-mul 1) ∙ ap (λ n. n * 1) (sym (N.zero-mul (10 ^ up)))))

-- ---- the steps of a division by a power of ten: x is m / 10^(k - left), and s of the powers that are left come next
step_value : (m k left s p : ℕ) (x y : Fraction) → left ≤ k → s ≤ left → x ≡ scaled_by_tens m 0 (k - left) → y ≡ inverse (of_integer (pos p)) → p ≡ 10 ^ s
    → mul x y ≡ scaled_by_tens m 0 (k - (left - s))
step_value m k left s p x y h g ex ey ep =
    ap₂ mul ex (ey ∙ ap (λ n. inverse (of_integer (pos n))) ep) ∙ lowered_step m (k - left) s ∙ ap (λ n. scaled_by_tens m 0 n) (rest k left s h g)
  where
    rest : (k left s : ℕ) → left ≤ k → s ≤ left → k - left + s ≡ k - (left - s)
    rest k left s h g = omega arith

pub lowered_goes : (m k left s p : ℕ) (x y u : Fraction) → left ≤ k → s ≤ left → x ≡ scaled_by_tens m 0 (k - left) → y ≡ inverse (of_integer (pos p)) → p ≡ 10 ^ s
    → product x y ≡ Some u → u ≡ scaled_by_tens m 0 (k - (left - s))
lowered_goes m k left s p x y u h g ex ey ep e = product_value x y u e ∙ step_value m k left s p x y h g ex ey ep

pub lowered_stops : (m k left s p : ℕ) (x y : Fraction) → m < 2 ^ 127 → left ≤ k → s ≤ left → x ≡ scaled_by_tens m 0 (k - left) → y ≡ inverse (of_integer (pos p)) → p ≡ 10 ^ s
    → product x y ≡ None → ¬ (fits (scaled_by_tens m 0 k) ≡ true)
lowered_stops m k left s p x y small h g ex ey ep e f =
    let stopped : fits (scaled_by_tens m 0 (k - (left - s))) ≡ false = sym (ap fits (step_value m k left s p x y h g ex ey ep)) ∙ product_refused x y e in
    let before : fits (scaled_by_tens m 0 (k - (left - s))) ≡ true = fits_before m (k - (left - s)) k small (less k left s) f in
    apart _ stopped before
  where
    less : (k left s : ℕ) → k - (left - s) ≤ k
    less k left s = omega arith

    apart : (t : Bool) → t ≡ false → t ≡ true → ⊥
    apart t a b = cc

-- ten to what was left out moves from the number to the power
pub scaled_moved : (n m z u w up down : ℕ) → n ≡ m * 10 ^ z → z + u + down ≡ up + w → scaled_by_tens m up down ≡ scaled_by_tens n u w
scaled_moved n m z u w up down e h =
    same (tens_pair m up down) (tens_pair n u w)
    (ap pos (turn n m (10 ^ z) (10 ^ u) (10 ^ w) (10 ^ up) (10 ^ down) e
    (sym (ap (λ k. k * 10 ^ down) (power-add z u)) ∙ sym (power-add (z + u) down) ∙ ap (λ k. 10 ^ k) h ∙ power-add up w)))
  where
    turn : (n m a b c d f : ℕ) → n ≡ m * a → a * b * f ≡ d * c → m * d * c ≡ n * b * f
    turn n m a b c d f e h = N.mul_assoc m d c ∙ ap (λ k. m * k) (sym h) ∙ regroup m a b f ∙ ap (λ k. k * b * f) (sym e)
      where
        regroup : (m a b f : ℕ) → m * (a * b * f) ≡ m * a * b * f
        regroup m a b f = omega arith
