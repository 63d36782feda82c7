-- What a room below 2^127 says of the numbers of a cell
use Rattle.std.proofs.Common.{◌≡◌, ℕ, zero, suc, ◌+◌, ◌-◌, ◌*◌, ◌^◌, ◌<◌, ◌≤◌, max, refl, sym, ◌∙◌, ap, ap₂, subst, subst₂, arith, List, false}
use Rattle.std.proofs.lemmas.Nat.{pow-add, mul-pow}
use native.Mathlib.Nat as N
use Rattle.algebra.specs.Fraction.{Fraction, is_zero_fraction}
use Rattle.calculus.specs.Simplex.{Simplex, volume}
use Rattle.weigh.specs.Refusals.{lcd, size}
use Rattle.monos.specs.declared.weight.Weight.{Weight}
use Rattle.room.specs.Room.{cofactor_at, volume_at, cofactor_bound, volume_bound, whole_volume, depth, geometry, greatest, common, common_of, most, scale, room}
use Rattle.room.specs.declared.numbers.CellNumbers.{CellNumbers}
use Rattle.room.specs.Numbered.{IsNumbered}
use Rattle.room.specs.Columns.{column_denominator, derived_numerator, column_numerator}
use Rattle.room.proofs.EndsLaws.{below_greatest}
use Rattle.room.proofs.PreambleLaws.{HasSmallNumbers}
use Rattle.room.proofs.VolumeLaws.{some_d, volume_below, whole_positive}

-- ---- whole numbers
pub grow : (a b : ℕ) → 0 < b → a ≤ a * b
grow a b h = subst (λ k. k ≤ a * b) (N.mul-one a) (N.mul-le-mul_left a h)

power_split : (x a b : ℕ) → a ≤ b → x ^ a * x ^ (b - a) ≡ x ^ b
power_split x a b h = sym (pow-add x a (b - a)) ∙ ap (λ k. x ^ k) (whole a b h)
  where
    whole : (a b : ℕ) → a ≤ b → a + (b - a) ≡ b
    whole a b h = omega arith

pub volume_at_positive : (j d : ℕ) → 0 < j → 0 < volume_at j d
volume_at_positive j zero h = omega arith
volume_at_positive j (suc zero) h = h
volume_at_positive j (suc (suc zero)) h = N.mul-pos (N.mul-pos (N.zero-lt-suc 1) h) h
volume_at_positive j (suc (suc (suc d))) h = N.mul-pos (N.mul-pos (N.mul-pos (N.zero-lt-suc 5) h) h) h

pub cofactor_at_positive : (j d : ℕ) → 0 < j → 0 < cofactor_at j d
cofactor_at_positive j zero h = omega arith
cofactor_at_positive j (suc zero) h = omega arith
cofactor_at_positive j (suc (suc zero)) h = h
cofactor_at_positive j (suc (suc (suc d))) h = N.mul-pos (N.mul-pos (N.zero-lt-suc 1) h) h

pub cofactor_below : (j d : ℕ) → 0 < j → cofactor_at j d ≤ volume_at j d
cofactor_below j zero h = omega arith
cofactor_below j (suc zero) h = h
cofactor_below j (suc (suc zero)) h = let g = grow j j h in omega arith
cofactor_below j (suc (suc (suc d))) h = let g = grow (j * j) j h in omega arith

-- ---- the parts of the room
pub record IsInRoom (w : Weight) (c : CellNumbers) : Type 0 where
  pub most : most w c < 2 ^ 127
  pub common : common w c < 2 ^ 127
  pub volume : volume_bound c * c.dd ^ c.d < 2 ^ 127
  pub coordinates : c.m + c.m < 2 ^ 127

parts : (p q s m : ℕ) → 1024 * max (max p q) (max s m) < 2 ^ 127 → (p < 2 ^ 127) × ((q < 2 ^ 127) × ((s < 2 ^ 127) × (m + m < 2 ^ 127)))
parts p q s m h = (omega arith, (omega arith, (omega arith, omega arith)))

pub in_room : (w : Weight) (c : CellNumbers) → room w c < 2 ^ 127 → IsInRoom w c
unfolding room
in_room w c h =
    let p = parts (most w c) (common w c) (volume_bound c * c.dd ^ c.d) c.m h in
    record { most = p.0; common = p.1.0; volume = p.1.1.0; coordinates = p.1.1.1 }

module _ (w : Weight) (c : CellNumbers) (v : Simplex) (values : List Fraction) (n : IsNumbered c v values) (r : IsInRoom w c) where
  pub some_cofactor : 0 < cofactor_bound c
  some_cofactor = cofactor_at_positive c.j c.d n.j

  pub some_volume : 0 < volume_bound c
  some_volume = volume_at_positive c.j c.d n.j

  first_power : c.dd ≤ c.dd ^ c.d
  first_power = subst (λ k. k ≤ c.dd ^ c.d) (N.pow-suc c.dd 0 ∙ ap (λ k. k * c.dd) (N.pow-zero c.dd) ∙ N.one-mul c.dd) (N.pow-le-pow_right n.dd (some_d c v values n))

  pub small_numbers : HasSmallNumbers c
  small_numbers = record {
    coordinates = r.coordinates;
    denominator = N.lt_of_le_of_lt (subst (λ k. c.dd ^ c.d ≤ k) (N.mul_comm (c.dd ^ c.d) (volume_bound c)) (grow (c.dd ^ c.d) (volume_bound c) some_volume)) r.volume;
    volume = N.lt_of_le_of_lt (grow (volume_bound c) (c.dd ^ c.d) (N.one-le-pow c.d c.dd n.dd)) r.volume;
    growth = N.lt_of_le_of_lt (N.mul-le-mul (cofactor_below c.j c.d n.j) first_power) r.volume;
  }

-- ---- columns with r derivative factors and i values
module _ (w : Weight) (c : CellNumbers) (v : Simplex) (values : List Fraction) (n : IsNumbered c v values) (some : is_zero_fraction (volume v) ≡ false) where
  one_deep : 1 ≤ depth w
  one_deep = right w.rmax
    where
      right : (a : ℕ) → 1 ≤ max a 1
      right a = omega arith

  deep : (k : ℕ) → k ≤ w.rmax → k ≤ depth w
  deep k h = left w.rmax k h
    where
      left : (a k : ℕ) → k ≤ a → k ≤ max a 1
      left a k h = omega arith

  -- what is left of V and of Dw up to the common denominator
  abbrev pub missing : ℕ → ℕ → ℕ
  missing k i = whole_volume c v ^ (depth w - 1 - (k - 1)) * c.dw ^ (w.f - i)

  pub missing_positive : (k i : ℕ) → 0 < missing k i
  missing_positive k i = N.mul-pos (N.one-le-pow (depth w - 1 - (k - 1)) (whole_volume c v) (whole_positive c v values n some)) (N.one-le-pow (w.f - i) c.dw n.dw)

  pub lift_denominator : (k i : ℕ) → k ≤ w.rmax → i ≤ w.f → lcd c.d w * column_denominator c v k i * missing k i ≡ common_of w c v
  lift_denominator k i h g =
      turn (lcd c.d w) (c.dd ^ c.d) (whole_volume c v ^ (k - 1)) (c.dw ^ i) (whole_volume c v ^ (depth w - 1 - (k - 1))) (c.dw ^ (w.f - i))
      ∙ ap₂ (λ a b. lcd c.d w * a * c.dd ^ c.d * b) (power_split (whole_volume c v) (k - 1) (depth w - 1) (less k (depth w) (deep k h))) (power_split c.dw i w.f g)
    where
      turn : (l t x y p q : ℕ) → l * (t * x * y) * (p * q) ≡ l * (x * p) * t * (y * q)
      turn l t x y p q = omega arith

      less : (k e : ℕ) → k ≤ e → k - 1 ≤ e - 1
      less k e h = omega arith

  flat_numerator : (k : ℕ) → k ≤ w.rmax → derived_numerator c v k * whole_volume c v ^ (depth w - 1 - (k - 1)) ≤ geometry w c k
  flat_numerator zero h =
      subst₂ ◌≤◌ (ap (λ e. whole_volume c v ^ e) (deeper (depth w) one_deep) ∙ N.pow-succ' (whole_volume c v) (depth w - 1 - (0 - 1))) (sym (bare (cofactor_bound c) (volume_bound c) c.dd (depth w)))
      (N.pow-le-pow_left (volume_below c v values n) (depth w))
    where
      deeper : (e : ℕ) → 1 ≤ e → e ≡ suc (e - 1 - (0 - 1))
      deeper e h = omega arith

      bare : (a s d e : ℕ) → a ^ 0 * s ^ (e - 0) * d ^ 0 ≡ s ^ e
      bare a s d e =
          ap₂ (λ x y. x * s ^ (e - 0) * y) (N.pow-zero a) (N.pow-zero d) ∙ N.mul-one (1 * s ^ (e - 0)) ∙ N.one-mul (s ^ (e - 0)) ∙ ap (λ k. s ^ k) (whole e)
        where
          whole : (e : ℕ) → e - 0 ≡ e
          whole e = omega arith
  flat_numerator (suc k) h =
      subst₂ ◌≤◌ (ap₂ (λ a e. a * whole_volume c v ^ e) (sym (mul-pow (cofactor_bound c) c.dd (suc k))) (same (depth w) k)) (turn (cofactor_bound c ^ suc k) (c.dd ^ suc k) (volume_bound c ^ (depth w - suc k)))
      (N.mul-le-mul_left (cofactor_bound c ^ suc k * c.dd ^ suc k) (N.pow-le-pow_left (volume_below c v values n) (depth w - suc k)))
    where
      same : (e k : ℕ) → e - suc k ≡ e - 1 - (suc k - 1)
      same e k = omega arith

      turn : (x y z : ℕ) → x * y * z ≡ x * z * y
      turn x y z = omega arith

  values_below : (i : ℕ) → i ≤ w.f → c.nw ^ i * c.dw ^ (w.f - i) ≤ (c.nw * c.dw) ^ w.f
  values_below i h = subst (λ k. c.nw ^ i * c.dw ^ (w.f - i) ≤ k) (sym (mul-pow c.nw c.dw w.f)) (N.mul-le-mul (N.pow-le-pow_right n.nw h) (N.pow-le-pow_right n.dw (less w.f i)))
    where
      less : (f i : ℕ) → f - i ≤ f
      less f i = omega arith

  in_reach : (k : ℕ) → w.rmin ≤ k → k ≤ w.rmax → geometry w c k ≤ greatest (geometry w c) w.rmin (w.rmax - w.rmin)
  in_reach k h g = subst (λ i. geometry w c i ≤ greatest (geometry w c) w.rmin (w.rmax - w.rmin)) (whole w.rmin k h) (below_greatest (geometry w c) w.rmin (w.rmax - w.rmin) (k - w.rmin) (less w.rmin k w.rmax g))
    where
      whole : (a k : ℕ) → a ≤ k → a + (k - a) ≡ k
      whole a k h = omega arith

      less : (a k b : ℕ) → k ≤ b → k - a ≤ b - a
      less a k b h = omega arith

  pub lift_numerator : (k i : ℕ) → w.rmin ≤ k → k ≤ w.rmax → i ≤ w.f → column_numerator c v k i * missing k i ≤ scale w c
  lift_numerator k i h g f =
      subst₂ ◌≤◌ (turn (c.nw ^ i) (c.dw ^ (w.f - i)) (derived_numerator c v k) (whole_volume c v ^ (depth w - 1 - (k - 1)))) refl
      (N.mul-le-mul (values_below i f) (N.le_trans (flat_numerator k g) (in_reach k h g)))
    where
      turn : (x y p q : ℕ) → x * y * (p * q) ≡ p * x * (q * y)
      turn x y p q = omega arith

  -- ---- below 2^127
  pub common_below : common_of w c v ≤ common w c
  common_below =
      N.mul-le-mul_right (c.dw ^ w.f) (N.mul-le-mul_right (c.dd ^ c.d) (N.mul-le-mul_left (lcd c.d w) (N.pow-le-pow_left (volume_below c v values n) (depth w - 1))))

  pub most_is : most w c ≡ size c.d w * scale w c
  most_is = N.mul_assoc (size c.d w) ((c.nw * c.dw) ^ w.f) (greatest (geometry w c) w.rmin (w.rmax - w.rmin))

  pub numerator_below : (k i : ℕ) → w.rmin ≤ k → k ≤ w.rmax → i ≤ w.f → column_numerator c v k i ≤ scale w c
  numerator_below k i h g f = N.le_trans (grow (column_numerator c v k i) (missing k i) (missing_positive k i)) (lift_numerator k i h g f)

  pub denominator_below : (k i : ℕ) → k ≤ w.rmax → i ≤ w.f → lcd c.d w * column_denominator c v k i ≤ common w c
  denominator_below k i h g =
      N.le_trans (subst (λ l. lcd c.d w * column_denominator c v k i ≤ l) (lift_denominator k i h g) (grow (lcd c.d w * column_denominator c v k i) (missing k i) (missing_positive k i))) common_below
