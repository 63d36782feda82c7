-- The greatest of c^r * s^(e-r) * D^r stands at an end
use Rattle.std.proofs.Common.{◌≡◌, ℕ, zero, suc, ◌+◌, ◌-◌, ◌*◌, ◌^◌, ◌<◌, ◌≤◌, max, refl, sym, ◌∙◌, ap, ap₂, subst, subst₂, arith, Bool, true, false, nat_lt, ltb-true}
use Rattle.std.proofs.lemmas.Bool.{ltb-false}
use native.Mathlib.Nat as N
use Rattle.room.specs.Room.{mass_weight}
use Rattle.weigh.specs.Refusals.{lcd, size}
use Rattle.monos.specs.declared.weight.Weight.{Weight}
use Rattle.room.specs.Room.{geometric, geometry, greatest, depth, most, most_at_ends, cofactor_bound, volume_bound, room, room_by, common, numbers_at}
use Rattle.room.specs.declared.numbers.CellNumbers.{CellNumbers}

next_is : (c s d e r : ℕ) → geometric c s d e (suc r) ≡ c * d * (c ^ r * s ^ (e - suc r) * d ^ r)
next_is c s d e r = ap₂ (λ a b. a * s ^ (e - suc r) * b) (N.pow-succ' c r) (N.pow-succ' d r) ∙ turn c d (c ^ r) (s ^ (e - suc r)) (d ^ r)
  where
    turn : (c d x y z : ℕ) → c * x * y * (d * z) ≡ c * d * (x * y * z)
    turn c d x y z = omega arith

this_is : (c s d e r : ℕ) → suc r ≤ e → geometric c s d e r ≡ s * (c ^ r * s ^ (e - suc r) * d ^ r)
this_is c s d e r h = ap (λ k. c ^ r * k * d ^ r) (ap (λ n. s ^ n) (less e r h) ∙ N.pow-succ' s (e - suc r)) ∙ turn s (c ^ r) (s ^ (e - suc r)) (d ^ r)
  where
    less : (e r : ℕ) → suc r ≤ e → e - r ≡ suc (e - suc r)
    less e r h = omega arith

    turn : (s x y z : ℕ) → x * (s * y) * z ≡ s * (x * y * z)
    turn s x y z = omega arith

falls : (c s d e r : ℕ) → c * d ≤ s → suc r ≤ e → geometric c s d e (suc r) ≤ geometric c s d e r
falls c s d e r h g = subst₂ ◌≤◌ (sym (next_is c s d e r)) (sym (this_is c s d e r g)) (N.mul-le-mul_right (c ^ r * s ^ (e - suc r) * d ^ r) h)

rises : (c s d e r : ℕ) → s ≤ c * d → suc r ≤ e → geometric c s d e r ≤ geometric c s d e (suc r)
rises c s d e r h g = subst₂ ◌≤◌ (sym (this_is c s d e r g)) (sym (next_is c s d e r)) (N.mul-le-mul_right (c ^ r * s ^ (e - suc r) * d ^ r) h)

-- a function that rises, or falls, on n steps from r on
rises_to : (f : ℕ → ℕ) (r n : ℕ) → ((k : ℕ) → k < r + n → f k ≤ f (suc k)) → f r ≤ f (r + n)
rises_to f r zero h = subst (λ k. f r ≤ f k) (sym (N.add-zero r)) (N.le_refl (f r))
rises_to f r (suc n) h =
    subst (λ k. f r ≤ f k) (sym (N.add-suc r n))
    (N.le_trans (rises_to f r n (λ k g. h k (more k r n g))) (h (r + n) (last r n)))
  where
    more : (k r n : ℕ) → k < r + n → k < r + suc n
    more k r n h = omega arith

    last : (r n : ℕ) → r + n < r + suc n
    last r n = omega arith

shifted : (r n : ℕ) → suc r + n ≡ r + suc n
shifted r n = omega arith

join_left : (a b c g : ℕ) → g ≡ max b c → b ≤ a → max a g ≡ max a c
join_left a b c g e h = omega arith

join_right : (a b c g : ℕ) → g ≡ max b c → b ≤ c → max a g ≡ max a c
join_right a b c g e h = omega arith

itself : (a : ℕ) → max a a ≡ a
itself a = omega arith

at_ends_falling : (f : ℕ → ℕ) (r n : ℕ) → ((k : ℕ) → k < r + n → f (suc k) ≤ f k) → greatest f r n ≡ max (f r) (f (r + n))
at_ends_falling f r zero h = sym (ap (λ k. max (f r) (f k)) (N.add-zero r) ∙ itself (f r))
at_ends_falling f r (suc n) h =
    join_left (f r) (f (suc r)) (f (suc r + n)) (greatest f (suc r) n) (at_ends_falling f (suc r) n (λ k g. h k (subst (λ i. k < i) (shifted r n) g))) (h r (near r n))
    ∙ ap (λ k. max (f r) (f k)) (shifted r n)
  where
    near : (r n : ℕ) → r < r + suc n
    near r n = omega arith

at_ends_rising : (f : ℕ → ℕ) (r n : ℕ) → ((k : ℕ) → k < r + n → f k ≤ f (suc k)) → greatest f r n ≡ max (f r) (f (r + n))
at_ends_rising f r zero h = sym (ap (λ k. max (f r) (f k)) (N.add-zero r) ∙ itself (f r))
at_ends_rising f r (suc n) h =
    let onward : (k : ℕ) → k < suc r + n → f k ≤ f (suc k) = λ k g. h k (subst (λ i. k < i) (shifted r n) g) in
    join_right (f r) (f (suc r)) (f (suc r + n)) (greatest f (suc r) n) (at_ends_rising f (suc r) n onward) (rises_to f (suc r) n onward)
    ∙ ap (λ k. max (f r) (f k)) (shifted r n)

pub greatest-geometric : (c s d e r n : ℕ) → r + n ≤ e → greatest (geometric c s d e) r n ≡ max (geometric c s d e r) (geometric c s d e (r + n))
greatest-geometric c s d e r n h = go (nat_lt s (c * d)) refl
  where
    within : (k r n e : ℕ) → k < r + n → r + n ≤ e → suc k ≤ e
    within k r n e g h = omega arith

    go : (t : Bool) → nat_lt s (c * d) ≡ t → greatest (geometric c s d e) r n ≡ max (geometric c s d e r) (geometric c s d e (r + n))
    go false g = at_ends_falling (geometric c s d e) r n (λ k b. falls c s d e k (ltb-false s (c * d) g) (within k r n e b h))
    go true g = at_ends_rising (geometric c s d e) r n (λ k b. rises c s d e k (N.le_trans (N.le-suc s) (ltb-true s (c * d) g)) (within k r n e b h))

-- the numerator's bound from the two ends alone
pub most-at_ends : (w : Weight) (c : CellNumbers) → w.rmin ≤ w.rmax → most w c ≡ most_at_ends w c
most-at_ends w c h =
    ap (λ k. size c.d w * (c.nw * c.dw) ^ w.f * k)
    (greatest-geometric (cofactor_bound c) (volume_bound c) c.dd (depth w) w.rmin (w.rmax - w.rmin) (within w.rmin w.rmax h)
    ∙ ap (λ r. max (geometry w c w.rmin) (geometry w c r)) (whole w.rmin w.rmax h))
  where
    whole : (a b : ℕ) → a ≤ b → a + (b - a) ≡ b
    whole a b h = omega arith

    within : (a b : ℕ) → a ≤ b → a + (b - a) ≤ max b 1
    within a b h = omega arith

-- each r between is at most the greatest
pub below_greatest : (f : ℕ → ℕ) (r n k : ℕ) → k ≤ n → f (r + k) ≤ greatest f r n
below_greatest f r zero k h = subst (λ i. f i ≤ f r) (same r k h) (N.le_refl (f r))
  where
    same : (r k : ℕ) → k ≤ 0 → r ≡ r + k
    same r k h = omega arith
below_greatest f r (suc n) zero h = subst (λ i. f i ≤ max (f r) (greatest f (suc r) n)) (sym (N.add-zero r)) (left (f r) (greatest f (suc r) n))
  where
    left : (a b : ℕ) → a ≤ max a b
    left a b = omega arith
below_greatest f r (suc n) (suc k) h = subst (λ i. f i ≤ max (f r) (greatest f (suc r) n)) (shifted r k) (N.le_trans (below_greatest f (suc r) n k (N.le_of_suc-le-suc h)) (right (f r) (greatest f (suc r) n)))
  where
    right : (a b : ℕ) → b ≤ max a b
    right a b = omega arith

-- the room by what is computed
pub room_computed : (w : Weight) (c : CellNumbers) → w.rmin ≤ w.rmax → room w c ≡ room_by (lcd c.d w) (size c.d w) w.f w.rmin w.rmax c
unfolding room
room_computed w c h = ap (λ k. 1024 * max (max k (common w c)) (max (volume_bound c * c.dd ^ c.d) c.m)) (most-at_ends w c h)

pub room_worked : room mass_weight (numbers_at 1 1 1) ≡ 786432
unfolding room
room_worked = refl
