-- Every step keeps weights sound
use Rattle.std.proofs.Common.{◌≡◌, ℕ, zero, suc, ◌+◌, ◌*◌, ◌/◌, ◌<◌, ◌≤◌, max, arith}
use Prim.Native.Nat.{◌∣◌}
use native.Mathlib.Nat as N
use Rattle.monos.specs.declared.weight.Weight.{Weight}
use Rattle.weigh.specs.Bounds.{IsSound}
use Rattle.weigh.specs.Steps.{lcm, number_step, times_step, both_step, join_step, plus_step, index_step, space_step, linear_step, label_step, part_step}
use Rattle.weigh.proofs.LcmLaws.{times_of, lcm_left, lcm_right, lcm_positive}

-- ---- numerators over a common denominator
quotient_positive : (d n : ℕ) → 1 ≤ n → d ∣ n → 1 ≤ n / d
quotient_positive d n p h = some (n / d) (times_of d n h)
  where
    some : (q : ℕ) → n ≡ d * q → 1 ≤ q
    some zero e = let z : d * 0 ≡ 0 = N.mul-zero d in omega (arith, e, z)
    some (suc q) e = omega arith

pub whole_scaled : (num d n : ℕ) → d ≤ num → d ∣ n → n ≤ num * (n / d)
whole_scaled num d n p h = let e : n ≡ d * (n / d) = times_of d n h in let m : d * (n / d) ≤ num * (n / d) = N.mul-le-mul_right (n / d) p in omega (arith, e, m)

pub own_scaled : (num d n : ℕ) → 1 ≤ n → d ∣ n → num ≤ num * (n / d)
own_scaled num d n p h = N.le-mul_of_pos_right num (quotient_positive d n p h)

-- ---- a way to put two numbers together that is at least each
pub record IsPut (put : ℕ → ℕ → ℕ) : Type 0 where
  pub first : (m n : ℕ) → m ≤ put m n
  pub second : (m n : ℕ) → n ≤ put m n

pub max_put : IsPut max
max_put = record { first = N.le-max_left; second = N.le-max_right }

pub sum_put : IsPut (λ m n. m + n)
sum_put = record { first = λ m n. omega arith; second = λ m n. omega arith }

above : (a b c : ℕ) → a ≤ b → b ≤ c → a ≤ c
above a b c p q = omega arith

few_put : (ra rb na nb p : ℕ) → ra < na → rb < nb → na ≤ p → nb ≤ p → max ra rb < p
few_put ra rb na nb p h k m n = omega arith

pub both_sound : (put : ℕ → ℕ → ℕ) → IsPut put → (a b : Weight) → IsSound a → IsSound b → IsSound (both_step put a b)
both_sound put P a b p q =
    let l : ℕ = lcm a.den b.den in
    let some : 1 ≤ lcm a.den b.den = lcm_positive a.den b.den p.den q.den in
    let x : ℕ = a.num * (lcm a.den b.den / a.den) in
    let y : ℕ = b.num * (lcm a.den b.den / b.den) in
    record {
      cost = above 1 a.cost (put a.cost b.cost) p.cost (P.first a.cost b.cost);
      g = let h = p.g in omega (arith, h);
      den = some;
      fac = lcm_positive a.fac b.fac p.fac q.fac;
      s = let h = p.s in omega (arith, h);
      parts = above l x (put x y) (whole_scaled a.num a.den l p.parts (lcm_left a.den b.den)) (P.first x y);
      functions = let h = p.functions in let k = q.functions in omega (arith, h, k);
      derivatives = let h = p.derivatives in let k = q.derivatives in omega (arith, h, k);
      few = few_put a.rmax b.rmax a.num b.num (put x y) p.few q.few
          (above a.num x (put x y) (own_scaled a.num a.den l some (lcm_left a.den b.den)) (P.first x y))
          (above b.num y (put x y) (own_scaled b.num b.den l some (lcm_right a.den b.den)) (P.second x y));
    }

pub join_sound : (a b : Weight) → IsSound a → IsSound b → IsSound (join_step a b)
join_sound = both_sound max max_put

pub plus_sound : (a b : Weight) → IsSound a → IsSound b → IsSound (plus_step a b)
plus_sound = both_sound (λ m n. m + n) sum_put

-- ---- the other steps
few_times : (ra rb na nb : ℕ) → ra < na → rb < nb → ra + rb < na * nb
few_times ra rb na nb p q = let h : suc ra * suc rb ≤ na * nb = N.mul-le-mul p q in omega (arith, h)

-- a number n/m, or a function, under some labels
pub leaf_sound : (f g n m : ℕ) → f ≤ g → 1 ≤ g → 1 ≤ m → m ≤ n → IsSound (record (number_step n m) { g = g; f = f; num = n })
leaf_sound f g n m l h p k = record {
  cost = omega arith;
  g = h;
  den = p;
  fac = omega arith;
  s = omega arith;
  parts = k;
  functions = l;
  derivatives = omega arith;
  few = omega arith;
}

pub number_sound : (n m : ℕ) → 1 ≤ m → IsSound (number_step n m)
number_sound n m p = leaf_sound 0 1 (max n m) m (omega arith) (omega arith) p (omega arith)

pub times_sound : (a b : Weight) → IsSound a → IsSound b → IsSound (times_step a b)
times_sound a b p q = record {
  cost = N.mul-pos p.cost q.cost;
  g = omega arith;
  den = N.mul-pos p.den q.den;
  fac = N.mul-pos p.fac q.fac;
  s = N.mul-pos p.s q.s;
  parts = N.mul-le-mul p.parts q.parts;
  functions = omega arith;
  derivatives = omega arith;
  few = few_times a.rmax b.rmax a.num b.num p.few q.few;
}

-- a step that changes the cost, the labels, the numerator and the least order alone
changed_sound : (a : Weight) (cost g num rmin : ℕ) → IsSound a → 1 ≤ cost → a.g ≤ g → a.num ≤ num → rmin ≤ a.rmax
    → IsSound (record a { cost = cost; g = g; num = num; rmin = rmin })
changed_sound a cost g num rmin p c l n r = record {
  cost = c;
  g = above 1 a.g g p.g l;
  den = p.den;
  fac = p.fac;
  s = p.s;
  parts = above a.den a.num num p.parts n;
  functions = above a.f a.g g p.functions l;
  derivatives = r;
  few = above (suc a.rmax) a.num num p.few n;
}

pub index_sound : (n : ℕ) (a : Weight) → IsSound a → IsSound (index_step n a)
index_sound n a p =
    changed_sound a (a.cost * max n 1) a.g a.num a.rmin p (N.mul-pos p.cost (omega arith)) (N.le_refl a.g) (N.le_refl a.num) p.derivatives

pub space_sound : (d : ℕ) → 1 ≤ d → (a : Weight) → IsSound a → IsSound (space_step d a)
space_sound d h a p = record {
  cost = N.mul-pos (N.mul-pos p.cost p.g) h;
  g = p.g;
  den = p.den;
  fac = p.fac;
  s = p.s;
  parts = let k = p.parts in omega (arith, k);
  functions = p.functions;
  derivatives = let k = p.derivatives in omega (arith, k);
  few = let k = p.few in omega (arith, k);
}

pub linear_sound : (a : Weight) → IsSound a → IsSound (linear_step a)
linear_sound a p =
    changed_sound a (a.cost * a.g) a.g (a.num * a.g) 0 p (N.mul-pos p.cost p.g) (N.le_refl a.g) (N.le-mul_of_pos_right a.num p.g) (omega arith)

pub label_sound : (n : ℕ) (a : Weight) → IsSound a → IsSound (label_step n a)
label_sound n a p = changed_sound a a.cost (a.g + max n 1) a.num a.rmin p p.cost (omega arith) (N.le_refl a.num) p.derivatives

pub part_sound : (a : Weight) → IsSound a → IsSound (part_step a)
part_sound a p = changed_sound a a.cost a.g a.num 0 p p.cost (N.le_refl a.g) (N.le_refl a.num) (omega arith)
