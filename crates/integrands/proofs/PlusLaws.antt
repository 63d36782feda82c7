-- The weight of a sum bounds those of its parts, does not depend on brackets, and times a weight is that of the sum of the products
use Rattle.std.proofs.Common.{◌≡◌, ℕ, ◌+◌, ◌*◌, ◌/◌, ◌≤◌, sym, ◌∙◌, ap, ap₂, subst, arith}
use Rattle.std.proofs.Math.Nat.{eq_of_mul-eq-mul_left}
use Rattle.std.proofs.lemmas.Nat.Gcd.{dvd_trans, dvd_antisymm}
use Prim.Native.Nat.{◌∣◌}
use native.Mathlib.Nat as N
use Rattle.monos.specs.declared.weight.Weight.{Weight}
use Rattle.weigh.specs.Bounds.{Bounds, IsSound}
use Rattle.weigh.specs.Steps.{lcm, times_step, plus_step}
use Rattle.weigh.proofs.LcmLaws.{times_of, lcm_left, lcm_right, lcm_least, lcm_positive}

-- ---- the parts
item_parts : (n d l x : ℕ) → d ∣ l → n * (l / d) ≤ x → n * l ≤ x * d
item_parts n d l x a h = at (l / d) (times_of d l a) h
  where
    at : (p : ℕ) → l ≡ d * p → n * p ≤ x → n * l ≤ x * d
    at p e k = subst (λ m. n * m ≤ x * d) (sym e) (through (N.mul-le-mul_right d k))
      where
        through : n * p * d ≤ x * d → n * (d * p) ≤ x * d
        through q = omega (arith, q)

le_left : (x y : ℕ) → x ≤ x + y
le_left x y = omega arith

le_right : (x y : ℕ) → y ≤ x + y
le_right x y = omega arith

pub plus_first : (a b : Weight) → IsSound a → IsSound b → Bounds (plus_step a b) a
plus_first a b p q = record {
  cost = le_left a.cost b.cost;
  deg = N.le-max_left a.deg b.deg;
  g = N.le-max_left a.g b.g;
  f = N.le-max_left a.f b.f;
  rmin = N.min-le_left a.rmin b.rmin;
  rmax = N.le-max_left a.rmax b.rmax;
  s = N.le-max_left a.s b.s;
  den = lcm_left a.den b.den;
  fac = lcm_left a.fac b.fac;
  num = item_parts a.num a.den (lcm a.den b.den) _ (lcm_left a.den b.den) (le_left (a.num * (lcm a.den b.den / a.den)) (b.num * (lcm a.den b.den / b.den)));
}

pub plus_second : (a b : Weight) → IsSound a → IsSound b → Bounds (plus_step a b) b
plus_second a b p q = record {
  cost = le_right a.cost b.cost;
  deg = N.le-max_right a.deg b.deg;
  g = N.le-max_right a.g b.g;
  f = N.le-max_right a.f b.f;
  rmin = N.min-le_right a.rmin b.rmin;
  rmax = N.le-max_right a.rmax b.rmax;
  s = N.le-max_right a.s b.s;
  den = lcm_right a.den b.den;
  fac = lcm_right a.fac b.fac;
  num = item_parts b.num b.den (lcm a.den b.den) _ (lcm_right a.den b.den) (le_right (a.num * (lcm a.den b.den / a.den)) (b.num * (lcm a.den b.den / b.den)));
}

-- ---- brackets
same_lcm : (a b c : ℕ) → 1 ≤ a → 1 ≤ b → lcm a (lcm b c) ∣ lcm (lcm a b) c
same_lcm a b c p q =
    lcm_least a (lcm b c) _ p (dvd_trans a (lcm_left a b) (lcm_left (lcm a b) c))
    (lcm_least b c _ q (dvd_trans b (lcm_right a b) (lcm_left (lcm a b) c)) (lcm_right (lcm a b) c))

lcm_same : (a b c : ℕ) → 1 ≤ a → 1 ≤ b → 1 ≤ c → lcm (lcm a b) c ∣ lcm a (lcm b c)
lcm_same a b c p q r =
    lcm_least (lcm a b) c _ (lcm_positive a b p q)
    (lcm_least a b _ p (lcm_left a (lcm b c)) (dvd_trans b (lcm_left b c) (lcm_right a (lcm b c))))
    (dvd_trans c (lcm_right b c) (lcm_right a (lcm b c)))

-- how often d goes into w, by way of l
through : (d l w : ℕ) → 1 ≤ d → d ∣ l → l ∣ w → (l / d) * (w / l) ≡ w / d
through d l w p h k =
    eq_of_mul-eq-mul_left d p ((l / d) * (w / l)) (w / d)
    (sym (N.mul_assoc d (l / d) (w / l)) ∙ ap (λ n. n * (w / l)) (sym (times_of d l h)) ∙ sym (times_of l w k) ∙ times_of d w (dvd_trans d h k))

spread_left : (x y z p q r s : ℕ) → (x * p + y * q) * r + z * s ≡ x * (p * r) + y * (q * r) + z * s
spread_left x y z p q r s = omega arith

spread_right : (x y z p q r s : ℕ) → x * s + (y * p + z * q) * r ≡ x * s + y * (p * r) + z * (q * r)
spread_right x y z p q r s = omega arith

pub plus_brackets : (a b c : Weight) → IsSound a → IsSound b → IsSound c → Bounds (plus_step (plus_step a b) c) (plus_step a (plus_step b c))
plus_brackets a b c p q r = record {
  cost = omega arith;
  deg = omega arith;
  g = omega arith;
  f = omega arith;
  rmin = omega arith;
  rmax = omega arith;
  s = omega arith;
  den = same_lcm a.den b.den c.den p.den q.den;
  fac = same_lcm a.fac b.fac c.fac p.fac q.fac;
  num = N.le_of_eq (ap₂ ◌*◌ (sym same) (sym equal));
}
  where
    l : ℕ
    l = lcm a.den b.den

    m : ℕ
    m = lcm b.den c.den

    w : ℕ
    w = lcm l c.den

    e : ℕ
    e = lcm a.den m

    equal : e ≡ w
    equal = dvd_antisymm (same_lcm a.den b.den c.den p.den q.den) (lcm_same a.den b.den c.den p.den q.den r.den)

    left_num : (a.num * (l / a.den) + b.num * (l / b.den)) * (w / l) + c.num * (w / c.den) ≡ a.num * (w / a.den) + b.num * (w / b.den) + c.num * (w / c.den)
    left_num =
        spread_left a.num b.num c.num (l / a.den) (l / b.den) (w / l) (w / c.den)
        ∙ ap₂ (λ x y. a.num * x + b.num * y + c.num * (w / c.den)) (through a.den l w p.den (lcm_left a.den b.den) (lcm_left l c.den)) (through b.den l w q.den (lcm_right a.den b.den) (lcm_left l c.den))

    right_num : a.num * (e / a.den) + (b.num * (m / b.den) + c.num * (m / c.den)) * (e / m) ≡ a.num * (e / a.den) + b.num * (e / b.den) + c.num * (e / c.den)
    right_num =
        spread_right a.num b.num c.num (m / b.den) (m / c.den) (e / m) (e / a.den)
        ∙ ap₂ (λ x y. a.num * (e / a.den) + b.num * x + c.num * y) (through b.den m e q.den (lcm_left b.den c.den) (lcm_right a.den m)) (through c.den m e r.den (lcm_right b.den c.den) (lcm_right a.den m))

    same : (a.num * (l / a.den) + b.num * (l / b.den)) * (w / l) + c.num * (w / c.den) ≡ a.num * (e / a.den) + (b.num * (m / b.den) + c.num * (m / c.den)) * (e / m)
    same = left_num ∙ ap (λ n. a.num * (n / a.den) + b.num * (n / b.den) + c.num * (n / c.den)) (sym equal) ∙ sym right_num

-- ---- products of sums
-- u and p are how often the denominators w * a and a go into theirs
same_half : (x u w a p l m : ℕ) → l ≡ a * p → m ≡ w * a * u → x * u * (w * l) ≡ x * p * m
same_half x u w a p l m e f = ap (λ n. x * u * (w * n)) e ∙ turned ∙ ap (λ n. x * p * n) (sym f)
  where
    turned : x * u * (w * (a * p)) ≡ x * p * (w * a * u)
    turned = omega arith

spread_product : (x y u v n : ℕ) → (x * u + y * v) * n ≡ x * u * n + y * v * n
spread_product x y u v n = omega arith

factored : (w a b p q m : ℕ) → w * a * p * m + w * b * q * m ≡ w * (a * p + b * q) * m
factored w a b p q m = omega arith

-- a common multiple of the products divides the product of the least one
product_lcm : (w a b : ℕ) → 1 ≤ w → 1 ≤ a → lcm (w * a) (w * b) ∣ w * lcm a b
product_lcm w a b p q =
    lcm_least (w * a) (w * b) _ (N.mul-pos p q) (N.mul-dvd-mul w a (N.dvd_refl w) (lcm_left a b)) (N.mul-dvd-mul w b (N.dvd_refl w) (lcm_right a b))

pub times_plus : (w a b : Weight) → IsSound w → IsSound a → IsSound b → Bounds (times_step w (plus_step a b)) (plus_step (times_step w a) (times_step w b))
times_plus w a b o p q = record {
  cost = N.le_of_eq (sym (N.mul-add w.cost a.cost b.cost));
  deg = omega arith;
  g = omega arith;
  f = omega arith;
  rmin = omega arith;
  rmax = omega arith;
  s = N.max-le (N.mul-le-mul (N.le_refl w.s) (N.le-max_left a.s b.s)) (N.mul-le-mul (N.le_refl w.s) (N.le-max_right a.s b.s));
  den = product_lcm w.den a.den b.den o.den p.den;
  fac = product_lcm w.fac a.fac b.fac o.fac p.fac;
  num = N.le_of_eq (spread_product (w.num * a.num) (w.num * b.num) (m / (w.den * a.den)) (m / (w.den * b.den)) (w.den * l)
      ∙ ap₂ ◌+◌ (half a.num a.den (lcm_left a.den b.den) (lcm_left (w.den * a.den) (w.den * b.den))) (half b.num b.den (lcm_right a.den b.den) (lcm_right (w.den * a.den) (w.den * b.den)))
      ∙ factored w.num a.num b.num (l / a.den) (l / b.den) m);
}
  where
    l : ℕ
    l = lcm a.den b.den

    m : ℕ
    m = lcm (w.den * a.den) (w.den * b.den)

    half : (n d : ℕ) → d ∣ l → w.den * d ∣ m → w.num * n * (m / (w.den * d)) * (w.den * l) ≡ w.num * n * (l / d) * m
    half n d h k = same_half (w.num * n) (m / (w.den * d)) w.den d (l / d) l m (times_of d l h) (times_of (w.den * d) m k)
