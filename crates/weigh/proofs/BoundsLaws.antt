-- Bounds are ordered, and each step keeps them
use Rattle.std.proofs.Common.{◌≡◌, ℕ, ◌+◌, ◌*◌, ◌/◌, ◌<◌, ◌≤◌, max, ◌⊎◌, inl, inr, sym, ◌∙◌, ap, subst, subst₂, arith}
use Prim.Native.Nat.{◌∣◌}
use native.Mathlib.Nat as N
use Rattle.std.proofs.lemmas.Bool.{cases_lt}
use Rattle.monos.specs.declared.weight.Weight.{Weight}
use Rattle.weigh.specs.Bounds.{Bounds, IsSound}
use Rattle.weigh.specs.Steps.{lcm, times_step, both_step, join_step, plus_step, index_step, space_step, linear_step, label_step, part_step}
use Rattle.weigh.proofs.LcmLaws.{times_of, lcm_left, lcm_right, lcm_least}

-- ---- order
pub bounds_refl : (w : Weight) → Bounds w w
bounds_refl w = record {
  cost = N.le_refl w.cost;
  deg = N.le_refl w.deg;
  g = N.le_refl w.g;
  f = N.le_refl w.f;
  rmin = N.le_refl w.rmin;
  rmax = N.le_refl w.rmax;
  s = N.le_refl w.s;
  den = N.dvd_refl w.den;
  fac = N.dvd_refl w.fac;
  num = N.le_refl (w.num * w.den);
}

between : (en ed vn vd wn wd : ℕ) → 1 ≤ vd → en * vd ≤ vn * ed → vn * wd ≤ wn * vd → en * wd ≤ wn * ed
between en ed vn vd wn wd p h k =
    N.le_of_mul-le-mul_right (through (N.mul-le-mul_right wd h) (N.mul-le-mul_right ed k)) p
  where
    through : en * vd * wd ≤ vn * ed * wd → vn * wd * ed ≤ wn * vd * ed → en * wd * vd ≤ wn * ed * vd
    through a b = omega (arith, a, b)

pub bounds_trans : (w v e : Weight) → 1 ≤ v.den → Bounds w v → Bounds v e → Bounds w e
bounds_trans w v e p h k = record {
  cost = N.le_trans k.cost h.cost;
  deg = N.le_trans k.deg h.deg;
  g = N.le_trans k.g h.g;
  f = N.le_trans k.f h.f;
  rmin = N.le_trans h.rmin k.rmin;
  rmax = N.le_trans k.rmax h.rmax;
  s = N.le_trans k.s h.s;
  den = N.dvd_trans e.den k.den h.den;
  fac = N.dvd_trans e.fac k.fac h.fac;
  num = between e.num e.den v.num v.den w.num w.den p k.num h.num;
}

-- ---- products
product_parts : (en ed wn wd dn dd vn vd : ℕ) → en * wd ≤ wn * ed → dn * vd ≤ vn * dd → en * dn * (wd * vd) ≤ wn * vn * (ed * dd)
product_parts en ed wn wd dn dd vn vd h k = through (N.mul-le-mul h k)
  where
    through : en * wd * (dn * vd) ≤ wn * ed * (vn * dd) → en * dn * (wd * vd) ≤ wn * vn * (ed * dd)
    through a = omega (arith, a)

pub times_bounds : (w e v d : Weight) → Bounds w e → Bounds v d → Bounds (times_step w v) (times_step e d)
times_bounds w e v d h k = record {
  cost = N.mul-le-mul h.cost k.cost;
  deg = N.add-le-add h.deg k.deg;
  g = N.add-le-add h.g k.g;
  f = N.add-le-add h.f k.f;
  rmin = N.add-le-add h.rmin k.rmin;
  rmax = N.add-le-add h.rmax k.rmax;
  s = N.mul-le-mul h.s k.s;
  den = N.mul-dvd-mul e.den d.den h.den k.den;
  fac = N.mul-dvd-mul e.fac d.fac h.fac k.fac;
  num = product_parts e.num e.den w.num w.den d.num d.den v.num v.den h.num k.num;
}

-- ---- sums and lists: numbers are put together in step with their order, and multiples go in
pub record IsEven (put : ℕ → ℕ → ℕ) : Type 0 where
  pub ordered : (a b c d : ℕ) → a ≤ b → c ≤ d → put a c ≤ put b d
  pub scaled : (m n k : ℕ) → put m n * k ≡ put (m * k) (n * k)

pub sum_even : IsEven (λ m n. m + n)
sum_even = record { ordered = λ a b c d h k. N.add-le-add h k; scaled = λ m n k. N.add-mul m n k }

max_scaled : (m n k : ℕ) → max m n * k ≡ max (m * k) (n * k)
max_scaled m n k = at (cases_lt m n)
  where
    at : (m < n) ⊎ (n ≤ m) → max m n * k ≡ max (m * k) (n * k)
    at (inl h) = let c : m ≤ n = omega (arith, h) in ap (λ x. x * k) (N.max-eq_right c) ∙ sym (N.max-eq_right (N.mul-le-mul_right k c))
    at (inr h) = ap (λ x. x * k) (N.max-eq_left h) ∙ sym (N.max-eq_left (N.mul-le-mul_right k h))

pub max_even : IsEven max
max_even = record { ordered = λ a b c d h k. omega (arith, h, k); scaled = max_scaled }

-- a numerator over the common denominator l of the lesser weights, and over L of the greater ones
scaled_parts : (en ed wn wd l L : ℕ) → ed ∣ l → wd ∣ L → en * wd ≤ wn * ed → en * (l / ed) * L ≤ wn * (L / wd) * l
scaled_parts en ed wn wd l L a b h = at (l / ed) (L / wd) (times_of ed l a) (times_of wd L b)
  where
    at : (p q : ℕ) → l ≡ ed * p → L ≡ wd * q → en * p * L ≤ wn * q * l
    at p q x y = subst₂ (λ m n. en * p * n ≤ wn * q * m) (sym x) (sym y) (through (N.mul-le-mul_right (p * q) h))
      where
        through : en * wd * (p * q) ≤ wn * ed * (p * q) → en * p * (wd * q) ≤ wn * q * (ed * p)
        through k = omega (arith, k)

lcm_ordered : (a b c d : ℕ) → 1 ≤ a → a ∣ b → c ∣ d → lcm a c ∣ lcm b d
lcm_ordered a b c d p h k = lcm_least a c (lcm b d) p (N.dvd_trans a h (lcm_left b d)) (N.dvd_trans c k (lcm_right b d))

pub both_bounds : (put : ℕ → ℕ → ℕ) → IsEven put → (w e v d : Weight) → IsSound e → Bounds w e → Bounds v d → Bounds (both_step put w v) (both_step put e d)
both_bounds put P w e v d p h k =
    let l : ℕ = lcm e.den d.den in
    let L : ℕ = lcm w.den v.den in
    record {
      cost = P.ordered e.cost w.cost d.cost v.cost h.cost k.cost;
      deg = (let a = h.deg in let b = k.deg in omega (arith, a, b));
      g = (let a = h.g in let b = k.g in omega (arith, a, b));
      f = (let a = h.f in let b = k.f in omega (arith, a, b));
      rmin = (let a = h.rmin in let b = k.rmin in omega (arith, a, b));
      rmax = (let a = h.rmax in let b = k.rmax in omega (arith, a, b));
      s = (let a = h.s in let b = k.s in omega (arith, a, b));
      den = lcm_ordered e.den w.den d.den v.den p.den h.den k.den;
      fac = lcm_ordered e.fac w.fac d.fac v.fac p.fac h.fac k.fac;
      num = subst₂ (λ m n. m ≤ n) (sym (P.scaled (e.num * (l / e.den)) (d.num * (l / d.den)) L)) (sym (P.scaled (w.num * (L / w.den)) (v.num * (L / v.den)) l))
          (P.ordered _ _ _ _
          (scaled_parts e.num e.den w.num w.den l L (lcm_left e.den d.den) (lcm_left w.den v.den) h.num)
          (scaled_parts d.num d.den v.num v.den l L (lcm_right e.den d.den) (lcm_right w.den v.den) k.num));
    }

pub join_bounds : (w e v d : Weight) → IsSound e → Bounds w e → Bounds v d → Bounds (join_step w v) (join_step e d)
join_bounds = both_bounds max max_even

pub plus_bounds : (w e v d : Weight) → IsSound e → Bounds w e → Bounds v d → Bounds (plus_step w v) (plus_step e d)
plus_bounds = both_bounds (λ m n. m + n) sum_even

-- ---- one operand
-- a step that changes the cost, the labels, the numerator and the least order alone
pub changed_bounds : (w e : Weight) (wc ec wg eg wn en wr er : ℕ) → Bounds w e → ec ≤ wc → eg ≤ wg → en * w.den ≤ wn * e.den → wr ≤ er
    → Bounds (record w { cost = wc; g = wg; num = wn; rmin = wr }) (record e { cost = ec; g = eg; num = en; rmin = er })
changed_bounds w e wc ec wg eg wn en wr er h c g n r = record {
  cost = c;
  deg = h.deg;
  g = g;
  f = h.f;
  rmin = r;
  rmax = h.rmax;
  s = h.s;
  den = h.den;
  fac = h.fac;
  num = n;
}

pub index_bounds : (n m : ℕ) → m ≤ n → (w e : Weight) → Bounds w e → Bounds (index_step n w) (index_step m e)
index_bounds n m p w e h =
    changed_bounds w e (w.cost * max n 1) (e.cost * max m 1) w.g e.g w.num e.num w.rmin e.rmin h (N.mul-le-mul h.cost (omega (arith, p))) h.g h.num h.rmin

pub space_bounds : (n m : ℕ) → m ≤ n → (w e : Weight) → Bounds w e → Bounds (space_step n w) (space_step m e)
space_bounds n m p w e h = record {
  cost = N.mul-le-mul (N.mul-le-mul h.cost h.g) p;
  deg = (let a = h.deg in omega (arith, a));
  g = h.g;
  f = h.f;
  rmin = N.add-le-add h.rmin (N.le_refl 1);
  rmax = N.add-le-add h.rmax (N.le_refl 1);
  s = h.s;
  den = h.den;
  fac = h.fac;
  num = (let a = h.num in omega (arith, a));
}

grown : (en ed eg wn wd wg : ℕ) → eg ≤ wg → en * wd ≤ wn * ed → en * eg * wd ≤ wn * wg * ed
grown en ed eg wn wd wg p h = through (N.mul-le-mul h p)
  where
    through : en * wd * eg ≤ wn * ed * wg → en * eg * wd ≤ wn * wg * ed
    through a = omega (arith, a)

pub linear_bounds : (w e : Weight) → Bounds w e → Bounds (linear_step w) (linear_step e)
linear_bounds w e h =
    changed_bounds w e (w.cost * w.g) (e.cost * e.g) w.g e.g (w.num * w.g) (e.num * e.g) 0 0 h
    (N.mul-le-mul h.cost h.g) h.g (grown e.num e.den e.g w.num w.den w.g h.g h.num) (N.le_refl 0)

pub label_bounds : (n m : ℕ) → m ≤ n → (w e : Weight) → Bounds w e → Bounds (label_step n w) (label_step m e)
label_bounds n m p w e h =
    changed_bounds w e w.cost e.cost (w.g + max n 1) (e.g + max m 1) w.num e.num w.rmin e.rmin h
    h.cost (let a = h.g in omega (arith, a, p)) h.num h.rmin

pub part_bounds : (w e : Weight) → Bounds w e → Bounds (part_step w) (part_step e)
part_bounds w e h = changed_bounds w e w.cost e.cost w.g e.g w.num e.num 0 0 h h.cost h.g h.num (N.le_refl 0)

-- ---- a list bounds each item
item_parts : (n d l x : ℕ) → d ∣ l → n * (l / d) ≤ x → n * l ≤ x * d
item_parts n d l x a h = at (l / d) (times_of d l a) h
  where
    at : (p : ℕ) → l ≡ d * p → n * p ≤ x → n * l ≤ x * d
    at p e k = subst (λ m. n * m ≤ x * d) (sym e) (through (N.mul-le-mul_right d k))
      where
        through : n * p * d ≤ x * d → n * (d * p) ≤ x * d
        through q = omega (arith, q)

pub join_first : (w v : Weight) → Bounds (join_step w v) w
join_first w v = record {
  cost = N.le-max_left w.cost v.cost;
  deg = N.le-max_left w.deg v.deg;
  g = N.le-max_left w.g v.g;
  f = N.le-max_left w.f v.f;
  rmin = N.min-le_left w.rmin v.rmin;
  rmax = N.le-max_left w.rmax v.rmax;
  s = N.le-max_left w.s v.s;
  den = lcm_left w.den v.den;
  fac = lcm_left w.fac v.fac;
  num = item_parts w.num w.den (lcm w.den v.den) _ (lcm_left w.den v.den) (N.le-max_left (w.num * (lcm w.den v.den / w.den)) (v.num * (lcm w.den v.den / v.den)));
}

pub join_second : (w v : Weight) → Bounds (join_step w v) v
join_second w v = record {
  cost = N.le-max_right w.cost v.cost;
  deg = N.le-max_right w.deg v.deg;
  g = N.le-max_right w.g v.g;
  f = N.le-max_right w.f v.f;
  rmin = N.min-le_right w.rmin v.rmin;
  rmax = N.le-max_right w.rmax v.rmax;
  s = N.le-max_right w.s v.s;
  den = lcm_right w.den v.den;
  fac = lcm_right w.fac v.fac;
  num = item_parts v.num v.den (lcm w.den v.den) _ (lcm_right w.den v.den) (N.le-max_right (w.num * (lcm w.den v.den / w.den)) (v.num * (lcm w.den v.den / v.den)));
}

-- ---- and is the least that does
pub join_least : (w x y : Weight) → IsSound w → IsSound x → Bounds w x → Bounds w y → Bounds w (join_step x y)
join_least w x y p q h k =
    let l : ℕ = lcm x.den y.den in
    record {
      cost = N.max-le h.cost k.cost;
      deg = N.max-le h.deg k.deg;
      g = N.max-le h.g k.g;
      f = N.max-le h.f k.f;
      rmin = (let a = h.rmin in let b = k.rmin in omega (arith, a, b));
      rmax = N.max-le h.rmax k.rmax;
      s = N.max-le h.s k.s;
      den = lcm_least x.den y.den w.den q.den h.den k.den;
      fac = lcm_least x.fac y.fac w.fac q.fac h.fac k.fac;
      num = subst (λ v. v ≤ w.num * l) (sym (max_scaled (x.num * (l / x.den)) (y.num * (l / y.den)) w.den))
          (N.max-le
          (below x.num x.den l (lcm_left x.den y.den) h.num)
          (below y.num y.den l (lcm_right x.den y.den) k.num));
    }
  where
    below : (n d l : ℕ) → d ∣ l → n * w.den ≤ w.num * d → n * (l / d) * w.den ≤ w.num * l
    below n d l a i = at (l / d) (times_of d l a)
      where
        at : (p : ℕ) → l ≡ d * p → n * p * w.den ≤ w.num * l
        at p e = subst (λ m. n * p * w.den ≤ w.num * m) (sym e) (through (N.mul-le-mul_right p i))
          where
            through : n * w.den * p ≤ w.num * d * p → n * p * w.den ≤ w.num * (d * p)
            through j = omega (arith, j)
