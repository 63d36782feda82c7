-- A linear coefficient goes through every step: what bounds the step's, bounds the step of those
use Rattle.std.proofs.Common.{◌≡◌, ℕ, ◌+◌, ◌-◌, ◌*◌, ◌/◌, ◌≤◌, max, sym, ◌∙◌, subst, subst₂, arith}
use Prim.Native.Nat.{◌∣◌}
use native.Mathlib.Nat as N
use Rattle.monos.specs.declared.weight.Weight.{Weight}
use Rattle.weigh.specs.Bounds.{Bounds, IsSound}
use Rattle.weigh.specs.Steps.{lcm, one_step, times_step, both_step, plus_step, index_step, space_step, linear_step, label_step}
use Rattle.weigh.proofs.LcmLaws.{times_of, lcm_left, lcm_least}
use Rattle.weigh.proofs.BoundsLaws.{IsEven, bounds_refl, changed_bounds}

-- ---- the number 1, under some labels
-- a product of n Kronecker symbols
abbrev pub units : ℕ → Weight
units n = record one_step { g = n }

pub units_bounds : (n m : ℕ) → m ≤ n → Bounds (units n) (units m)
units_bounds n m p =
    changed_bounds one_step one_step 1 1 n m 1 1 0 0 (bounds_refl one_step) (N.le_refl 1) p (N.le_refl 1) (N.le_refl 0)

pub linear_one_bounds : (a : Weight) → IsSound a → Bounds (linear_step a) one_step
linear_one_bounds a p = record {
  cost = N.mul-pos p.cost p.g;
  deg = omega arith;
  g = p.g;
  f = omega arith;
  rmin = omega arith;
  rmax = omega arith;
  s = p.s;
  den = N.one-dvd a.den;
  fac = N.one-dvd a.fac;
  num = parts (N.le_trans p.parts (N.le-mul_of_pos_right a.num p.g));
}
  where
    parts : a.den ≤ a.num * a.g → 1 * a.den ≤ a.num * a.g * 1
    parts h = omega (arith, h)

-- ---- sums and lists
below_max_left : (x a b : ℕ) → x * a ≤ x * max a b
below_max_left x a b = N.mul-le-mul (N.le_refl x) (N.le-max_left a b)

below_max_right : (x a b : ℕ) → x * b ≤ x * max a b
below_max_right x a b = N.mul-le-mul (N.le_refl x) (N.le-max_right a b)

grown_parts : (x g p : ℕ) → x * g * p ≡ x * p * g
grown_parts x g p = omega arith

spread : (put : ℕ → ℕ → ℕ) → IsEven put → (x y a b : ℕ) → put (x * a) (y * b) ≤ put x y * max a b
spread put P x y a b =
    subst (λ n. put (x * a) (y * b) ≤ n) (sym (P.scaled x y (max a b))) (P.ordered _ _ _ _ (below_max_left x a b) (below_max_right y a b))

pub linear_both : (put : ℕ → ℕ → ℕ) → IsEven put → (a b : Weight) → Bounds (linear_step (both_step put a b)) (both_step put (linear_step a) (linear_step b))
linear_both put P a b =
    let l : ℕ = lcm a.den b.den in
    record {
      cost = spread put P a.cost b.cost a.g b.g;
      deg = N.le_refl (max a.deg b.deg);
      g = N.le_refl (max a.g b.g);
      f = N.le_refl (max a.f b.f);
      rmin = omega arith;
      rmax = N.le_refl (max a.rmax b.rmax);
      s = N.le_refl (max a.s b.s);
      den = N.dvd_refl l;
      fac = N.dvd_refl (lcm a.fac b.fac);
      num = N.mul-le-mul_right l
          (subst₂ (λ x y. put x y ≤ put (a.num * (l / a.den)) (b.num * (l / b.den)) * max a.g b.g)
          (sym (grown_parts a.num a.g (l / a.den))) (sym (grown_parts b.num b.g (l / b.den)))
          (spread put P (a.num * (l / a.den)) (b.num * (l / b.den)) a.g b.g));
    }

-- ---- products
same_den : (d : ℕ) → 1 ≤ d → lcm d d ∣ d
same_den d p = lcm_least d d d p (N.dvd_refl d) (N.dvd_refl d)

lcm_self : (d : ℕ) → 1 ≤ d → lcm d d ≡ d
lcm_self d p = N.dvd_antisymm (same_den d p) (lcm_left d d)

pub linear_times : (a b : Weight) → IsSound a → IsSound b → Bounds (linear_step (times_step a b)) (plus_step (times_step (linear_step a) b) (times_step a (linear_step b)))
linear_times a b p q =
    let D : ℕ = a.den * b.den in
    record {
      cost = omega arith;
      deg = omega arith;
      g = omega arith;
      f = omega arith;
      rmin = omega arith;
      rmax = omega arith;
      s = omega arith;
      den = same_den D (N.mul-pos p.den q.den);
      fac = same_den (a.fac * b.fac) (N.mul-pos p.fac q.fac);
      num = parts D (N.mul-pos p.den q.den);
    }
  where
    parts : (D : ℕ) → 1 ≤ D → (a.num * a.g * b.num * (lcm D D / D) + a.num * (b.num * b.g) * (lcm D D / D)) * D ≤ a.num * b.num * (a.g + b.g) * lcm D D
    parts D h = subst (λ l. (a.num * a.g * b.num * (l / D) + a.num * (b.num * b.g) * (l / D)) * D ≤ a.num * b.num * (a.g + b.g) * l) (sym (lcm_self D h))
        (subst (λ q. (a.num * a.g * b.num * q + a.num * (b.num * b.g) * q) * D ≤ a.num * b.num * (a.g + b.g) * D) (sym (N.div_self h)) (omega arith))

-- ---- labels
pub linear_label : (n : ℕ) (a : Weight) → IsSound a → Bounds (linear_step (label_step n a)) (plus_step (linear_step a) (units (n + 1)))
linear_label n a p =
    let N1 : ℕ = max n 1 in
    record {
      cost = costs (N.mul-le-mul p.cost (N.le-max_right n 1));
      deg = omega arith;
      g = (let h = p.g in omega (arith, h));
      f = omega arith;
      rmin = omega arith;
      rmax = omega arith;
      s = (let h = p.s in omega (arith, h));
      den = lcm_least a.den 1 a.den p.den (N.dvd_refl a.den) (N.one-dvd a.den);
      fac = lcm_least a.fac 1 a.fac p.fac (N.dvd_refl a.fac) (N.one-dvd a.fac);
      num = parts (lcm a.den 1 / a.den) (times_of a.den (lcm a.den 1) (lcm_left a.den 1));
    }
  where
    costs : 1 * 1 ≤ a.cost * max n 1 → a.cost * a.g + 1 ≤ a.cost * (a.g + max n 1)
    costs h = omega (arith, h)

    parts : (p : ℕ) → lcm a.den 1 ≡ a.den * p → (a.num * a.g * p + 1 * (lcm a.den 1 / 1)) * a.den ≤ a.num * (a.g + max n 1) * lcm a.den 1
    parts q e = subst₂ (λ l m. (a.num * a.g * q + 1 * m) * a.den ≤ a.num * (a.g + max n 1) * l) (sym e) (sym (N.div-one (lcm a.den 1) ∙ e))
        (through (N.mul-le-mul_right (a.den * q) (N.mul-le-mul p.parts (N.le-max_right n 1))))
      where
        through : a.den * 1 * (a.den * q) ≤ a.num * max n 1 * (a.den * q) → (a.num * a.g * q + 1 * (a.den * q)) * a.den ≤ a.num * (a.g + max n 1) * (a.den * q)
        through h = omega (arith, h)

-- ---- index sums and derivatives
turned : (c n g : ℕ) → c * g * n ≤ c * n * g
turned c n g = omega arith

pub linear_index : (n : ℕ) (a : Weight) → Bounds (linear_step (index_step n a)) (index_step n (linear_step a))
linear_index n a =
    changed_bounds a a (a.cost * max n 1 * a.g) (a.cost * a.g * max n 1) a.g a.g (a.num * a.g) (a.num * a.g) 0 0 (bounds_refl a)
    (turned a.cost (max n 1) a.g) (N.le_refl a.g) (N.le_refl (a.num * a.g * a.den)) (N.le_refl 0)

turned_twice : (c d g : ℕ) → c * g * g * d ≤ c * g * d * g
turned_twice c d g = omega arith

pub linear_space : (d : ℕ) (a : Weight) → Bounds (linear_step (space_step d a)) (space_step d (linear_step a))
linear_space d a = record {
  cost = turned_twice a.cost d a.g;
  deg = N.le_refl (a.deg - 1);
  g = N.le_refl a.g;
  f = N.le_refl a.f;
  rmin = omega arith;
  rmax = N.le_refl (a.rmax + 1);
  s = N.le_refl a.s;
  den = N.dvd_refl a.den;
  fac = N.dvd_refl a.fac;
  num = N.mul-le-mul_right a.den (turned a.num 3 a.g);
}

-- ---- the step bounds its operand
pub label_more : (n : ℕ) (a : Weight) → Bounds (label_step n a) a
label_more n a =
    changed_bounds a a a.cost a.cost (a.g + max n 1) a.g a.num a.num a.rmin a.rmin (bounds_refl a)
    (N.le_refl a.cost) (omega arith) (N.le_refl (a.num * a.den)) (N.le_refl a.rmin)

pub linear_more : (a : Weight) → IsSound a → Bounds (linear_step a) a
linear_more a p =
    changed_bounds a a (a.cost * a.g) a.cost a.g a.g (a.num * a.g) a.num 0 a.rmin (bounds_refl a)
    (N.le-mul_of_pos_right a.cost p.g) (N.le_refl a.g) (N.mul-le-mul_right a.den (N.le-mul_of_pos_right a.num p.g)) (omega arith)
