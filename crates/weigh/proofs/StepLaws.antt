-- Each step, as one that exact and kept weights go through alike
use Rattle.std.proofs.Common.{ℕ, ◌+◌, ◌*◌, ◌/◌, ◌≤◌, max, ap, ap₂, subst, arith}
use native.Mathlib.Nat as N
use Rattle.monos.specs.declared.weight.Weight.{Weight}
use Rattle.weigh.specs.Steps.{lcm, times_step, both_step, join_step, plus_step, index_step, space_step, linear_step, label_step, part_step}
use Rattle.weigh.proofs.LcmLaws.{lcm_left, lcm_right, lcm_positive}
use Rattle.weigh.proofs.SoundLaws.{IsPut, max_put, sum_put, own_scaled, times_sound, both_sound, index_sound, space_sound, linear_sound, label_sound, part_sound}
use Rattle.weigh.proofs.AgreeLaws.{IsPositive, IsStep, IsPairStep}

times_left : (a b : ℕ) → 1 ≤ b → a ≤ a * b
times_left a b p = N.le-mul_of_pos_right a p

times_right : (a b : ℕ) → 1 ≤ a → b ≤ a * b
times_right a b p = subst (λ n. b ≤ n) (N.mul_comm b a) (N.le-mul_of_pos_right b p)

below_lcm_left : (a b : ℕ) → 1 ≤ a → 1 ≤ b → a ≤ lcm a b
below_lcm_left a b p q = N.le_of_dvd (lcm_positive a b p q) (lcm_left a b)

below_lcm_right : (a b : ℕ) → 1 ≤ a → 1 ≤ b → b ≤ lcm a b
below_lcm_right a b p q = N.le_of_dvd (lcm_positive a b p q) (lcm_right a b)

-- ---- two operands
pub times_pair : IsPairStep times_step
times_pair = record {
  sound = times_sound;
  low = λ a b p q. omega (arith, p, q);
  positive = λ a b p q. record {
    cost = N.mul-pos p.cost q.cost;
    g = (let h = p.g in omega (arith, h));
    num = N.mul-pos p.num q.num;
    den = N.mul-pos p.den q.den;
    fac = N.mul-pos p.fac q.fac;
    s = N.mul-pos p.s q.s;
  };
  first = λ a b p q. record {
    cost = times_left a.cost b.cost q.cost;
    g = omega arith;
    fac = times_left a.fac b.fac q.fac;
    num = times_left a.num b.num q.num;
    s = times_left a.s b.s q.s;
  };
  second = λ a b p q. record {
    cost = times_right a.cost b.cost p.cost;
    g = omega arith;
    fac = times_right a.fac b.fac p.fac;
    num = times_right a.num b.num p.num;
    s = times_right a.s b.s p.s;
  };
  same = λ a b c d h k. (ap₂ ◌*◌ h.0 k.0, ap₂ ◌+◌ h.1 k.1);
}

both_pair : (put : ℕ → ℕ → ℕ) → IsPut put → IsPairStep (both_step put)
both_pair put P = record {
  sound = both_sound put P;
  low = λ a b p q. omega (arith, p, q);
  positive = λ a b p q. record {
    cost = N.le_trans p.cost (P.first a.cost b.cost);
    g = (let h = p.g in omega (arith, h));
    num = N.le_trans p.num (N.le_trans (scaled_left a b p q) (P.first _ _));
    den = lcm_positive a.den b.den p.den q.den;
    fac = lcm_positive a.fac b.fac p.fac q.fac;
    s = (let h = p.s in omega (arith, h));
  };
  first = λ a b p q. record {
    cost = P.first a.cost b.cost;
    g = omega arith;
    fac = below_lcm_left a.fac b.fac p.fac q.fac;
    num = N.le_trans (scaled_left a b p q) (P.first _ _);
    s = omega arith;
  };
  second = λ a b p q. record {
    cost = P.second a.cost b.cost;
    g = omega arith;
    fac = below_lcm_right a.fac b.fac p.fac q.fac;
    num = N.le_trans (scaled_right a b p q) (P.second _ _);
    s = omega arith;
  };
  same = λ a b c d h k. (ap₂ put h.0 k.0, ap₂ max h.1 k.1);
}
  where
    scaled_left : (a b : Weight) → IsPositive a → IsPositive b → a.num ≤ a.num * (lcm a.den b.den / a.den)
    scaled_left a b p q = own_scaled a.num a.den (lcm a.den b.den) (lcm_positive a.den b.den p.den q.den) (lcm_left a.den b.den)

    scaled_right : (a b : Weight) → IsPositive a → IsPositive b → b.num ≤ b.num * (lcm a.den b.den / b.den)
    scaled_right a b p q = own_scaled b.num b.den (lcm a.den b.den) (lcm_positive a.den b.den p.den q.den) (lcm_right a.den b.den)

pub join_pair : IsPairStep join_step
join_pair = both_pair max max_put

pub plus_pair : IsPairStep plus_step
plus_pair = both_pair (λ m n. m + n) sum_put

-- ---- one operand
pub index_one : (n : ℕ) → IsStep (index_step n)
index_one n = record {
  sound = index_sound n;
  low = λ a p q. q;
  positive = λ a p. record { cost = N.mul-pos p.cost (omega arith); g = p.g; num = p.num; den = p.den; fac = p.fac; s = p.s };
  above = λ a p. record { cost = times_left a.cost (max n 1) (omega arith); g = omega arith; fac = omega arith; num = omega arith; s = omega arith };
  same = λ a b h. (ap (λ c. c * max n 1) h.0, h.1);
}

pub space_one : (d : ℕ) → 1 ≤ d → IsStep (space_step d)
space_one d h = record {
  sound = space_sound d h;
  low = λ a p q. omega (arith, q);
  positive = λ a p. record {
    cost = N.mul-pos (N.mul-pos p.cost p.g) h;
    g = p.g;
    num = N.mul-pos p.num (omega arith);
    den = p.den;
    fac = p.fac;
    s = p.s;
  };
  above = λ a p. record {
    cost = N.le_trans (times_left a.cost a.g p.g) (times_left (a.cost * a.g) d h);
    g = omega arith;
    fac = omega arith;
    num = omega arith;
    s = omega arith;
  };
  same = λ a b k. (ap₂ (λ c g. c * g * d) k.0 k.1, k.1);
}

pub linear_one : IsStep linear_step
linear_one = record {
  sound = linear_sound;
  low = λ a p q. q;
  positive = λ a p. record { cost = N.mul-pos p.cost p.g; g = p.g; num = N.mul-pos p.num p.g; den = p.den; fac = p.fac; s = p.s };
  above = λ a p. record { cost = times_left a.cost a.g p.g; g = omega arith; fac = omega arith; num = times_left a.num a.g p.g; s = omega arith };
  same = λ a b k. (ap₂ ◌*◌ k.0 k.1, k.1);
}

pub label_one : (n : ℕ) → IsStep (label_step n)
label_one n = record {
  sound = label_sound n;
  low = λ a p q. omega (arith, q);
  positive = λ a p. record { cost = p.cost; g = (let h = p.g in omega (arith, h)); num = p.num; den = p.den; fac = p.fac; s = p.s };
  above = λ a p. record { cost = omega arith; g = omega arith; fac = omega arith; num = omega arith; s = omega arith };
  same = λ a b k. (k.0, ap (λ g. g + max n 1) k.1);
}

pub part_one : IsStep part_step
part_one = record {
  sound = part_sound;
  low = λ a p q. q;
  positive = λ a p. record { cost = p.cost; g = p.g; num = p.num; den = p.den; fac = p.fac; s = p.s };
  above = λ a p. record { cost = omega arith; g = omega arith; fac = omega arith; num = omega arith; s = omega arith };
  same = λ a b k. k;
}
