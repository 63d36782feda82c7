-- The steps by which weights are put together
use Rattle.std.specs.Prelude.{ℕ, ◌+◌, ◌-◌, ◌*◌, ◌/◌, max, min}
use Rattle.algebra.specs.Gcd.{gcd}
use Rattle.monos.specs.declared.weight.Weight.{Weight}

abbrev pub lcm : ℕ → ℕ → ℕ
lcm a b = a / gcd a b * b

-- each number through `cap`: itself, or at most a limit
abbrev pub capped : (ℕ → ℕ) → Weight → Weight
capped cap w = record {
  cost = cap w.cost;
  deg = cap w.deg;
  g = cap w.g;
  f = cap w.f;
  rmin = cap w.rmin;
  rmax = cap w.rmax;
  num = cap w.num;
  den = cap w.den;
  fac = cap w.fac;
  s = cap w.s;
}

-- of the number n/m
abbrev pub number_step : ℕ → ℕ → Weight
number_step n m = record { cost = 1; deg = 0; g = 1; f = 0; rmin = 0; rmax = 0; num = max n m; den = m; fac = 1; s = 1 }

abbrev pub one_step : Weight
one_step = number_step 1 1

abbrev pub times_step : Weight → Weight → Weight
times_step a b = record {
  cost = a.cost * b.cost;
  deg = a.deg + b.deg;
  g = a.g + b.g;
  f = a.f + b.f;
  rmin = a.rmin + b.rmin;
  rmax = a.rmax + b.rmax;
  num = a.num * b.num;
  den = a.den * b.den;
  fac = a.fac * b.fac;
  s = a.s * b.s;
}

-- over the common denominator; costs and numerators are put together by `put`
abbrev pub both_step : (ℕ → ℕ → ℕ) → Weight → Weight → Weight
both_step put a b = record {
  cost = put a.cost b.cost;
  deg = max a.deg b.deg;
  g = max a.g b.g;
  f = max a.f b.f;
  rmin = min a.rmin b.rmin;
  rmax = max a.rmax b.rmax;
  num = put (a.num * (lcm a.den b.den / a.den)) (b.num * (lcm a.den b.den / b.den));
  den = lcm a.den b.den;
  fac = lcm a.fac b.fac;
  s = max a.s b.s;
}

-- either of two, and the sum of two
abbrev pub join_step : Weight → Weight → Weight
join_step = both_step max

abbrev pub plus_step : Weight → Weight → Weight
plus_step = both_step (λ m n. m + n)

-- the sum over n values of an index
abbrev pub index_step : ℕ → Weight → Weight
index_step n a = record a { cost = a.cost * max n 1 }

-- a derivative in d directions of space
abbrev pub space_step : ℕ → Weight → Weight
space_step d a = record a { cost = a.cost * a.g * d; deg = a.deg - 1; rmin = a.rmin + 1; rmax = a.rmax + 1; num = a.num * 3 }

-- a linear coefficient
abbrev pub linear_step : Weight → Weight
linear_step a = record a { cost = a.cost * a.g; num = a.num * a.g; rmin = 0 }

-- a label on a value with n components, or indices
abbrev pub label_step : ℕ → Weight → Weight
label_step n a = record a { g = a.g + max n 1 }

-- some of the monomials
abbrev pub part_step : Weight → Weight
part_step a = record a { rmin = 0 }
