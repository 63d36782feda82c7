-- The room of a cell
use Rattle.std.specs.Prelude.{ℕ, zero, suc, ◌-◌, ◌*◌, ◌^◌, max, List, [], ◌∷◌, ◌++◌, map, Option, None, Some}
use Rattle.std.specs.List.{flat_map}
use Rattle.algebra.specs.Fraction.{Fraction, add, negative}
use Rattle.algebra.specs.LowestTerms.{bottom}
use Rattle.calculus.specs.Simplex.{Simplex, along_axis, volume}
use Rattle.calculus.specs.Point.{Point}
use Rattle.spaces.specs.declared.parts.Parts.{Parts}
use Rattle.monos.specs.declared.layout.Layout.{Layout}
use Rattle.weigh.specs.Refusals.{lcd, size}
use Rattle.weigh.specs.Steps.{lcm}
use Rattle.weigh.specs.Numerators.{size_over}
use Rattle.refint.specs.Local.{numbers_below}
use Rattle.room.specs.declared.numbers.CellNumbers.{CellNumbers}
use Rattle.monos.specs.declared.weight.Weight.{Weight}

-- ---- the numbers of a cell, from its corners and coefficient values
abbrev pub common_bottom : List Fraction → ℕ
common_bottom [] = 1
common_bottom (x ∷ xs) = lcm (bottom x) (common_bottom xs)

-- the greatest absolute value of n times one of them, at least 1
abbrev pub greatest_top : ℕ → List Fraction → ℕ
greatest_top n [] = 1
greatest_top n (x ∷ xs) = max (size_over n x) (greatest_top n xs)

abbrev pub coordinates : ℕ → Simplex → List Fraction
coordinates d v = flat_map (λ p. map (λ i. along_axis i p) (numbers_below d)) v

abbrev pub differences_from : ℕ → Simplex → Point Fraction → List Fraction
differences_from d v p = flat_map (λ q. map (λ i. add (along_axis i p) (negative (along_axis i q))) (numbers_below d)) v

abbrev pub differences : ℕ → Simplex → List Fraction
differences d v = flat_map (differences_from d v) v

abbrev pub numbers_of : ℕ → Simplex → List Fraction → CellNumbers
numbers_of d v w = record {
  d = d;
  dd = common_bottom (coordinates d v);
  j = greatest_top (common_bottom (coordinates d v)) (differences d v);
  m = greatest_top (common_bottom (coordinates d v)) (coordinates d v);
  nw = greatest_top (common_bottom w) w;
  dw = common_bottom w;
}

-- the values that a kernel multiplies with: where there is a position, the cell's coordinates too
abbrev pub values_with : Option Parts → ℕ → Simplex → List Fraction → List Fraction
values_with None d v w = w
values_with (Some ps) d v w = w ++ coordinates d v

abbrev pub all_values : Layout → Simplex → List Fraction → List Fraction
all_values l v w = values_with l.position l.d v w

-- ---- the room
abbrev pub cofactor_at : ℕ → ℕ → ℕ
cofactor_at j zero = 1
cofactor_at j (suc zero) = 1
cofactor_at j (suc (suc zero)) = j
cofactor_at j (suc (suc (suc d))) = 2 * j * j

abbrev pub volume_at : ℕ → ℕ → ℕ
volume_at j zero = 1
volume_at j (suc zero) = j
volume_at j (suc (suc zero)) = 2 * j * j
volume_at j (suc (suc (suc d))) = 6 * j * j * j

abbrev pub cofactor_bound : CellNumbers → ℕ
cofactor_bound c = cofactor_at c.j c.d

abbrev pub volume_bound : CellNumbers → ℕ
volume_bound c = volume_at c.j c.d

abbrev pub depth : Weight → ℕ
depth w = max w.rmax 1

-- c^r * s^(e-r) * D^r
abbrev pub geometric : ℕ → ℕ → ℕ → ℕ → ℕ → ℕ
geometric c s d e r = c ^ r * s ^ (e - r) * d ^ r

abbrev pub geometry : Weight → CellNumbers → ℕ → ℕ
geometry w c r = geometric (cofactor_bound c) (volume_bound c) c.dd (depth w) r

-- the greatest value for r from rmin on, n more
abbrev pub greatest : (ℕ → ℕ) → ℕ → ℕ → ℕ
greatest f r zero = f r
greatest f r (suc n) = max (f r) (greatest f (suc r) n)

abbrev pub common : Weight → CellNumbers → ℕ
common w c = lcd c.d w * volume_bound c ^ (depth w - 1) * c.dd ^ c.d * c.dw ^ w.f

abbrev pub most : Weight → CellNumbers → ℕ
most w c = size c.d w * (c.nw * c.dw) ^ w.f * greatest (geometry w c) w.rmin (w.rmax - w.rmin)

-- what an item of the reference tensor over lcd is multiplied with, at most
abbrev pub scale : Weight → CellNumbers → ℕ
scale w c = (c.nw * c.dw) ^ w.f * greatest (geometry w c) w.rmin (w.rmax - w.rmin)

unfoldable pub room : Weight → CellNumbers → ℕ
room w c = 1024 * max (max (most w c) (common w c)) (max (volume_bound c * c.dd ^ c.d) c.m)

-- the same with the two ends alone, as it is computed
abbrev pub most_at_ends : Weight → CellNumbers → ℕ
most_at_ends w c = size c.d w * (c.nw * c.dw) ^ w.f * max (geometry w c w.rmin) (geometry w c w.rmax)

-- D^d times the volume factor, without its sign
abbrev pub whole_volume : CellNumbers → Simplex → ℕ
whole_volume c v = size_over (c.dd ^ c.d) (volume v)

-- lcd * abs(v)^(e-1) * D^d * Dw^f
abbrev pub common_of : Weight → CellNumbers → Simplex → ℕ
common_of w c v = lcd c.d w * whole_volume c v ^ (depth w - 1) * c.dd ^ c.d * c.dw ^ w.f

-- ---- all meshes and data whose numbers are multiples of 1/den, of absolute value at most m/den
abbrev pub numbers_at : ℕ → ℕ → ℕ → CellNumbers
numbers_at d den m = record { d = d; dd = den; j = 2 * m; m = m; nw = m; dw = den }

-- ---- the room as it is computed: of what it takes of a weight, at the two ends alone
abbrev pub room_by : ℕ → ℕ → ℕ → ℕ → ℕ → CellNumbers → ℕ
room_by l size f low high c =
    1024
    * max
    (max
    (size * (c.nw * c.dw) ^ f * max (geometric (cofactor_bound c) (volume_bound c) c.dd (max high 1) low) (geometric (cofactor_bound c) (volume_bound c) c.dd (max high 1) high))
    (l * volume_bound c ^ (max high 1 - 1) * c.dd ^ c.d * c.dw ^ f))
    (max (volume_bound c * c.dd ^ c.d) c.m)

-- ---- worked: the weight of u*v*dx with two functions of degree 1 on intervals
abbrev pub mass_weight : Weight
mass_weight = record { cost = 4; deg = 2; g = 2; f = 2; rmin = 0; rmax = 0; num = 1; den = 1; fac = 1; s = 16 }
