-- Numerators of fractions over a common denominator
use Rattle.std.specs.Prelude.{ℕ, ◌*◌, ◌/◌, unsigned_abs}
use Rattle.algebra.specs.Fraction.{Fraction}
use Rattle.algebra.specs.LowestTerms.{top, bottom}

-- the absolute value of l times x, where x's denominator divides l
abbrev pub size_over : ℕ → Fraction → ℕ
size_over l x = unsigned_abs (top x) * (l / bottom x)
