-- Quotients of small whole numbers
use Rattle.std.specs.Prelude.{ℕ}
use Rattle.algebra.specs.Ring.{natural}
use Rattle.algebra.specs.Fraction.{Fraction, fractions, mul, inverse}

-- n/d
abbrev pub over : ℕ → ℕ → Fraction
over n d = mul (natural fractions n) (inverse (natural fractions d))
