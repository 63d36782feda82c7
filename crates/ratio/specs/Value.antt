-- The value of a `Ratio`
use Rattle.std.specs.Prelude.{Option, None, Some}
use Rattle.algebra.specs.Fraction.{Pair, Fraction}
use mathlib.Core.Quot.{mk}
use Rattle.ratio.specs.declared.reduced.Ratio.{Ratio}

abbrev pub pair_of : Ratio → Pair
pair_of r = record { num = r.n; den = r.d; positive = r.positive }

unfoldable pub fraction_of : Ratio → Fraction
fraction_of r = mk (pair_of r)

-- the value of an answer, if there is one
abbrev pub valued : Option Ratio → Option Fraction
valued None = None
valued (Some r) = Some (fraction_of r)
