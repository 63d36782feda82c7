-- The text that stands for a fraction
use Rattle.std.specs.Prelude.{ℕ, List, ◌∷◌, ◌++◌, ◌==◌, if◌then◌else◌}
use Rattle.std.specs.Fmt.{decimal, signed_decimal}
use Rattle.algebra.specs.Fraction.{Fraction}
use Rattle.algebra.specs.LowestTerms.{top, bottom}

-- the numerator, and behind a slash the denominator where it is not 1
abbrev pub quotient_text : List ℕ → ℕ → List ℕ
quotient_text above below = if below == 1 then above else above ++ (47 ∷ decimal below)

unfoldable pub text_of : Fraction → List ℕ
text_of x = quotient_text (signed_decimal (top x)) (bottom x)
