-- One step of a kernel: the exact value, or nothing where the step passes
use Rattle.std.specs.Prelude.{ℕ, ℤ, pos, ◌*ℤ◌, ◌+ℤ◌, ◌/◌, ◌^◌, unsigned_abs, Bool, Option, Some, None, nat_lt, ◌&&◌, if◌then◌else◌}
use Rattle.algebra.specs.Fraction.{Fraction, add, mul, negative, inverse, of_integer, is_nought, is_zero_fraction}
use Rattle.algebra.specs.Gcd.{gcd}
use Rattle.algebra.specs.LowestTerms.{top, bottom}

abbrev pub below_limit : ℕ → Bool
below_limit n = nat_lt n (2 ^ 127)

-- both parts in lowest terms are below 2^127
abbrev pub fits : Fraction → Bool
fits x = below_limit (unsigned_abs (top x)) && below_limit (bottom x)

-- the fraction, where it fits
abbrev pub fitting : Fraction → Option Fraction
fitting x = if fits x then Some x else None

-- gcd first: neither product, nor their sum, nor the reduced sum passes
abbrev pub sum_fits_at : ℤ → ℕ → ℤ → ℕ → Fraction → Bool
sum_fits_at n d m e total =
    below_limit (unsigned_abs (n *ℤ pos (e / gcd d e)))
    && (below_limit (unsigned_abs (m *ℤ pos (d / gcd d e)))
    && (below_limit (unsigned_abs (n *ℤ pos (e / gcd d e) +ℤ m *ℤ pos (d / gcd d e))) && fits total))

abbrev pub sum_fits : Fraction → Fraction → Bool
sum_fits x y = sum_fits_at (top x) (bottom x) (top y) (bottom y) (add x y)

unfoldable pub product : Fraction → Fraction → Option Fraction
product x y = fitting (mul x y)

unfoldable pub sum : Fraction → Fraction → Option Fraction
sum x y = if sum_fits x y then Some (add x y) else None

unfoldable pub difference : Fraction → Fraction → Option Fraction
difference x y = sum x (negative y)

-- 1/x, and nothing at 0: the parts of the reciprocal fit where those of x do
unfoldable pub reciprocal : Fraction → Option Fraction
reciprocal x = if is_zero_fraction x then None else Some (inverse x)

-- n/d, where d is not 0 and the lowest terms fit
unfoldable pub quotient : ℤ → ℤ → Option Fraction
quotient n d = if is_nought d then None else fitting (mul (of_integer n) (inverse (of_integer d)))
