-- The number of a text, read from the left: what the grammar of numbers relates it to, as a function
use Rattle.std.specs.Prelude.{ℕ, ◌==◌, ◌&&◌, ◌||◌, Bool, true, false, nat_lt, nat_le, List, [], ◌∷◌, ◌++◌, length, Option, Some, None, if◌then◌else◌}
use Rattle.std.specs.List.{list_all}
use Rattle.std.specs.Char.{digit_value}
use Rattle.std.specs.Str.Parse.{digits_value}
use Rattle.algebra.specs.Fraction.{Fraction}
use Rattle.ratio.specs.NumberText.{Magnitude, Quotient, Point, number_value}
use Rattle.mesh_in.specs.Line.{is_word}
use Rattle.mesh_in.specs.Options.{◌>>=◌}

abbrev pub is_digit : ℕ → Bool
is_digit c = nat_lt (digit_value c) 10

abbrev pub before_other : ℕ → Bool → List ℕ × List ℕ → List ℕ → List ℕ × List ℕ
before_other c true split cs = (c ∷ split.0, split.1)
before_other c false split cs = ([], c ∷ cs)

-- the digits in front, and what follows them
abbrev pub split_digits : List ℕ → List ℕ × List ℕ
split_digits [] = ([], [])
split_digits (c ∷ cs) = before_other c (is_digit c) (split_digits cs) cs

abbrev pub is_numeral : List ℕ → Bool
is_numeral ds = is_word ds && list_all is_digit ds

-- one to three digits; the bytes 43, 45, 46, 47, 69 and 101 are `+`, `-`, `.`, `/`, `E` and `e`
abbrev pub size_at : Bool → List ℕ → Option (Bool × ℕ)
size_at lowered ds = if is_numeral ds && nat_le (length ds) 3 then Some (lowered, digits_value 10 ds) else None

-- a sign or none before them
abbrev pub signed_size : List ℕ → Option (Bool × ℕ)
signed_size [] = None
signed_size (c ∷ cs) = if c == 45 then size_at true cs else if c == 43 then size_at false cs else size_at false (c ∷ cs)

-- the exponent, or nothing
abbrev pub exponent_at : List ℕ → Option (Bool × ℕ)
exponent_at [] = Some (false, 0)
exponent_at (c ∷ cs) = if c == 101 || c == 69 then signed_size cs else None

abbrev pub decimal_at : List ℕ → List ℕ → List ℕ → Option Magnitude
decimal_at whole fraction behind =
    if is_word (whole ++ fraction)
    then (exponent_at behind >>= λ e. Some (Point (record { whole = whole; fraction = fraction; lowered = e.0; exponent = e.1 })))
    else None

abbrev pub quotient_at : List ℕ → List ℕ → Option Magnitude
quotient_at above below = if is_word above && is_numeral below then Some (Quotient above below) else None

-- what follows the first digits
abbrev pub behind_digits : List ℕ → List ℕ → Option Magnitude
behind_digits whole [] = decimal_at whole [] []
behind_digits whole (c ∷ cs) =
    if c == 47 then quotient_at whole cs
    else if c == 46 then decimal_at whole (split_digits cs).0 (split_digits cs).1
    else decimal_at whole [] (c ∷ cs)

abbrev pub magnitude_at : List ℕ → Option Magnitude
magnitude_at text = behind_digits (split_digits text).0 (split_digits text).1

abbrev pub signed_at : Bool → Option Magnitude → Option Fraction
signed_at below_zero m = m >>= λ m. number_value below_zero m

-- the number that the whole text is, if it is one and fits
unfoldable pub coordinate_of : List ℕ → Option Fraction
coordinate_of [] = None
coordinate_of (c ∷ cs) = if c == 45 then signed_at true (magnitude_at cs) else signed_at false (magnitude_at (c ∷ cs))
