-- The text of a number, and what it stands for.
--
-- A number is `-` or nothing, then either digits, `/` and digits, or a decimal.
-- A decimal is digits, or digits with one point before, between or behind them, then perhaps `e` or `E`, a sign or none, and one to three digits.
use Rattle.std.specs.Prelude.{◌≡◌, ℕ, ◌+◌, ◌*◌, ◌^◌, ◌<◌, ◌≤◌, pos, Bool, true, false, ◌&&◌, ◌⊎◌, List, [], ◌∷◌, ◌++◌, length, ◌==◌, Option, Some, None, if◌then◌else◌}
use Rattle.std.specs.Str.Parse.{AllDigits, IsNumeral, digits_value}
use Rattle.std.specs.Fmt.{sign_text}
use Rattle.std.specs.Option.{option_map}
use native.Mathlib.Nat as N
use mathlib.Core.Quot.{mk}
use Rattle.algebra.specs.Fraction.{Fraction, negative}
use Rattle.algebra.specs.Steps.{below_limit, fitting, quotient}

-- ---- what a text says

-- the digits before and behind the point, whether the exponent is negative, and its size
pub record Decimal : Type 0 where
  pub whole : List ℕ
  pub fraction : List ℕ
  pub lowered : Bool
  pub exponent : ℕ

-- a number without its sign
pub data Magnitude : Type 0 where
  Quotient : (above below : List ℕ) → Magnitude
  Point : Decimal → Magnitude

-- the bytes 45, 43, 46, 47, 69 and 101 are `-`, `+`, `.`, `/`, `E` and `e`; 48 is `0`
-- digits, or digits with one point before, between or behind them
abbrev pub IsMantissa : List ℕ → List ℕ → List ℕ → Type 0
IsMantissa text whole fraction =
    AllDigits 10 whole × AllDigits 10 fraction × (0 < length (whole ++ fraction))
    × (((text ≡ whole) × (fraction ≡ [])) ⊎ (text ≡ whole ++ 46 ∷ fraction))

-- the sign of an exponent, or none
abbrev pub IsSign : List ℕ → Bool → Type 0
IsSign text true = text ≡ 45 ∷ []
IsSign text false = (text ≡ []) ⊎ (text ≡ 43 ∷ [])

-- a sign or none, and one to three digits
pub record IsSignedSize (text : List ℕ) (lowered : Bool) (size : ℕ) : Type 0 where
  pub sign : List ℕ
  pub digits : List ℕ
  pub is_sign : IsSign sign lowered
  pub is_numeral : IsNumeral 10 digits
  pub at_most_three : length digits ≤ 3
  pub size_is : size ≡ digits_value 10 digits
  pub text_is : text ≡ sign ++ digits

-- `e` or `E`, and a signed size
pub record IsWrittenExponent (text : List ℕ) (lowered : Bool) (size : ℕ) : Type 0 where
  pub mark : ℕ
  pub rest : List ℕ
  pub is_mark : (mark ≡ 101) ⊎ (mark ≡ 69)
  pub is_signed : IsSignedSize rest lowered size
  pub text_is : text ≡ mark ∷ rest

-- an exponent, or nothing
abbrev pub IsExponent : List ℕ → Bool → ℕ → Type 0
IsExponent text lowered size = ((text ≡ []) × (lowered ≡ false) × (size ≡ 0)) ⊎ IsWrittenExponent text lowered size

-- a decimal, which has no sign
pub record IsDecimal (text : List ℕ) (d : Decimal) : Type 0 where
  pub mantissa : List ℕ
  pub behind : List ℕ
  pub is_mantissa : IsMantissa mantissa d.whole d.fraction
  pub is_exponent : IsExponent behind d.lowered d.exponent
  pub text_is : text ≡ mantissa ++ behind

-- a number without its sign
abbrev pub IsMagnitude : List ℕ → Magnitude → Type 0
IsMagnitude text (Quotient above below) = IsNumeral 10 above × IsNumeral 10 below × (text ≡ above ++ 47 ∷ below)
IsMagnitude text (Point d) = IsDecimal text d

-- a number
abbrev pub IsNumber : List ℕ → Bool → Magnitude → Type 0
IsNumber text below_zero m = (size : List ℕ) × ((text ≡ sign_text below_zero ++ size) × IsMagnitude size m)

-- ---- what it stands for

abbrev pub kept_before : ℕ → List ℕ → List ℕ
kept_before c [] = if c == 48 then [] else c ∷ []
kept_before c (d ∷ ds) = c ∷ (d ∷ ds)

-- the digits without the zeros at their end
abbrev pub without_end_zeros : List ℕ → List ℕ
without_end_zeros [] = []
without_end_zeros (c ∷ cs) = kept_before c (without_end_zeros cs)

-- the number of all digits but the zeros at their end; zeros in front change no number
abbrev pub significand : Decimal → ℕ
significand d = digits_value 10 (without_end_zeros (d.whole ++ d.fraction))

abbrev pub tens_above : Decimal → ℕ
tens_above d = if d.lowered then 0 else d.exponent

abbrev pub tens_below : Decimal → ℕ
tens_below d = length d.fraction + (if d.lowered then d.exponent else 0)

pub power_positive : (k : ℕ) → 0 < 10 ^ k
power_positive k = N.one-le-pow k 10 (N.zero-lt-suc 9)

-- n * 10^k / 10^m
abbrev pub scaled_by_tens : ℕ → ℕ → ℕ → Fraction
scaled_by_tens n k m = mk (record { num = pos (n * 10 ^ k); den = 10 ^ m; positive = power_positive m })

-- all digits, with the point and the exponent counted in powers of ten
abbrev pub decimal_fraction : Decimal → Fraction
decimal_fraction d = scaled_by_tens (digits_value 10 (d.whole ++ d.fraction)) (tens_above d) (tens_below d)

-- the value of a decimal that fits: its significand is at most 2^127 - 1, and so are both parts of the value in lowest terms
unfoldable pub decimal_value : Decimal → Option Fraction
decimal_value d = if below_limit (significand d) then fitting (decimal_fraction d) else None

-- the value of a quotient that fits: both numbers are at most 2^127 - 1 as they are written, and the second is not 0
unfoldable pub quotient_value : List ℕ → List ℕ → Option Fraction
quotient_value above below =
    if below_limit (digits_value 10 above) && below_limit (digits_value 10 below) then quotient (pos (digits_value 10 above)) (pos (digits_value 10 below)) else None

abbrev pub magnitude_value : Magnitude → Option Fraction
magnitude_value (Quotient above below) = quotient_value above below
magnitude_value (Point d) = decimal_value d

-- the value of a number that fits
abbrev pub number_value : Bool → Magnitude → Option Fraction
number_value below_zero m = if below_zero then option_map negative (magnitude_value m) else magnitude_value m

-- the text is a number with this value, which fits
abbrev pub IsReadAs : List ℕ → Fraction → Type 0
IsReadAs text x = (below_zero : Bool) × ((m : Magnitude) × (IsNumber text below_zero m × (number_value below_zero m ≡ Some x)))
