-- The number that a literal stands for: digits with or without a point, then perhaps `e` or `E`, a sign or none, and
-- one to three digits
use Rattle.std.specs.Prelude.{ℕ, nat_lt, nat_le, ◌==◌, ◌&&◌, ◌||◌, Bool, true, false, if◌then◌else◌, List, [], ◌∷◌, ◌++◌, length, option_and_then, Option, None, Some}
use Rattle.std.specs.List.{list_all}
use Rattle.std.specs.Char.{digit_value}
use Rattle.std.specs.Str.Parse.{digits_value}
use Rattle.ratio.specs.declared.reduced.Ratio.{Ratio}
use Rattle.ratio.specs.NumberText.{Decimal, decimal_value}
use Rattle.ufl_values.specs.Exact.{exact}

abbrev pub is_digit : ℕ → Bool
is_digit c = nat_lt (digit_value c) 10

-- the digits with which the text begins, and what follows them
abbrev pub digits_before : List ℕ → List ℕ
digits_before [] = []
digits_before (c ∷ cs) = if is_digit c then c ∷ digits_before cs else []

abbrev pub behind_digits : List ℕ → List ℕ
behind_digits [] = []
behind_digits (c ∷ cs) = if is_digit c then behind_digits cs else c ∷ cs

-- the digits behind a point with which the text begins, and what follows them; 46 is `.`
abbrev pub fraction_before : List ℕ → List ℕ
fraction_before [] = []
fraction_before (c ∷ cs) = if c == 46 then digits_before cs else []

abbrev pub behind_fraction : List ℕ → List ℕ
behind_fraction [] = []
behind_fraction (c ∷ cs) = if c == 46 then behind_digits cs else c ∷ cs

-- a power of ten: whether it is below 1, and the size of its exponent
pub record Power : Type 0 where
  pub lowered : Bool
  pub size : ℕ

-- one to three digits
abbrev pub power_of : Bool → List ℕ → Option Power
power_of lowered ds =
    if list_all is_digit ds && (nat_lt 0 (length ds) && nat_le (length ds) 3)
    then Some (record { lowered = lowered; size = digits_value 10 ds }) else None

-- 45 is `-` and 43 is `+`
abbrev pub signed_power : List ℕ → Option Power
signed_power [] = None
signed_power (c ∷ cs) =
    if c == 45 then power_of true cs else if c == 43 then power_of false cs else power_of false (c ∷ cs)

-- nothing, or `e` or `E` and a power
abbrev pub written_power : List ℕ → Option Power
written_power [] = Some (record { lowered = false; size = 0 })
written_power (c ∷ cs) = if c == 101 || c == 69 then signed_power cs else None

abbrev pub decimal_by : List ℕ → List ℕ → Option Power → Option Decimal
decimal_by whole fraction None = None
decimal_by whole fraction (Some p) =
    if nat_lt 0 (length (whole ++ fraction))
    then Some (record { whole = whole; fraction = fraction; lowered = p.lowered; exponent = p.size }) else None

-- the decimal that the whole text is
unfoldable pub decimal_of : List ℕ → Option Decimal
decimal_of text =
    let behind = behind_digits text in
    decimal_by (digits_before text) (fraction_before behind) (written_power (behind_fraction behind))

-- its value in lowest terms, where that fits
unfoldable pub literal : List ℕ → Option Ratio
literal text = option_and_then exact (option_and_then decimal_value (decimal_of text))
