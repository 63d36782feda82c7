-- The tokens of form files
use Rattle.std.specs.Prelude.{ℕ, zero, suc, ◌+◌, Bool, false, ◌&&◌, ◌||◌, ◌==◌, if◌then◌else◌, min, List, [], ◌∷◌, drop, Option, Some, None, slice_index}
use Rattle.slices.specs.CTable.{is_letter, is_digit, word_length, digits_length, sign_of_length}
use Rattle.slices.specs.declared.toks.TokKind.{TokKind}
use Rattle.slices.specs.declared.toks.TokKind.TheVariants.{Word, Number, Text}

-- + - * / = ( ) [ ] , . :
abbrev pub is_form_sign : ℕ → Bool
is_form_sign b = b == 43 || b == 45 || b == 42 || b == 47 || b == 61 || b == 40 || b == 41 || b == 91 || b == 93
    || b == 44 || b == 46 || b == 58

-- the longest sign at the front, or 0: `...`, then `**`, `+=` and `-=`, then one byte
unfoldable pub form_sign_length : List ℕ → ℕ
form_sign_length [] = 0
form_sign_length (b ∷ bs) =
    if b == 46 && slice_index bs 0 == 46 && slice_index bs 1 == 46 then 3 else
    if b == 42 && slice_index bs 0 == 42 then 2 else
    if (b == 43 || b == 45) && slice_index bs 0 == 61 then 2 else
    if is_form_sign b then 1 else 0

-- a point at the front, and the digits behind it
unfoldable pub fraction_length : List ℕ → ℕ
fraction_length [] = 0
fraction_length (b ∷ bs) = if b == 46 then 1 + digits_length bs else 0

-- so many bytes and then digits, of which there is one and at most three count
abbrev pub with_digits : ℕ → ℕ → ℕ
with_digits n zero = 0
with_digits n (suc d) = n + min (suc d) 3

-- behind the e of an exponent: a sign or none, and digits; how many bytes the exponent has with its e, or 0 where it
-- isn't one
unfoldable pub power_length : List ℕ → ℕ
power_length [] = 0
power_length (b ∷ bs) = if b == 43
    || b == 45 then with_digits 2 (digits_length bs) else with_digits 1 (digits_length (b ∷ bs))

unfoldable pub exponent_length : List ℕ → ℕ
exponent_length [] = 0
exponent_length (b ∷ bs) = if b == 101 || b == 69 then power_length bs else 0

-- digits with a point before, between or behind them, or without
unfoldable pub mantissa_length : List ℕ → ℕ
mantissa_length bs = digits_length bs + fraction_length (drop (digits_length bs) bs)

unfoldable pub form_number_length : List ℕ → ℕ
form_number_length bs = mantissa_length bs + exponent_length (drop (mantissa_length bs) bs)

-- whether a number stands at the front: a digit, or a point and a digit
unfoldable pub begins_number : List ℕ → Bool
begins_number [] = false
begins_number (b ∷ bs) = is_digit b || (b == 46 && is_digit (slice_index bs 0))

abbrev pub one_longer : ℕ → ℕ
one_longer zero = 0
one_longer (suc n) = suc (suc n)

-- behind a quote: how many bytes there are up to the next such quote and with it, or 0 where none stands on this line
-- or a backslash is before it
abbrev pub string_length : ℕ → List ℕ → ℕ
string_length quote [] = 0
string_length quote (b ∷ bs) = if b == quote then 1 else if b == 10
    || b == 92 then 0 else one_longer (string_length quote bs)

abbrev pub string_of_length : ℕ → Option (ℕ × TokKind)
string_of_length zero = None
string_of_length (suc n) = Some (suc (suc n), Text)

-- the longest token at the front, as its length and its kind
unfoldable pub form_token : List ℕ → Option (ℕ × TokKind)
form_token [] = None
form_token (b ∷ bs) =
    if is_letter b then Some (1 + word_length bs, Word) else
    if begins_number (b ∷ bs) then Some (form_number_length (b ∷ bs), Number) else
    if b == 34 || b == 39 then string_of_length (string_length b bs) else
    sign_of_length (form_sign_length (b ∷ bs))
