-- The tokens of kernels in C
use Rattle.std.specs.Prelude.{ℕ, zero, suc, ◌+◌, Bool, ◌&&◌, ◌||◌, nat_le, ◌==◌, if◌then◌else◌, List, [], ◌∷◌, codes, Option, Some, None, slice_index}
use Rattle.std.specs.List.{starts_with}
use Rattle.slices.specs.declared.toks.TokKind.{TokKind}
use Rattle.slices.specs.declared.toks.TokKind.TheVariants.{Word, Number, Text, Symbol}

abbrev pub is_letter : ℕ → Bool
is_letter b = (nat_le 97 b && nat_le b 122) || (nat_le 65 b && nat_le b 90) || b == 95

abbrev pub is_digit : ℕ → Bool
is_digit b = nat_le 48 b && nat_le b 57

abbrev pub is_inside_word : ℕ → Bool
is_inside_word b = is_letter b || is_digit b

-- { } ( ) [ ] = , ; * & + <
abbrev pub is_sign : ℕ → Bool
is_sign b = b == 123 || b == 125 || b == 40 || b == 41 || b == 91 || b == 93 || b == 61 || b == 44
    || b == 59 || b == 42 || b == 38 || b == 43 || b == 60

-- how many bytes at the front pass the test
abbrev pub span : (ℕ → Bool) → List ℕ → ℕ
span p [] = 0
span p (b ∷ bs) = if p b then suc (span p bs) else 0

unfoldable pub word_length : List ℕ → ℕ
word_length bs = span is_inside_word bs

unfoldable pub digits_length : List ℕ → ℕ
digits_length bs = span is_digit bs

-- the digits at the front, with the `u` where one follows
unfoldable pub number_length : List ℕ → ℕ
number_length bs = if slice_index bs (digits_length bs) == 117 then digits_length bs + 1 else digits_length bs

-- the longest sign at the front, or 0
unfoldable pub sign_length : List ℕ → ℕ
sign_length [] = 0
sign_length (b ∷ bs) = if b == 43 && slice_index bs 0 == 43 then 2 else if is_sign b then 1 else 0

abbrev pub same_bytes : ℕ → ℕ → Bool
same_bytes a b = a == b

abbrev pub sign_of_length : ℕ → Option (ℕ × TokKind)
sign_of_length zero = None
sign_of_length (suc n) = Some (suc n, Symbol)

-- the longest token at the front, as its length and its kind
unfoldable pub c_token : List ℕ → Option (ℕ × TokKind)
c_token [] = None
c_token (b ∷ bs) =
    if is_letter b then Some (1 + word_length bs, Word) else
    if is_digit b then Some (1 + number_length bs, Number) else
    if starts_with same_bytes (b ∷ bs) (codes "\"fr.h\"") then Some (6, Text) else
    if starts_with same_bytes (b ∷ bs) (codes "#include") then Some (8, Symbol) else
    sign_of_length (sign_length (b ∷ bs))
