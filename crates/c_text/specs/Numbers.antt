-- Numbers of the text, and the fractions that they make up
use Rattle.std.specs.Prelude.{ℕ, ◌-◌, ◌^◌, Bool, ◌&&◌, ◌||◌, not, ◌==◌, nat_lt, if◌then◌else◌, List, length, take, drop, slice_index, Option, Some, None}
use Rattle.std.specs.Str.{all_ascii_digits}
use Rattle.std.specs.Str.Parse.{digits_value}

-- digits without leading zeros
abbrev pub is_numeral : List ℕ → Bool
is_numeral text = all_ascii_digits text && (not (length text == 0) && (length text == 1 || not (slice_index text 0 == 48)))

-- a decimal below the limit
abbrev pub decimal_below : ℕ → List ℕ → Option ℕ
decimal_below limit text = if is_numeral text && nat_lt (digits_value 10 text) limit then Some (digits_value 10 text) else None

unfoldable pub decimal_value : List ℕ → Option ℕ
decimal_value text = decimal_below (2 ^ 64) text

-- a decimal below 2^32
unfoldable pub small_value : List ℕ → Option ℕ
small_value text = decimal_below (2 ^ 32) text

-- a decimal below 2^64 and `u`
unfoldable pub half_value : List ℕ → Option ℕ
half_value text = if slice_index text (length text - 1) == 117 then decimal_value (take (length text - 1) text) else None

-- this letter and a decimal below 2^32
abbrev pub value_behind : ℕ → List ℕ → Option ℕ
value_behind letter text = if slice_index text 0 == letter then small_value (drop 1 text) else None

-- the number of a table: `K` and a decimal
unfoldable pub table_value : List ℕ → Option ℕ
table_value text = value_behind 75 text

-- the number of a counter
unfoldable pub counter_value : List ℕ → Option ℕ
counter_value text = value_behind 105 text
