-- Which rows of a reference tensor are counted, and how the others stand to them
use Rattle.std.specs.Prelude.{ℕ, zero, suc, List, [], ◌∷◌, ◌++◌, length, map, slice_index_or, Option, None, Some, Bool, true, false, ◌&&◌, if◌then◌else◌}
use Rattle.std.specs.List.{flat_map}
use Rattle.algebra.specs.Fraction.{Fraction, zero_fraction, one_fraction, add, mul, negative, inverse, is_zero_fraction}
use Rattle.ratio.specs.Value.{fraction_of}
use Rattle.kernel_runs.specs.declared.entry.Entry.{Entry}
use Rattle.kernel_runs.specs.declared.entry.Entry.TheVariants.{NoRow, Counted, Multiple}

abbrev pub is_zero_row : List Fraction → Bool
is_zero_row [] = true
is_zero_row (x ∷ xs) = is_zero_fraction x && is_zero_row xs

-- ---- multiples
abbrev pub is_same : Fraction → Fraction → Bool
is_same x y = is_zero_fraction (add x (negative y))

-- the second row is k times the first
abbrev pub is_scaled : Fraction → List Fraction → List Fraction → Bool
is_scaled k [] [] = true
is_scaled k [] (y ∷ ys) = false
is_scaled k (x ∷ xs) [] = false
is_scaled k (x ∷ xs) (y ∷ ys) = is_same (mul k x) y && is_scaled k xs ys

-- the number that a row which isn't zero has to be multiplied with, if a row is a multiple of it
abbrev pub multiplier : List Fraction → List Fraction → Fraction
multiplier [] ys = zero_fraction
multiplier (x ∷ xs) [] = zero_fraction
multiplier (x ∷ xs) (y ∷ ys) = if is_zero_fraction x then multiplier xs ys else mul y (inverse x)

abbrev pub is_multiple : List Fraction → List Fraction → Bool
is_multiple xs ys = is_scaled (multiplier xs ys) xs ys

-- ---- counted rows: those that are neither zero nor a multiple of an earlier one
-- the number of the first of these rows of which a row is a multiple, where the first of them has number b
abbrev pub first_multiple : ℕ → List (List Fraction) → List Fraction → Option ℕ
first_multiple b [] ys = None
first_multiple b (xs ∷ rows) ys = if is_multiple xs ys then Some b else first_multiple (suc b) rows ys

abbrev pub with_row : Option ℕ → List (List Fraction) → List Fraction → List (List Fraction)
with_row None found row = found ++ row ∷ []
with_row (Some b) found row = found

-- with one row more
abbrev pub counted_with : List (List Fraction) → List Fraction → List (List Fraction)
counted_with found row = if is_zero_row row then found else with_row (first_multiple 0 found row) found row

-- with all of a list
abbrev pub counted_from : List (List Fraction) → List (List Fraction) → List (List Fraction)
counted_from found [] = found
counted_from found (row ∷ rows) = counted_from (counted_with found row) rows

abbrev pub counted_rows : List (List Fraction) → List (List Fraction)
counted_rows rows = counted_from [] rows

-- ---- how each row stands to the counted ones
pub data Standing : Type 0 where
  Nothing : Standing
  Own : ℕ → Standing
  Times : Fraction → ℕ → Standing

abbrev pub standing_of : Entry → Standing
standing_of NoRow = Nothing
standing_of (Counted b) = Own b
standing_of (Multiple l b) = Times (fraction_of l) b

abbrev pub scaled_standing : Fraction → ℕ → Standing
scaled_standing k b = if is_same k one_fraction then Own b else Times k b

abbrev pub standing_at : Option ℕ → List (List Fraction) → List Fraction → Standing
standing_at None found row = Own (length found)
standing_at (Some b) found row = scaled_standing (multiplier (slice_index_or found b []) row) b

-- behind those that are found so far
abbrev pub standing : List (List Fraction) → List Fraction → Standing
standing found row = if is_zero_row row then Nothing else standing_at (first_multiple 0 found row) found row

abbrev pub standings_from : List (List Fraction) → List (List Fraction) → List Standing
standings_from found [] = []
standings_from found (row ∷ rows) = standing found row ∷ standings_from (counted_with found row) rows

abbrev pub standings : List (List Fraction) → List Standing
standings rows = standings_from [] rows

-- ---- tables
-- the counted rows one after the other, where there are some
abbrev pub table_of : List (List Fraction) → List (List Fraction)
table_of [] = []
table_of (row ∷ rows) = flat_map (λ items. items) (row ∷ rows) ∷ []

-- ---- rows over their first items that aren't 0
abbrev pub leading : List Fraction → Fraction
leading [] = zero_fraction
leading (x ∷ xs) = if is_zero_fraction x then leading xs else x

-- of two rows that aren't zero one is a multiple of the other exactly where these are the same
abbrev pub shape : List Fraction → List Fraction
shape row = map (λ x. mul x (inverse (leading row))) row
