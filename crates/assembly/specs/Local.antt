-- The values of a cell as entries of the matrix
use Rattle.std.specs.Prelude.{ℕ, List, [], ◌∷◌, ◌++◌, length, take, drop}
use Rattle.algebra.specs.Fraction.{Fraction}
use Rattle.assembly.specs.Sums.{Entry}

-- a value for each column
abbrev pub row_entries : ℕ → List ℕ → List Fraction → List Entry
row_entries row [] xs = []
row_entries row (col ∷ cols) [] = []
row_entries row (col ∷ cols) (x ∷ xs) = record { row = row; col = col; value = x } ∷ row_entries row cols xs

-- the values row by row
abbrev pub local_entries : List ℕ → List ℕ → List Fraction → List Entry
local_entries [] cols xs = []
local_entries (row ∷ rows) cols xs = row_entries row cols (take (length cols) xs) ++ local_entries rows cols (drop (length cols) xs)
