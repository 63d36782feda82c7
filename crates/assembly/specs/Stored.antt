-- The local tensors of all cells as one list of values, and its rows
use Rattle.std.specs.Prelude.{◌≡◌, ◌≢◌, ℕ, zero, suc, ◌*◌, ◌≤◌, ◌==◌, List, [], ◌∷◌, length, take, drop, Option, None, Some}
use Rattle.std.specs.List.{filter}
use Rattle.std.specs.Option.{option_copied}
use Rattle.algebra.specs.Fraction.{Fraction}
use Rattle.c_unit.specs.Meaning.{fractions_of}
use Rattle.dofs.specs.Rows.{Numbering}
use Rattle.dofs.specs.Places.{row_places}
use Rattle.dofs.specs.declared.places.RowPlace.{RowPlace}
use Rattle.assembly.specs.Sums.{Entry, values_at, added}
use Rattle.assembly.specs.Kept.{resumed}
use Rattle.assembly.specs.Local.{row_entries}
use Rattle.assembly.specs.RowSums.{Kept, sum_in}
use Rattle.assembly.specs.Assembly.{argument_rows, row_count, entries_from, IsMapOf}
use Rattle.assembly.specs.declared.stored.Stored.{Stored}

abbrev pub rows_of : Stored → Option Numbering
rows_of s = option_copied s.rows

abbrev pub cols_of : Stored → Option Numbering
cols_of s = option_copied s.cols

pub record IsStored (s : Stored) : Type 0 where
  pub rows : IsMapOf s.cells s.height (rows_of s)
  pub cols : IsMapOf s.cells s.width (cols_of s)
  pub size : s.size ≡ s.height * s.width
  pub values : length s.values.items ≡ s.cells * s.size

abbrev pub column_count : Stored → ℕ
column_count s = row_count (cols_of s)

abbrev pub tensor_at : Stored → ℕ → List Fraction
tensor_at s k = take s.size (drop (k * s.size) (fractions_of s.values.items))

abbrev pub stored_entries : Stored → List Entry
stored_entries s = entries_from (rows_of s) (cols_of s) (tensor_at s) 0 s.cells

-- those of one row
abbrev pub of_row : ℕ → List Entry → List Entry
of_row row entries = filter (λ (e : Entry). e.row == row) entries

-- the first local row of so many cells, from cell k on
abbrev pub cell_places : ℕ → ℕ → List RowPlace
cell_places k zero = []
cell_places k (suc n) = record { cell = k; local = 0 } ∷ cell_places (suc k) n

-- the places of a row
abbrev pub places_in : Option Numbering → ℕ → ℕ → List RowPlace
places_in None cells row = cell_places 0 cells
places_in (Some n) cells row = row_places row n.cells

-- what the local row of a place adds to its row
abbrev pub place_entries : Option Numbering → (ℕ → List Fraction) → ℕ → ℕ → RowPlace → List Entry
place_entries cols tensor width row p =
    row_entries row (argument_rows cols p.cell) (take width (drop (p.local * width) (tensor p.cell)))

abbrev pub stored_row : Stored → ℕ → RowPlace → List Entry
stored_row s row p = place_entries (cols_of s) (tensor_at s) s.width row p

-- all these values are of this row, and the sums are theirs
pub record AreSummed (row : ℕ) (values : List Entry) (sums : Kept) : Type 0 where
  pub own : (r c : ℕ) → r ≢ row → values_at values r c ≡ []
  pub totals : (c : ℕ) → resumed (sum_in sums c) [] ≡ added (values_at values row c)

-- no local node has a row behind the last
abbrev pub AreAllRows : Option Numbering → Type 0
AreAllRows None = Unit {0}
AreAllRows (Some n) = (row : ℕ) → length n.labels ≤ row → row_places row n.cells ≡ []
