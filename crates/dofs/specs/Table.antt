-- A numbering as two lists, of labels in arrays and of the rows of all cells
use Rattle.std.specs.Prelude.{◌≡◌, ℕ, suc, ◌*◌, ◌<◌, ◌≤◌, ◌^◌, List, length, map, slice_index, slice_range}
use Rattle.std.specs.List.{AllByRecursion}
use Rattle.mesh_in.specs.MeshData.{rows}
use Rattle.dofs.specs.declared.key.Key.{Key}
use Rattle.dofs.specs.declared.places.RowPlace.{RowPlace}
use Rattle.dofs.specs.Arrays.{label_of}
use Rattle.dofs.specs.Places.{row_places}
use Rattle.dofs.specs.Rows.{Numbering}

abbrev pub numbered : List Key → List ℕ → ℕ → ℕ → Numbering
numbered labels table local cells = record { labels = map label_of labels; cells = rows local cells table }

pub record IsNumbered (labels : List Key) (table : List ℕ) (local cells : ℕ) : Type 0 where
  pub size : length table ≡ cells * local
  pub count : length labels < 2 ^ 32
  pub below : AllByRecursion (λ n. n < length labels) table
  pub small : AllByRecursion (λ (k : Key). k.support.count ≤ 3) labels

-- the places of all rows, row after row, and where those of each row start: the last number is where the last row's end
pub record AreByRow (starts : List ℕ) (places : List RowPlace) (count : ℕ) (cells : List (List ℕ)) : Type 0 where
  pub size : length starts ≡ suc count
  pub order : (n : ℕ) → n < count → slice_index starts n ≤ slice_index starts (suc n)
  pub within : (n : ℕ) → n < count → slice_index starts (suc n) ≤ length places
  pub found : (n : ℕ) → n < count → slice_range places (slice_index starts n) (slice_index starts (suc n)) ≡ row_places n cells

pub record IsIndexed (labels : List Key) (table : List ℕ) (local cells : ℕ) (starts : List ℕ) (places : List RowPlace) : Type 0 where
  pub numbered : IsNumbered labels table local cells
  pub by_row : AreByRow starts places (length labels) (rows local cells table)
