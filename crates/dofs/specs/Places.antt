-- The places of a row: the cells that have it, each with the number of its local node there
use Rattle.std.specs.Prelude.{ℕ, zero, suc, ◌==◌, List, [], ◌∷◌, ◌++◌, if◌then◌else◌}
use Rattle.dofs.specs.declared.places.RowPlace.{RowPlace}

-- on cell k, from local node a on: those whose row is n
abbrev pub places_on : ℕ → ℕ → ℕ → List ℕ → List RowPlace
places_on n k a [] = []
places_on n k a (r ∷ rows) = if r == n then record { cell = k; local = a } ∷ places_on n k (suc a) rows else places_on n k (suc a) rows

-- on all cells from cell k on
abbrev pub places_from : ℕ → ℕ → List (List ℕ) → List RowPlace
places_from n k [] = []
places_from n k (rows ∷ cells) = places_on n k zero rows ++ places_from n (suc k) cells

-- on all cells, by cell and then local number, of the rows of each cell
abbrev pub row_places : ℕ → List (List ℕ) → List RowPlace
row_places n cells = places_from n zero cells
