-- The text of the values of a form: a matrix, a vector or a number
use Rattle.std.specs.Prelude.{◌≡◌, ℕ, List, [], ◌∷◌, ◌++◌, codes, decimal}
use Rattle.std.specs.List.{flat_map}
use Rattle.ratio.specs.WrittenText.{text_of}
use Rattle.assembly.specs.Sums.{Entry, AreSums, PassesFirst}
use Rattle.assembly.specs.LentRows.{LentRows, lent_count, lent_entries}
use Rattle.assembly.specs.declared.run_refusal.RunRefusal.{RunRefusal}
use Rattle.assembly.specs.declared.run_refusal.RunRefusal.TheVariants as refusal

-- the pieces one after the other
abbrev pub joined : List (List ℕ) → List ℕ
joined [] = []
joined (piece ∷ pieces) = piece ++ joined pieces

-- row, column and value
abbrev pub entry_line : Entry → List ℕ
entry_line e = joined (decimal e.row ∷ codes " " ∷ decimal e.col ∷ codes " " ∷ text_of e.value ∷ codes "\n" ∷ [])

-- the name, the number of arguments, and how many rows and columns they have
abbrev pub header_line : List ℕ → ℕ → ℕ → ℕ → List ℕ
header_line name rank rows cols =
    joined
    (codes "form " ∷ name ∷ codes " rank " ∷ decimal rank ∷ codes " rows " ∷ decimal rows ∷ codes " columns " ∷ decimal cols ∷ codes "\n" ∷ [])

-- the header, and a line for each entry
abbrev pub values_text : List ℕ → ℕ → ℕ → ℕ → List Entry → List ℕ
values_text name rank rows cols entries = header_line name rank rows cols ++ flat_map entry_line entries

-- the sums of all rows stand behind the old text, as values of this rank with so many columns
abbrev pub GainsValues : List ℕ → ℕ → LentRows → ℕ → List ℕ → List ℕ → Type 0
GainsValues name rank rows cols old new =
    (entries : List Entry) × AreSums (lent_entries rows) entries
    × (new ≡ old ++ values_text name rank (lent_count rows) cols entries)

-- why they don't: the first entry whose values can't be added up, or no memory
abbrev pub SumRefusal : List Entry → RunRefusal → Type 0
SumRefusal values (refusal.SumPassed row col) = PassesFirst values row col
SumRefusal values refusal.Memory = Unit {0}
SumRefusal values refusal.TooManyEntries = ⊥
SumRefusal values (refusal.Zero cell at) = ⊥
SumRefusal values (refusal.CellPassed cell at op left right) = ⊥
