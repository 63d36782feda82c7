-- The entries that a monomial adds to, without those whose row is zero
use Rattle.std.specs.Prelude.{ℕ, suc, ◌+◌, ◌<◌, ◌^◌, List, [], ◌∷◌, ◌++◌}
use Rattle.c_unit.specs.declared.unit.CStmt.{CStmt}
use Rattle.kernel_runs.specs.declared.entry.Entry.{Entry}
use Rattle.kernel_runs.specs.declared.entry.Entry.TheVariants.{NoRow, Counted, Multiple}
use Rattle.kernel_runs.specs.Planned.{entry_code}
use Rattle.kernel_statements.specs.declared.entries.PlacedEntry.{PlacedEntry}

abbrev pub placed_code : (scratch values : ℕ) → List PlacedEntry → List CStmt
placed_code scratch values [] = []
placed_code scratch values (e ∷ es) = entry_code scratch values e.entry e.stands ++ placed_code scratch values es

-- the value of its row has a slot below 2^32
abbrev pub HasSlot : ℕ → Entry → Type 0
HasSlot values NoRow = Unit {0}
HasSlot values (Counted b) = values + b < 2 ^ 32
HasSlot values (Multiple l b) = values + b < 2 ^ 32

-- with the number of the first one
abbrev pub placed_one : ℕ → Entry → List PlacedEntry
placed_one e NoRow = []
placed_one e (Counted b) = record { entry = e; stands = Counted b } ∷ []
placed_one e (Multiple l b) = record { entry = e; stands = Multiple l b } ∷ []

-- those of all entries, from number e on
abbrev pub placed_from : ℕ → List Entry → List PlacedEntry
placed_from e [] = []
placed_from e (x ∷ xs) = placed_one e x ++ placed_from (suc e) xs
