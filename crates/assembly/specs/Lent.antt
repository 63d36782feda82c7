-- The rows of a matrix, lent one after the other
use Rattle.std.specs.Prelude.{◌≡◌, ℕ, ◌+◌, ◌<◌, ◌≤◌, List, [], Option, None, Some, map}
use Rattle.std.specs.declared.result.Result.{Result}
use Rattle.std.specs.declared.result.Result.TheVariants.{Ok, Err}
use Rattle.std.specs.List.{AllByRecursion}
use Rattle.assembly.specs.Sums.{Entry, values_at, AreSums, PassesFirst}
use Rattle.assembly.specs.Kept.{seen}
use Rattle.assembly.specs.Assembly.{Assembly, run_entries}
use Rattle.assembly.specs.Stored.{of_row}
use Rattle.assembly.specs.LentRows.{LentRows, lent_entries, lent_count}
use Rattle.assembly.specs.declared.run_refusal.RunRefusal.{RunRefusal}
use Rattle.assembly.specs.declared.run_refusal.RunRefusal.TheVariants.{TooManyEntries, Zero, CellPassed, SumPassed, Memory}

-- of the values of these runs, before the first row
pub record AreStarted (s : Assembly) (r : LentRows) : Type 0 where
  pub rows : r.rows ≡ s.rows
  pub entries : lent_entries r ≡ run_entries s
  pub next : r.next ≡ 0

-- no value is of a row behind the last
abbrev pub HasNoneBeyond : LentRows → Type 0
HasNoneBeyond r = (row col : ℕ) → lent_count r ≤ row → values_at (lent_entries r) row col ≡ []

-- the next row: its sums without zeros, by rising column
pub record IsRow (s : LentRows) (row : ℕ) (sums : List Entry) : Type 0 where
  pub within : s.next < lent_count s
  pub number : row ≡ s.next
  pub own : AllByRecursion (λ (e : Entry). e.row ≡ s.next) sums
  pub exact : AreSums (of_row s.next (lent_entries s)) sums

-- the first column of the next row at which adding up passes
pub record IsPassing (s : LentRows) (row col : ℕ) : Type 0 where
  pub within : s.next < lent_count s
  pub number : row ≡ s.next
  pub passes : PassesFirst (of_row s.next (lent_entries s)) row col

abbrev pub IsRowRefusal : LentRows → RunRefusal → Type 0
IsRowRefusal s (SumPassed row col) = IsPassing s row col
IsRowRefusal s TooManyEntries = ⊥
IsRowRefusal s (Zero cell at) = ⊥
IsRowRefusal s (CellPassed cell at op l r) = ⊥
IsRowRefusal s Memory = ⊥

-- what a call for the next row answers, and what it leaves: where it refuses, each later call answers the same
abbrev pub IsNextRow : LentRows → Option (Result ℕ RunRefusal) → LentRows → Type 0
IsNextRow old None new = (old.next ≡ lent_count old) × (new ≡ old)
IsNextRow old (Some (Ok row)) new =
    IsRow old row (map seen new.entries) × (new ≡ record old { next = old.next + 1; entries = new.entries })
IsNextRow old (Some (Err e)) new = IsRowRefusal old e × (new ≡ record old { entries = new.entries })
