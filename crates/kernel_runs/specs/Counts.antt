-- How many statements a planned monomial runs
use Rattle.std.specs.Prelude.{ℕ, ◌+◌, ◌*◌, List, [], ◌∷◌, length}
use Rattle.kernel_runs.specs.Strips.{Factor, MonoPlan}
use Rattle.kernel_runs.specs.declared.entry.Entry.{Entry}
use Rattle.kernel_runs.specs.declared.entry.Entry.TheVariants.{Counted, Multiple, NoRow}
use Rattle.kernel_runs.specs.Planned.{count_after}
use Rattle.kernel_runs.specs.declared.strip.Strip.{Strip}

-- of n columns and the factors after them
abbrev pub columns_count : ℕ → List (Factor Strip) → ℕ
columns_count n [] = 0
columns_count n (f ∷ fs) = count_after n f + columns_count (count_after n f) fs

abbrev pub entry_count : Entry → ℕ
entry_count NoRow = 0
entry_count (Counted b) = 1
entry_count (Multiple l b) = 3

abbrev pub entries_count : List Entry → ℕ
entries_count [] = 0
entries_count (e ∷ es) = entry_count e + entries_count es

-- N rows of C columns: N*(3*C - 1)
abbrev pub mono_count : MonoPlan Strip → ℕ
mono_count m = columns_count 1 m.factors + (length m.rows * (2 + 3 * m.more) + entries_count m.entries)
