-- The statements of parts of a kernel, as they are written one after the other
use Rattle.std.specs.Prelude.{ℕ, zero, suc, ◌+◌, ◌^◌, List, [], ◌∷◌, map, take, drop}
use Rattle.algebra.specs.Fraction.{Fraction}
use Rattle.c_unit.specs.declared.unit.CStmt.{CStmt}
use Rattle.kernel_runs.specs.Strips.{Factor, map_factor}
use Rattle.kernel_runs.specs.Planned.{CountsWithin, columns_code, count_after}
use Rattle.kernel_runs.specs.Body.{strip_of}
use Rattle.kernel_runs.specs.declared.digit.Digit.{Digit}
use Rattle.kernel_runs.specs.declared.strip.Strip.{Strip}
use Rattle.kernel_statements.specs.declared.columns.Columns.{Columns}

-- how many slots T has, with two buffers of so many columns and one of so many values of rows
abbrev pub temporaries : ℕ → ℕ → ℕ
temporaries columns rows = 33 + (columns + columns + rows)

-- ---- columns, from those that are formed
abbrev pub code_from : Columns → List (Factor Strip) → List CStmt
code_from c fs = columns_code c.next c.following c.at c.count fs

abbrev pub columns_after : Columns → List (Factor Strip) → Columns
columns_after c [] = c
columns_after c (f ∷ fs) =
    columns_after (record { at = c.next; count = count_after c.count f; next = c.following; following = c.next }) fs

-- in d dimensions no more than 2^20 of them are formed
abbrev pub CountsFit : ℕ → ℕ → List (Factor Digit) → Type 0
CountsFit d n fs = CountsWithin (2 ^ 20) n (map (map_factor (strip_of d)) fs)

-- ---- rows that are kept one after the other
abbrev pub cut : (width rows : ℕ) → List Fraction → List (List Fraction)
cut width zero xs = []
cut width (suc n) xs = take width xs ∷ cut width n (drop width xs)
