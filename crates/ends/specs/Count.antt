-- Counts in 64 bits, which stay at their top
use Rattle.std.specs.Prelude.{ℕ, ◌+◌, ◌-◌, ◌^◌, ◌≤◌, min}

-- one more
abbrev pub next_count : ℕ → ℕ
next_count n = min (n + 1) (2 ^ 64 - 1)

-- the count rose, or stands at its top
abbrev pub Rises : ℕ → ℕ → Type 0
Rises before now = next_count before ≤ now
