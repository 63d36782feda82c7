-- What a sink holds, where it is told
use Rattle.std.specs.Prelude.{◌≡◌, ℕ, ◌≤◌, List, ◌++◌, length, take, Option, option_map}

-- the bytes with more behind them
abbrev pub appended : Option (List ℕ) → List ℕ → Option (List ℕ)
appended told more = option_map (λ bytes. bytes ++ more) told

-- a prefix was taken
abbrev pub TakesPrefix : Option (List ℕ) → Option (List ℕ) → List ℕ → Type 0
TakesPrefix old new bytes = (n : ℕ) × (n ≤ length bytes) × (new ≡ appended old (take n bytes))
