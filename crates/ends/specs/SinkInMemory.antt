-- A sink that is kept in memory, with a room in bytes and the puts that are to fail
use Rattle.std.specs.Prelude.{ℕ, ◌+◌, ◌-◌, List, [], ◌∷◌, ◌++◌, Bool, ◌==◌, ◌||◌, nat_lt, length, take, min, Option, None, Some, is_some, if◌then◌else◌}
use Rattle.ends.specs.Count.{next_count}

pub record SinkInMemory : Type 0 where
  pub bytes : List ℕ
  pub room : ℕ
  pub fail : List (ℕ × ℕ)
  pub calls : ℕ
  pub faults : ℕ

-- the length in the first pair with this number
abbrev pub listed : List (ℕ × ℕ) → ℕ → Option ℕ
listed [] number = None
listed (pair ∷ pairs) number = if pair.0 == number then Some pair.1 else listed pairs number

abbrev pub room_left : SinkInMemory → ℕ
room_left s = s.room - length s.bytes

abbrev pub at_most : Option ℕ → ℕ → ℕ
at_most None n = n
at_most (Some m) n = min m n

-- how many bytes the next put can take
abbrev pub allowed : SinkInMemory → ℕ
allowed s = at_most (listed s.fail (next_count s.calls)) (room_left s)

-- whether the next put of these bytes fails
abbrev pub fails : SinkInMemory → List ℕ → Bool
fails s bytes = is_some (listed s.fail (next_count s.calls)) || nat_lt (room_left s) (length bytes)

-- what the next put of these bytes leaves
abbrev pub after_put : SinkInMemory → List ℕ → SinkInMemory
after_put s bytes = record s {
  bytes = s.bytes ++ take (allowed s) bytes;
  calls = next_count s.calls;
  faults = if fails s bytes then next_count s.faults else s.faults;
}
