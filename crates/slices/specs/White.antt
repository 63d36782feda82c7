-- White space, and what is left behind it
use Rattle.std.specs.Prelude.{ℕ, ◌+◌, Bool, ◌||◌, ◌==◌, List, [], ◌∷◌, if◌then◌else◌}

-- space, tab, carriage return and line feed
unfoldable pub is_white : ℕ → Bool
is_white b = b == 32 || b == 9 || b == 13 || b == 10

-- what is left of a text: its bytes, and the place and the line of the first
pub record Rest : Type 0 where
  pub bytes : List ℕ
  pub from : ℕ
  pub line : ℕ

-- without the white space at the front
abbrev pub after_white : List ℕ → ℕ → ℕ → Rest
after_white [] from line = record { bytes = []; from = from; line = line }
after_white (b ∷ bs) from line =
    if is_white b then after_white bs (from + 1) (if b == 10 then line + 1 else line) else
    record { bytes = b ∷ bs; from = from; line = line }
