-- What lies between the tokens of form files
use Rattle.std.specs.Prelude.{ℕ, ◌+◌, Bool, ◌||◌, ◌&&◌, ◌==◌, List, [], ◌∷◌, if◌then◌else◌}

-- space, tab and carriage return
unfoldable pub is_blank : ℕ → Bool
is_blank b = b == 32 || b == 9 || b == 13

-- a place in a text, and its line
pub record Spot : Type 0 where
  pub at : ℕ
  pub line : ℕ

abbrev pub spot : ℕ → ℕ → Spot
spot at line = record { at = at; line = line }

pub data Within : Type 0 where
  blanks : Within
  comment : Within
  -- behind a backslash, and behind one and a carriage return: the place is still that of the backslash
  backslash : Within
  returned : Within

-- Where the gap at this place ends: behind blanks, comments, joined lines, and line feeds where they end no statement
-- (`quiet`).
-- A backslash joins two lines directly before a line feed, or before a carriage return and a line feed.
abbrev pub after_gap : Within → Bool → List ℕ → ℕ → ℕ → Spot
after_gap _ quiet [] at line = spot at line
after_gap blanks quiet (b ∷ bs) at line =
    if is_blank b then after_gap blanks quiet bs (at + 1) line else
    if b == 35 then after_gap comment quiet bs (at + 1) line else
    if b == 10 && quiet then after_gap blanks quiet bs (at + 1) (line + 1) else
    if b == 92 then after_gap backslash quiet bs at line else
    spot at line
after_gap comment quiet (b ∷ bs) at line =
    if b == 10 then (if quiet then after_gap blanks quiet bs (at + 1) (line + 1) else spot at line) else
    after_gap comment quiet bs (at + 1) line
after_gap backslash quiet (b ∷ bs) at line =
    if b == 10 then after_gap blanks quiet bs (at + 2) (line + 1) else
    if b == 13 then after_gap returned quiet bs at line else
    spot at line
after_gap returned quiet (b ∷ bs) at line =
    if b == 10 then after_gap blanks quiet bs (at + 3) (line + 1) else spot at line

-- how many bytes of a joined line a backslash begins, with it, or 0; these are the bytes behind it
abbrev pub returned_length : List ℕ → ℕ
returned_length [] = 0
returned_length (b ∷ bs) = if b == 10 then 3 else 0

abbrev pub join_length : List ℕ → ℕ
join_length [] = 0
join_length (b ∷ bs) = if b == 10 then 2 else if b == 13 then returned_length bs else 0
