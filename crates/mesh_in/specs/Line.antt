-- A line: its comment, its bytes, its words
use Rattle.std.specs.Prelude.{ℕ, Bool, ◌==◌, ◌||◌, ◌&&◌, true, false, nat_le, List, [], ◌∷◌, filter}
use Rattle.std.specs.List.{before_first, list_all, slice_split}

-- what stands before the comment, which begins with #
abbrev pub content : List ℕ → List ℕ
content line = before_first (λ b. b == 35) line

-- a blank or a tab
abbrev pub is_blank : ℕ → Bool
is_blank b = (b == 32) || (b == 9)

-- printable ASCII, a blank or a tab
abbrev pub is_plain : ℕ → Bool
is_plain b = (nat_le 32 b && nat_le b 126) || (b == 9)

-- each byte outside of the comment may stand there
abbrev pub has_plain_bytes : List ℕ → Bool
has_plain_bytes line = list_all is_plain (content line)

-- a word has bytes
abbrev pub is_word : List ℕ → Bool
is_word [] = false
is_word (b ∷ bytes) = true

-- the parts between blanks and tabs, but for the empty ones
unfoldable pub words : List ℕ → List (List ℕ)
words bytes = filter is_word (slice_split is_blank bytes)

abbrev pub is_some_word : List (List ℕ) → Bool
is_some_word [] = false
is_some_word (word ∷ more) = true
