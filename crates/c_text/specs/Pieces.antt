-- A text as pieces: words of the language, and white space between them
use Rattle.std.specs.Prelude.{ℕ, List, [], ◌∷◌, ◌++◌, codes}

-- White space, a word (a name, a keyword, a number, `"fr.h"` or `#include`) or a sign.
pub data Piece : Type 0 where
  Gap : List ℕ → Piece
  Solid : List ℕ → Piece
  Sign : List ℕ → Piece

abbrev pub bytes_of : Piece → List ℕ
bytes_of (Gap bs) = bs
bytes_of (Solid bs) = bs
bytes_of (Sign bs) = bs

-- the text that the pieces make up
abbrev pub text_of : List Piece → List ℕ
text_of [] = []
text_of (p ∷ ps) = bytes_of p ++ text_of ps

abbrev pub words_after : Piece → List (List ℕ) → List (List ℕ)
words_after (Gap bs) words = words
words_after (Solid bs) words = bs ∷ words
words_after (Sign bs) words = bs ∷ words

-- the words and signs among them
abbrev pub words_of : List Piece → List (List ℕ)
words_of [] = []
words_of (p ∷ ps) = words_after p (words_of ps)

abbrev pub blank : Piece
blank = Gap (codes " ")

abbrev pub feed : Piece
feed = Gap (codes "\n")
