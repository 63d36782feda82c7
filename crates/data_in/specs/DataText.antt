-- The grammar of data texts: a relation between the lines of a text and blocks of values
use Rattle.std.specs.Prelude.{◌≡◌, ℕ, ◌+◌, ◌≤◌, true, List, [], ◌∷◌, ◌++◌, length, map, codes}
use Rattle.std.specs.List.{AllByRecursion, AllZip}
use Rattle.std.specs.Str.Lines.{lines}
use Rattle.algebra.specs.Fraction.{Fraction}
use Rattle.mesh_in.specs.Line.{content, has_plain_bytes, words}
use Rattle.mesh_in.specs.MeshGrammar.{StandsFor, IsNatural}
use Rattle.data_in.specs.declared.read.TheConstants.{DATA_LIMIT}
use Rattle.data_in.specs.CoefficientValues.{CoefficientValues, AreRising}

-- ---- lines with words
pub record NumberedWords : Type 0 where
  -- of the text, from 1
  pub line : ℕ
  pub words : List (List ℕ)

-- the words of a line before those of the lines behind it, if it has any
abbrev pub before : ℕ → List (List ℕ) → List NumberedWords → List NumberedWords
before n [] more = more
before n (word ∷ rest) more = record { line = n; words = word ∷ rest } ∷ more

-- the words of each line that has any, where so many lines stand before them
abbrev pub word_lines : ℕ → List (List ℕ) → List NumberedWords
word_lines n [] = []
word_lines n (line ∷ more) = before (n + 1) (words (content line)) (word_lines (n + 1) more)

-- ---- what a line says
pub data Row : Type 0 where
  -- `data 1`
  heading : Row
  -- `coefficient NUMBER COUNT`, with the number of the line
  block : ℕ → ℕ → ℕ → Row
  -- one value
  value : Fraction → Row

pub record IsBlock (w : NumberedWords) (line number count : ℕ) : Type 0 where
  pub number_word : List ℕ
  pub count_word : List ℕ
  pub words_are : w.words ≡ codes "coefficient" ∷ (number_word ∷ (count_word ∷ []))
  pub is_number : IsNatural number_word number
  pub is_count : IsNatural count_word count
  pub line_is : line ≡ w.line

pub record IsValue (w : NumberedWords) (x : Fraction) : Type 0 where
  pub word : List ℕ
  pub words_are : w.words ≡ word ∷ []
  pub stands_for : StandsFor word x

abbrev pub Says : NumberedWords → Row → Type 0
Says w heading = w.words ≡ codes "data" ∷ (codes "1" ∷ [])
Says w (block line number count) = IsBlock w line number count
Says w (value x) = IsValue w x

-- ---- the text
-- the lines of blocks, one block after the other: the line that begins it, and one line for each value
abbrev pub rows_of : List (CoefficientValues Fraction) → List Row
rows_of [] = []
rows_of (b ∷ bs) = block b.line b.number (length b.values) ∷ (map value b.values ++ rows_of bs)

abbrev pub longest : ℕ
longest = DATA_LIMIT

-- the text is that of these blocks
pub record IsDataText (text : List ℕ) (blocks : List (CoefficientValues Fraction)) : Type 0 where
  pub short : length text ≤ longest
  pub plain : AllByRecursion (λ line. has_plain_bytes line ≡ true) (lines text)
  pub says : AllZip Says (word_lines 0 (lines text)) (heading ∷ rows_of blocks)
  pub rising : AreRising 0 blocks
