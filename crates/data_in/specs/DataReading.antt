-- What may stand in the next line of a data text, and what the lines from there on say
use Rattle.std.specs.Prelude.{ℕ, zero, suc, ◌+◌, ◌-◌, nat_le, List, [], ◌∷◌, length, Option, Some, None, Result, Ok, Err, codes, if◌then◌else◌}
use Rattle.std.specs.Str.Lines.{lines}
use Rattle.algebra.specs.Fraction.{Fraction}
use Rattle.mesh_in.specs.Line.{content, has_plain_bytes, words}
use Rattle.mesh_in.specs.MeshText.{keyword, one, at_end}
use Rattle.mesh_in.specs.Number.{number_of}
use Rattle.mesh_in.specs.NumberReading.{coordinate_of}
use Rattle.mesh_in.specs.Options.{◌>>=◌}
use Rattle.data_in.specs.declared.refusal.ValueKind.{ValueKind}
use Rattle.data_in.specs.declared.refusal.ValueKind.TheVariants.{TooLong, Lex, Syntax, Memory}
use Rattle.data_in.specs.declared.refusal.ValueRefusal.{ValueRefusal}
use Rattle.data_in.specs.CoefficientValues.{CoefficientValues}
use Rattle.data_in.specs.DataText.{Row, heading, block, value, longest}

-- one that blames a line, or with 0 the text as a whole
abbrev pub refusal : ValueKind → ℕ → ValueRefusal
refusal kind line = record { kind = kind; line = line }

abbrev pub out_of_memory : ValueRefusal
out_of_memory = refusal Memory 0

-- ---- places
-- what must come: the heading; or the least number of the next block, and how many values before it
pub data Place : Type 0 where
  start : Place
  within : ℕ → ℕ → Place

-- after what a line says; after a line without words nothing changes
abbrev pub next : Place → Option Row → Place
next p None = p
next p (Some heading) = within 0 0
next p (Some (block line number count)) = within (number + 1) count
next start (Some (value x)) = start
next (within low missing) (Some (value x)) = within low (missing - 1)

-- more must come
abbrev pub IsOpen : Place → Type 0
IsOpen start = Unit {0}
IsOpen (within low zero) = ⊥
IsOpen (within low (suc missing)) = Unit {0}

-- ---- the words of a line
-- `data 1`
unfoldable pub heading_in : List (List ℕ) → Option Row
heading_in ws = keyword (codes "data") ws >>= λ ws. keyword (codes "1") ws >>= λ ws. at_end ws heading

-- `coefficient NUMBER COUNT`
unfoldable pub head_in : List (List ℕ) → Option (ℕ × ℕ)
head_in ws = do
  ws ← keyword (codes "coefficient") ws
  number ← one number_of ws
  count ← one number_of number.1
  at_end count.1 (number.0, count.0)

-- one number
unfoldable pub value_in : List (List ℕ) → Option Fraction
value_in ws = one coordinate_of ws >>= λ x. at_end x.1 x.0

abbrev pub block_from : ℕ → ℕ → ℕ × ℕ → Option Row
block_from low line head = if nat_le low head.0 then Some (block line head.0 head.1) else None

-- what the words of the line of this number say, if they may stand at this place
abbrev pub row_at : Place → ℕ → List (List ℕ) → Option Row
row_at start line ws = heading_in ws
row_at (within low zero) line ws = head_in ws >>= block_from low line
row_at (within low (suc missing)) line ws = value_in ws >>= λ x. Some (value x)

abbrev pub said : Option Row → Result (Option Row) ValueKind
said None = Err Syntax
said (Some row) = Ok (Some row)

abbrev pub words_at : Place → ℕ → List (List ℕ) → Result (Option Row) ValueKind
words_at p line [] = Ok None
words_at p line (word ∷ rest) = said (row_at p line (word ∷ rest))

-- what the line of this number says, if it has words
abbrev pub line_at : Place → ℕ → List ℕ → Result (Option Row) ValueKind
line_at p number line = if has_plain_bytes line then words_at p number (words (content line)) else Err Lex

-- ---- the lines
-- the values that the block which is open lacks, and the blocks behind it
pub record Said : Type 0 where
  pub lacking : List Fraction
  pub blocks : List (CoefficientValues Fraction)

abbrev pub Reading : Type 0
Reading = Result Said ValueRefusal

abbrev pub put : Option Row → Said → Said
put None s = s
put (Some heading) s = s
put (Some (block line number count)) s = record {
  lacking = [];
  blocks = record { number = number; line = line; values = s.lacking } ∷ s.blocks;
}
put (Some (value x)) s = record { lacking = x ∷ s.lacking; blocks = s.blocks }

abbrev pub with_row : Option Row → Reading → Reading
with_row row (Ok s) = Ok (put row s)
with_row row (Err e) = Err e

-- at the end of the text, whose last line has this number
abbrev pub ended : ℕ → Place → Reading
ended number start = Err (refusal Syntax number)
ended number (within low zero) = Ok (record { lacking = []; blocks = [] })
ended number (within low (suc missing)) = Err (refusal Syntax number)

-- goes on after the line of this number, unless it is bad
abbrev pub after_line : ℕ → Place → Result (Option Row) ValueKind → (Place → Reading) → Reading
after_line number p (Ok row) rest = with_row row (rest (next p row))
after_line number p (Err kind) rest = Err (refusal kind number)

-- what the rest of the lines says, after so many
unfoldable pub reading : ℕ → Place → List (List ℕ) → Reading
reading number p [] = ended number p
reading number p (line ∷ more) =
    after_line (number + 1) p (line_at p (number + 1) line) (λ q. reading (number + 1) q more)

-- ---- the text
abbrev pub blocks_in : Reading → Result (List (CoefficientValues Fraction)) ValueRefusal
blocks_in (Ok s) = Ok s.blocks
blocks_in (Err e) = Err e

-- the blocks of a text, or the refusal
unfoldable pub meaning : List ℕ → Result (List (CoefficientValues Fraction)) ValueRefusal
meaning text =
    if nat_le (length text) longest then blocks_in (reading 0 start (lines text)) else Err (refusal TooLong 0)
