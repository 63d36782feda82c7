-- What the place of a refusal says of the text
use Rattle.std.specs.Prelude.{◌≡◌, ℕ, ◌<◌, ◌^◌, ◌⊎◌, List, [], ◌∷◌, ◌++◌, length, Option, Some, None}
use Rattle.slices.specs.Tokens.{Token}
use Rattle.c_unit.specs.declared.unit.CUnit.{CUnit}
use Rattle.c_text.specs.declared.refusal.KernelKind.{KernelKind}
use Rattle.c_text.specs.declared.refusal.KernelKind.TheVariants as kinds
use Rattle.c_text.specs.Stream.{last_line}
use Rattle.c_text.specs.Pieces.{words_of}
use Rattle.c_text.specs.Layout.{unit_pieces}
use Rattle.c_text.specs.Lawful.{MeetsRules}
use Rattle.c_text.specs.Spelling.{Spells, tokens_of, texts}

-- The words of no unit that meets the rules begin with those of these tokens.
abbrev pub BeginsNone : List Token → Type 0
BeginsNone ts = (u : CUnit) (more : List (List ℕ)) → MeetsRules u → words_of (unit_pieces u) ≡ texts ts ++ more → ⊥

-- a token in this line, with which, after those before it, no lawful text begins
abbrev pub IsWrongToken : List ℕ → ℕ → Type 0
IsWrongToken text line = (before : List Token) × (t : Token) × (behind : List Token) × ((tokens_of text).0 ≡ before ++ t ∷ behind) × (line ≡ t.line) × BeginsNone (before ++ t ∷ [])

-- the last line of a text of tokens alone, which spells no lawful unit
abbrev pub IsEarlyEnd : List ℕ → ℕ → Type 0
IsEarlyEnd text line = ((tokens_of text).1 ≡ None) × (line ≡ last_line text) × ((u : CUnit) → MeetsRules u → Spells text u → ⊥)

abbrev pub IsPlace : KernelKind → List ℕ → ℕ → Type 0
IsPlace kinds.TooLong text line = (2 ^ 28 < length text) × (line ≡ 0)
IsPlace kinds.Lex text line = (tokens_of text).1 ≡ Some line
IsPlace kinds.Syntax text line = IsWrongToken text line ⊎ IsEarlyEnd text line
IsPlace kinds.Slot text line = IsWrongToken text line
IsPlace kinds.Bound text line = IsWrongToken text line
IsPlace kinds.Sizes text line = ⊥
IsPlace kinds.Memory text line = Unit {0}
