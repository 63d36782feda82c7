-- Which texts stand for a unit
use Rattle.std.specs.Prelude.{◌≡◌, ℕ, List, Option, None, Result, Ok, Err, map}
use Rattle.slices.specs.Tokens.{Token, begins, rest_of, tokens_from}
use Rattle.c_unit.specs.declared.unit.CUnit.{CUnit}
use Rattle.c_text.specs.declared.read.ReadUnit.{ReadUnit}
use Rattle.c_text.specs.declared.refusal.KernelRefusal.{KernelRefusal}
use Rattle.c_text.specs.declared.refusal.KernelKind.TheVariants as kinds
use Rattle.c_text.specs.Pieces.{words_of}
use Rattle.c_text.specs.Layout.{unit_pieces}

-- the tokens of a text, and the line behind them where no token starts, if there is one
unfoldable pub tokens_of : List ℕ → List Token × Option ℕ
tokens_of text = tokens_from (rest_of (begins text))

abbrev pub texts : List Token → List (List ℕ)
texts ts = map (λ t. t.text) ts

-- The text consists of the words and signs of the unit in their order. White space between them is free.
pub record Spells (text : List ℕ) (u : CUnit) : Type 0 where
  pub words : texts (tokens_of text).0 ≡ words_of (unit_pieces u)
  pub nothing_else : (tokens_of text).1 ≡ None

-- The unit is read, unless memory ran out.
abbrev pub IsTaken : Result ReadUnit KernelRefusal → CUnit → Type 0
IsTaken (Ok r) u = r.unit ≡ u
IsTaken (Err e) u = e.kind ≡ kinds.Memory
