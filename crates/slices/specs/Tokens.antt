-- The tokens of a text
use Rattle.std.specs.Prelude.{◌≡◌, ℕ, zero, suc, ◌+◌, List, [], ◌∷◌, length, take, drop, Option, Some, None, Result, Ok, Err}
use Rattle.slices.specs.White.{Rest, after_white}
use Rattle.slices.specs.CTable.{c_token}
use Rattle.slices.specs.declared.toks.TokKind.{TokKind}
use Rattle.slices.specs.declared.toks.Tok.{Tok}
use Rattle.slices.specs.declared.toks.LexAt.{LexAt}

-- a token, apart from where it lies in memory
pub record Token : Type 0 where
  pub text : List ℕ
  pub from : ℕ
  pub line : ℕ
  pub kind : TokKind

-- a text, and how far it is read: the place and the line of the next byte
pub record Reader : Type 0 where
  pub source : List ℕ
  pub at : ℕ
  pub line : ℕ

abbrev pub begins : List ℕ → Reader
begins source = record { source = source; at = 0; line = 1 }

abbrev pub rest_of : Reader → Rest
rest_of r = record { bytes = drop r.at r.source; from = r.at; line = r.line }

-- without the white space at the front
unfoldable pub without_white : Rest → Rest
without_white r = after_white r.bytes r.from r.line

-- what comes next: nothing, no token at this place, or a token and what is left behind it
pub data Next : Type 0 where
  finished : Next
  no_token : (from line : ℕ) → Next
  token : Token → Rest → Next

abbrev pub next_by : Option (ℕ × TokKind) → Rest → Next
next_by None r = no_token r.from r.line
next_by (Some t) r =
    token (record { text = take t.0 r.bytes; from = r.from; line = r.line; kind = t.1 })
    (record { bytes = drop t.0 r.bytes; from = r.from + t.0; line = r.line })

abbrev pub next_at : Rest → List ℕ → Next
next_at r [] = finished
next_at r (b ∷ bs) = next_by (c_token (b ∷ bs)) r

unfoldable pub next_of : Rest → Next
next_of r = next_at (without_white r) (without_white r).bytes

abbrev pub token_of : Tok → Token
token_of t = record { text = t.text.now; from = t.from; line = t.line; kind = t.kind }

-- From old on this comes next, and new is how far the text is read then.
abbrev pub IsStep : Reader → Option (Result Tok LexAt) → Reader → Type 0
IsStep old None new = (next_of (rest_of old) ≡ finished) × (next_of (rest_of new) ≡ finished)
IsStep old (Some (Ok t)) new = next_of (rest_of old) ≡ token (token_of t) (rest_of new)
IsStep old (Some (Err e)) new =
    (next_of (rest_of old) ≡ no_token e.from e.line) × (next_of (rest_of new) ≡ no_token e.from e.line)

-- ---- all tokens

abbrev pub ahead_by : (Rest → List Token × Option ℕ) → Next → List Token × Option ℕ
ahead_by more finished = ([], None)
ahead_by more (no_token from line) = ([], Some line)
ahead_by more (token t r) = (t ∷ (more r).0, (more r).1)

-- at most so many tokens
unfoldable pub ahead_within : ℕ → Rest → List Token × Option ℕ
ahead_within zero r = ([], None)
ahead_within (suc n) r = ahead_by (ahead_within n) (next_of r)

-- the tokens from here on, and the line where no token starts, if there is one
unfoldable pub tokens_from : Rest → List Token × Option ℕ
tokens_from r = ahead_within (suc (length r.bytes)) r
