-- The tokens of a form file
use Rattle.std.specs.Prelude.{◌≡◌, ◌≤◌, ℕ, ◌+◌, ◌*◌, ◌-◌, Bool, true, false, not, length, ◌||◌, ◌==◌, nat_lt, if◌then◌else◌, List, [], ◌∷◌, take, drop, Option, Some, None, Result, Ok, Err}
use Rattle.slices.specs.FormGap.{Spot, spot, blanks, after_gap}
use Rattle.slices.specs.FormTable.{form_token}
use Rattle.slices.specs.Tokens.{Token, token_of}
use Rattle.slices.specs.declared.toks.TokKind.{TokKind}
use Rattle.slices.specs.declared.toks.TokKind.TheVariants.{End}
use Rattle.slices.specs.declared.toks.Tok.{Tok}
use Rattle.slices.specs.declared.toks.LexAt.{LexAt}

-- a form file, and how far it is read: the place and the line of the next byte, how many brackets are open, and
-- whether the statement has a token
pub record FormReader : Type 0 where
  pub source : List ℕ
  pub at : ℕ
  pub line : ℕ
  pub depth : ℕ
  pub begun : Bool

abbrev pub form_begins : List ℕ → FormReader
form_begins source = record { source = source; at = 0; line = 1; depth = 0; begun = false }

-- whether a line feed ends no statement: it has no token, or a bracket is open
abbrev pub quiet_at : Bool → ℕ → Bool
quiet_at begun depth = not begun || nat_lt 0 depth

-- ( [ open a bracket, and ) ] close one
abbrev pub depth_after : ℕ → ℕ → ℕ
depth_after b d = if b == 40 || b == 91 then d + 1 else if b == 41 || b == 93 then d - 1 else d

-- what comes next: nothing, no token at this place, or a token and how far the text is read then
pub data FormNext : Type 0 where
  finished : FormNext
  no_token : (from line : ℕ) → FormNext
  token : Token → FormReader → FormNext

-- so many bytes from a place on, as a token
abbrev pub token_at : List ℕ → Spot → ℕ → TokKind → Token
token_at bytes p n kind = record { text = take n bytes; from = p.at; line = p.line; kind = kind }

-- the end of a logical line, behind which the text goes on there
abbrev pub line_end : FormReader → Spot → ℕ → List ℕ → Spot → FormNext
line_end r p n bytes q = token (token_at bytes p n End) (record r { at = q.at; line = q.line; begun = false })

abbrev pub next_by : FormReader → Spot → ℕ → List ℕ → Option (ℕ × TokKind) → FormNext
next_by r p b bytes None = no_token p.at p.line
next_by r p b bytes (Some t) =
    token (token_at bytes p t.0 t.1) (record r { at = p.at + t.0; line = p.line; depth = depth_after b r.depth; begun = true })

abbrev pub next_at : FormReader → Spot → List ℕ → FormNext
next_at r p [] = if r.begun then line_end r p 0 [] p else finished
next_at r p (b ∷ bs) =
    if b == 10 then line_end r p 1 (b ∷ bs) (spot (p.at + 1) (p.line + 1)) else
    next_by r p b (b ∷ bs) (form_token (b ∷ bs))

unfoldable pub gap_end : FormReader → Spot
gap_end r = after_gap blanks (quiet_at r.begun r.depth) (drop r.at r.source) r.at r.line

unfoldable pub form_next : FormReader → FormNext
form_next r = next_at r (gap_end r) (drop (gap_end r).at r.source)

-- From old on this comes next, and new is how far the text is read then; where nothing comes, no further than before.
abbrev pub IsFormStep : FormReader → Option (Result Tok LexAt) → FormReader → Type 0
IsFormStep old None new = (form_next old ≡ finished) × (new ≡ old)
IsFormStep old (Some (Ok t)) new = form_next old ≡ token (token_of t) new
IsFormStep old (Some (Err e)) new = (form_next old ≡ no_token e.from e.line) × (new ≡ old)

-- How much is still to be read: twice the bytes, and one more where the end of the text would end a statement.
abbrev pub unread : FormReader → ℕ
unread r = 2 * (length r.source - r.at) + (if r.begun then 1 else 0)

-- the tokens of a form file from here on, and the place where no token starts, if there is one
pub data Scan : FormReader → List Tok → Option LexAt → Type 0 where
  no_more : {r : FormReader} → form_next r ≡ finished → Scan r [] None
  lost : {r : FormReader} {e : LexAt} → form_next r ≡ no_token e.from e.line → Scan r [] (Some e)
  one_more : {r : FormReader} {t : Tok} {q : FormReader} {ts : List Tok} {e : Option LexAt}
      → form_next r ≡ token (token_of t) q → Scan q ts e → Scan r (t ∷ ts) e

-- so many bytes are what stands at a place of a text
abbrev pub IsCutAt : List ℕ → ℕ → List ℕ → Type 0
IsCutAt source from bytes = (from + length bytes ≤ length source) × (bytes ≡ take (length bytes) (drop from source))

-- the text of a token is what stands at its place
abbrev pub IsCut : List ℕ → Tok → Type 0
IsCut source t = IsCutAt source t.from t.text.now
