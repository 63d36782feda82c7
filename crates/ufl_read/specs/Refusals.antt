-- Why a form file is refused
use Rattle.std.specs.Prelude.{◌≡◌, ◌<◌, ◌≤◌, ◌⊎◌, ℕ, Bool, true, false, if◌then◌else◌, length, take, drop, List, [], ◌∷◌, ◌++◌, Option, Some, None}
use Rattle.slices.specs.declared.toks.Tok.{Tok}
use Rattle.slices.specs.declared.toks.LexAt.{LexAt}
use Rattle.slices.specs.FormTokens.{Scan, form_begins}
use Rattle.slices.specs.declared.form_toks.TheConstants.{FORM_LIMIT}
use Rattle.ufl_syntax.specs.declared.class.Class.{Class}
use Rattle.ufl_syntax.specs.declared.class.Class.TheVariants as k
use Rattle.ufl_syntax.specs.declared.class.Lexeme.{Lexeme}
use Rattle.ufl_syntax.specs.declared.tree.Stmt.{Stmt}
use Rattle.ufl_syntax.specs.Grammar.{File}
use Rattle.ufl_syntax.specs.Classes.{lexemes}
use Rattle.ufl_syntax.specs.Refusal.{Begins, IsRefused, IsWrong, IsTooDeep}
use Rattle.ufl_read.specs.declared.statements.TheConstants.{DEPTH_LIMIT}
use Rattle.ufl_read.specs.declared.tokens.Fault.{Fault}
use Rattle.ufl_read.specs.declared.tokens.Fault.TheVariants as f
use Rattle.ufl_read.specs.declared.refusal.FormKind.{FormKind}
use Rattle.ufl_read.specs.declared.refusal.FormKind.TheVariants as r
use Rattle.ufl_read.specs.declared.refusal.FormRefusal.{FormRefusal}

-- the number of a kind in messages
abbrev pub kind_number : FormKind → Option ℕ
kind_number r.TooLong = Some 1
kind_number r.Lex = Some 2
kind_number r.Deep = Some 3
kind_number r.Syntax = Some 4
kind_number r.Unsupported = Some 5
kind_number r.UnknownName = Some 6
kind_number r.Kind = Some 7
kind_number r.Shape = Some 8
kind_number r.FreeIndex = Some 9
kind_number r.NumberRange = Some 10
kind_number r.Nodes = Some 11
kind_number r.Arity = Some 12
kind_number r.Cost = Some 13
kind_number r.Size = Some 14
kind_number r.NoForm = Some 15
kind_number r.Memory = None

abbrev pub line_or : Option ℕ → ℕ → ℕ
line_or None own = own
line_or (Some line) own = line

-- the line of the first token of a statement, behind one more token: none behind the end of a line
abbrev pub line_started : Option ℕ → Class → ℕ → Option ℕ
line_started line k.End own = None
line_started line _ own = Some (line_or line own)

abbrev pub started : Option ℕ → List Lexeme → Option ℕ
started line [] = line
started line (t ∷ ts) = started (line_started line t.class t.line) ts

-- The line on which the statement behind these tokens begins: that of the first token behind the last end of a line,
-- and its own where there is none.
unfoldable pub statement_line : List Lexeme → ℕ → ℕ
statement_line front own = line_or (started None front) own

abbrev pub wordless : FormKind → ℕ → FormRefusal
wordless kind line = record { kind = kind; line = line; from = 0; len = 0 }

-- keywords, `:` and `...`
abbrev pub is_foreign : Class → Bool
is_foreign k.From = true
is_foreign k.Import = true
is_foreign k.Foreign = true
is_foreign _ = false

-- a token that can't stand there: it is the refused word where it is of Python and not of this language
abbrev pub wrong_at : List Lexeme → Lexeme → FormRefusal
wrong_at front bad =
    if is_foreign bad.class
    then record { kind = r.Unsupported; line = statement_line front bad.line; from = bad.span.from; len = bad.span.len }
    else wordless r.Syntax (statement_line front bad.line)

abbrev pub IsFile : List ℕ → List Stmt → Type 0
IsFile text sts = (length text ≤ FORM_LIMIT) × (ts : List Tok) × Scan (form_begins text) ts None
    × File DEPTH_LIMIT (lexemes ts) sts []

-- Why a file that isn't too long is refused, wherever memory lasts. The tokens of a whole file never end too early,
-- since the last of them ends a line:
-- where a bracket is open or a statement lacks its rest, that last token is the refused one.
pub data IsUnread : List ℕ → FormRefusal → Type 0 where
  -- no token starts behind these, which can be gone on with
  no_token : {text : List ℕ} (ts : List Tok) (e : LexAt) → Scan (form_begins text) ts (Some e)
      → Begins DEPTH_LIMIT (lexemes ts) → IsUnread text (wordless r.Lex (statement_line (lexemes ts) e.line))
  wrong_token : {text : List ℕ} {ts : List Tok}
      {e : Option LexAt} (front : List Lexeme) (bad : Lexeme) (after : List Lexeme)
      → Scan (form_begins text) ts e → lexemes ts ≡ front ++ bad ∷ after → IsRefused DEPTH_LIMIT front bad
      → IsWrong DEPTH_LIMIT front bad → IsUnread text (wrong_at front bad)
  too_deep : {text : List ℕ} {ts : List Tok}
      {e : Option LexAt} (front : List Lexeme) (bad : Lexeme) (after : List Lexeme)
      → Scan (form_begins text) ts e → lexemes ts ≡ front ++ bad ∷ after → IsRefused DEPTH_LIMIT front bad
      → IsTooDeep DEPTH_LIMIT front bad → IsUnread text (wordless r.Deep (statement_line front bad.line))

-- why a file is refused, wherever memory lasts
abbrev pub IsRefusedFile : List ℕ → FormRefusal → Type 0
IsRefusedFile text e = ((FORM_LIMIT < length text) × (e ≡ wordless r.TooLong 0))
    ⊎ ((length text ≤ FORM_LIMIT) × IsUnread text e)

abbrev pub IsFormRefusal : List ℕ → FormRefusal → Type 0
IsFormRefusal text e = (e ≡ wordless r.Memory 0) ⊎ IsRefusedFile text e

-- the same, from what the reader of tokens says
abbrev pub wrong_by : List Lexeme → List Lexeme → FormRefusal
wrong_by front [] = wordless r.Syntax 0
wrong_by front (bad ∷ after) = wrong_at front bad

abbrev pub deep_by : List Lexeme → List Lexeme → FormRefusal
deep_by front [] = wordless r.Deep 0
deep_by front (bad ∷ after) = wordless r.Deep (statement_line front bad.line)

abbrev pub refusal_for : List Lexeme → Fault → Option LexAt → FormRefusal
refusal_for ts f.Memory e = wordless r.Memory 0
refusal_for ts f.Short None = wordless r.Syntax (statement_line ts 0)
refusal_for ts f.Short (Some e) = wordless r.Lex (statement_line ts e.line)
refusal_for ts (f.Wrong at) e = wrong_by (take at ts) (drop at ts)
refusal_for ts (f.Deep at) e = deep_by (take at ts) (drop at ts)
