-- The tokens that are still to be read, and how reading goes on
use Rattle.std.specs.Prelude.{◌≡◌, ℕ, zero, suc, ◌+◌, ◌-◌, Bool, ◌==◌, if◌then◌else◌, List, [], ◌∷◌, length, take, count_by, Option, Some, None, Result, Ok, Err, bytes_eq}
use Rattle.slices.specs.White.{Rest}
use Rattle.slices.specs.Tokens.{Token, begins, rest_of, token_of, tokens_from}
use Rattle.slices.specs.declared.toks.Tok.{Tok}
use Rattle.c_text.specs.declared.refusal.KernelKind.{KernelKind}
use Rattle.c_text.specs.declared.refusal.KernelKind.TheVariants as kinds
use Rattle.c_text.specs.declared.refusal.KernelRefusal.{KernelRefusal}
use Rattle.c_text.specs.declared.refusal.ReadFault.{ReadFault}
use Rattle.c_text.specs.declared.refusal.ReadFault.TheVariants as faults

-- the tokens, and what is wrong where one more is wanted
pub record Stream : Type 0 where
  pub tokens : List Token
  pub end : KernelRefusal

abbrev pub refusal : KernelKind → ℕ → KernelRefusal
refusal kind line = record { kind = kind; line = line }

-- the line of the last byte; 0 for the empty text
abbrev pub last_line : List ℕ → ℕ
last_line text = if length text == 0 then 0 else 1 + count_by (λ b. b == 10) (take (length text - 1) text)

-- Where no token starts, the text is refused there, and else at its last line.
abbrev pub end_by : Option ℕ → KernelRefusal → KernelRefusal
end_by None end = end
end_by (Some line) end = refusal kinds.Lex line

abbrev pub stream_at : Rest → KernelRefusal → Stream
stream_at rest end = record { tokens = (tokens_from rest).0; end = end_by (tokens_from rest).1 end }

unfoldable pub stream_of : List ℕ → Stream
stream_of text = stream_at (rest_of (begins text)) (refusal kinds.Syntax (last_line text))

-- the same where one token is read ahead
unfoldable pub stream_behind : Option Tok → Rest → KernelRefusal → Stream
stream_behind None rest end = record { tokens = []; end = end }
stream_behind (Some t) rest end = record { tokens = token_of t ∷ (stream_at rest end).tokens; end = (stream_at rest end).end }

-- ---- reading

-- a value and what is left to read, or the refusal
abbrev pub Read : Type 0 → Type 0
Read A = Result (A × Stream) KernelRefusal

infixl 10 ◌>>=◌
abbrev pub ◌>>=◌ : {A B : Type 0} → Result A KernelRefusal → (A → Result B KernelRefusal) → Result B KernelRefusal
(Ok x) >>= f = f x
(Err e) >>= f = Err e

abbrev pub Fails : {Y : Type 0} → ReadFault → Result Y KernelRefusal → Type 0
Fails faults.Memory read = Unit {0}
Fails (faults.Refused e) read = read ≡ Err e

-- What a function returned, seen by view, and the stream that it left are what reading gives, unless memory ran out.
abbrev pub Gives : {X Y : Type 0} → (X → Y) → Result X ReadFault → Stream → Read Y → Type 0
Gives view (Ok x) new read = read ≡ Ok (view x, new)
Gives view (Err e) new read = Fails e read

-- ---- single tokens

abbrev pub shift_by : List Token → KernelRefusal → Read Token
shift_by [] end = Err end
shift_by (t ∷ ts) end = Ok (t, record { tokens = ts; end = end })

-- the next token
unfoldable pub shift : Stream → Read Token
shift s = shift_by s.tokens s.end

abbrev pub text_ahead_by : List Token → List ℕ
text_ahead_by [] = []
text_ahead_by (t ∷ ts) = t.text

-- the text of the next token; empty at the end
unfoldable pub text_ahead : Stream → List ℕ
text_ahead s = text_ahead_by s.tokens

-- this word or sign; the value is its line
unfoldable pub expect : List ℕ → Stream → Read ℕ
expect word s = do
  t ← shift s
  if bytes_eq t.0.text word then Ok (t.0.line, t.1) else Err (refusal kinds.Syntax t.0.line)

-- these words and signs
unfoldable pub expects : List (List ℕ) → Stream → Read (Unit {0})
expects [] s = Ok (tt, s)
expects (w ∷ ws) s = do
  t ← expect w s
  expects ws t.1

-- As long as the test holds of what there is and what is ahead, one more is read on top, at most so many times.
unfoldable pub repeat_while : {A : Type 0} → (A → Stream → Bool) → (A → Stream → Read A) → ℕ → A → Stream → Read A
repeat_while more one zero a s = Ok (a, s)
repeat_while more one (suc n) a s = if more a s then (one a s >>= λ x. repeat_while more one n x.0 x.1) else Ok (a, s)

-- the same where the test is of what is ahead alone
abbrev pub repeat : {A : Type 0} → (Stream → Bool) → (A → Stream → Read A) → ℕ → A → Stream → Read A
repeat more one n a s = repeat_while (λ _ s. more s) one n a s

-- the next token is this one
abbrev pub is_ahead : List ℕ → Stream → Bool
is_ahead word s = bytes_eq (text_ahead s) word
