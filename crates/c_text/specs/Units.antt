-- Reading functions and units
use Rattle.std.specs.Prelude.{◌≡◌, ℕ, ◌-◌, Bool, true, false, ◌||◌, ◌==◌, nat_lt, if◌then◌else◌, List, [], ◌∷◌, ◌++◌, length, take, drop, Option, Some, None, Result, Ok, Err, bytes_eq, codes}
use Rattle.slices.specs.Tokens.{Token}
use Rattle.c_unit.specs.declared.unit.CFun.{CFun}
use Rattle.c_text.specs.declared.refusal.KernelRefusal.{KernelRefusal}
use Rattle.c_text.specs.declared.refusal.KernelKind.{KernelKind}
use Rattle.c_text.specs.declared.refusal.KernelKind.TheVariants as kinds
use Rattle.c_text.specs.declared.refusal.ReadFault.{ReadFault}
use Rattle.c_text.specs.declared.place.Scope.{Scope}
use Rattle.c_text.specs.declared.read.ReadUnit.{ReadUnit}
use Rattle.c_text.specs.declared.read.ReadFun.{ReadFun}
use Rattle.c_text.specs.Stream.{Stream, Read, ◌>>=◌, refusal, shift, expect, expects, repeat, stream_of, Fails}
use Rattle.c_text.specs.Places.{number_at}
use Rattle.c_text.specs.Fractions.{tables_at}
use Rattle.c_text.specs.Statements.{body_at}

-- the text without the suffix, where it ends in it
unfoldable pub without_suffix : List ℕ → List ℕ → Option (List ℕ)
without_suffix text suffix =
    if nat_lt (length text) (length suffix) then None
    else if bytes_eq (drop (length text - length suffix) text) suffix then Some (take (length text - length suffix) text) else None

abbrev pub is_among : List CFun → List ℕ → Bool
is_among [] name = false
is_among (f ∷ fs) name = bytes_eq f.name name || is_among fs name

abbrev pub new_name : List CFun → Option (List ℕ) → ℕ → Stream → Read (List ℕ)
new_name funs None line s = Err (refusal kinds.Syntax line)
new_name funs (Some name) line s = if length name == 0 then Err (refusal kinds.Syntax line) else if is_among funs name then Err (refusal kinds.Bound line) else Ok (name, s)

-- the name of a function, which no earlier one has, from the first word between the brackets
unfoldable pub name_at : List CFun → Stream → Read (List ℕ)
name_at funs s = do
  t ← shift s
  new_name funs (without_suffix t.0.text (codes "_X")) t.0.line t.1

-- a size from this one on, and at most 2^24
unfoldable pub size_at : ℕ → Stream → Read ℕ
size_at least s = do
  e ← expect (codes "=") s
  n ← number_at e.1
  if nat_lt n.0.0 least || nat_lt 16777216 n.0.0 then Err (refusal kinds.Bound n.0.1) else Ok (n.0.0, n.1)

abbrev pub is_name : List ℕ → Option (List ℕ) → Bool
is_name name None = false
is_name name (Some front) = bytes_eq front name

unfoldable pub named_size_at : List ℕ → List ℕ → ℕ → Stream → Read ℕ
named_size_at name suffix least s = do
  c ← expect (codes ",") s
  t ← shift c.1
  if is_name name (without_suffix t.0.text suffix) then size_at least t.1 else Err (refusal kinds.Syntax t.0.line)

-- a size again
unfoldable pub repeated_at : ℕ → Stream → Read (Unit {0})
repeated_at size s = do
  n ← number_at s
  if n.0.0 == size then Ok (tt, n.1) else Err (refusal kinds.Bound n.0.1)

abbrev pub parameters : List (List ℕ)
parameters =
    codes "(" ∷ codes "const" ∷ codes "fr" ∷ codes "*" ∷ codes "X" ∷ codes "," ∷ codes "const" ∷ codes "fr" ∷ codes "*" ∷ codes "W" ∷ codes "," ∷ codes "fr" ∷ codes "*" ∷ codes "A" ∷ codes ")" ∷ []

unfoldable pub signature_at : List ℕ → Stream → Read (Unit {0})
signature_at name s = do
  i ← expect (codes "int") s
  n ← expect name i.1
  expects parameters n.1

-- "fr_clear" "(" array "," N ")" ";"
unfoldable pub clear_at : List ℕ → ℕ → Stream → Read (Unit {0})
clear_at array size s = do
  o ← expects (codes "fr_clear" ∷ codes "(" ∷ array ∷ codes "," ∷ []) s
  n ← repeated_at size o.1
  expects (codes ")" ∷ codes ";" ∷ []) n.1

unfoldable pub slots_at : ℕ → ℕ → Stream → Read (Unit {0})
slots_at t a s = do
  o ← expects (codes "{" ∷ codes "fr" ∷ codes "T" ∷ codes "[" ∷ []) s
  n ← repeated_at t o.1
  c ← expects (codes "]" ∷ codes ";" ∷ []) n.1
  m ← clear_at (codes "T") t c.1
  clear_at (codes "A") a m.1

-- the end of a function that runs so many statements
unfoldable pub end_at : ℕ → Stream → Read (Unit {0})
end_at count s = do
  r ← expects (codes "return" ∷ codes "0" ∷ codes ";" ∷ []) s
  z ← expect (codes "}") r.1
  if nat_lt 67108864 count then Err (refusal kinds.Bound z.0) else Ok (tt, z.1)

abbrev pub one_turn_each : List ℕ
one_turn_each = 1 ∷ 1 ∷ 1 ∷ 1 ∷ []

-- the name and the sizes
unfoldable pub sizes_at : List CFun → Stream → Read (List ℕ × Scope)
sizes_at funs s = do
  o ← expect (codes "{") s
  n ← name_at funs o.1
  x ← size_at 0 n.1
  w ← named_size_at n.0 (codes "_W") 0 x.1
  t ← named_size_at n.0 (codes "_T") 1 w.1
  a ← named_size_at n.0 (codes "_A") 0 t.1
  z ← expects (codes "}" ∷ codes ";" ∷ []) a.1
  Ok ((n.0, record { x = x.0; w = w.0; t = t.0; a = a.0; turns = one_turn_each; depth = 0 }), z.1)

unfoldable pub function_at : List CFun → Stream → Read ReadFun
function_at funs s = do
  e ← expect (codes "enum") s
  z ← sizes_at funs e.1
  g ← signature_at z.0.0 z.1
  o ← slots_at z.0.1.t z.0.1.a g.1
  k ← tables_at o.1
  b ← body_at 4 z.0.1 k.0 k.1
  r ← end_at b.0.count b.1
  Ok (
    record {
      fun = record { name = z.0.0; x = z.0.1.x; w = z.0.1.w; t = z.0.1.t; a = z.0.1.a; tables = k.0; body = b.0.statements };
      line = e.0;
      lines = b.0.lines;
    },
    r.1,
  )

abbrev pub is_more_by : List Token → Bool
is_more_by [] = false
is_more_by (t ∷ ts) = true

unfoldable pub is_more : Stream → Bool
is_more s = is_more_by s.tokens

abbrev pub with_function : ReadUnit → ReadFun → ReadUnit
with_function u f = record { unit = record { funs = u.unit.funs ++ f.fun ∷ [] }; enums = u.enums ++ f.line ∷ []; lines = u.lines ++ f.lines ∷ [] }

abbrev pub add_function : ReadUnit → Stream → Read ReadUnit
add_function u s = function_at u.unit.funs s >>= λ x. Ok (with_function u x.0, x.1)

abbrev pub no_functions : ReadUnit
no_functions = record { unit = record { funs = [] }; enums = []; lines = [] }

unfoldable pub functions_at : Stream → Read ReadUnit
functions_at s = repeat is_more add_function (length s.tokens) no_functions s

abbrev pub is_lex : KernelKind → Bool
is_lex kinds.Lex = true
is_lex kinds.TooLong = false
is_lex kinds.Syntax = false
is_lex kinds.Slot = false
is_lex kinds.Bound = false
is_lex kinds.Sizes = false
is_lex kinds.Memory = false

abbrev pub fault_by : List Token → KernelRefusal → Option KernelRefusal
fault_by [] end = if is_lex end.kind then Some end else None
fault_by (t ∷ ts) end = None

-- the place behind the last token where no token starts
unfoldable pub fault_at_end : Stream → Option KernelRefusal
fault_at_end s = fault_by s.tokens s.end

-- what was read, unless no token starts at the end
abbrev pub finished : ReadUnit → Option KernelRefusal → Result ReadUnit KernelRefusal
finished u None = Ok u
finished u (Some e) = Err e

-- The unit of a text with the lines of its statements, or the first place where it is refused.
unfoldable pub reading : List ℕ → Result ReadUnit KernelRefusal
reading text =
    if nat_lt 268435456 (length text) then Err (refusal kinds.TooLong 0) else (do
      h ← expects (codes "#include" ∷ codes "\"fr.h\"" ∷ []) (stream_of text)
      u ← functions_at h.1
      finished u.0 (fault_at_end u.1))

-- The same of a fault.
abbrev pub IsRead : Result ReadUnit ReadFault → Result ReadUnit KernelRefusal → Type 0
IsRead (Ok u) read = read ≡ Ok u
IsRead (Err e) read = Fails e read

abbrev pub Refuses : KernelKind → KernelRefusal → Result ReadUnit KernelRefusal → Type 0
Refuses kinds.Memory e read = Unit {0}
Refuses kinds.Lex e read = read ≡ Err e
Refuses kinds.TooLong e read = read ≡ Err e
Refuses kinds.Syntax e read = read ≡ Err e
Refuses kinds.Slot e read = read ≡ Err e
Refuses kinds.Bound e read = read ≡ Err e
Refuses kinds.Sizes e read = read ≡ Err e

-- The answer is what reading gives, unless memory ran out.
abbrev pub Answers : Result ReadUnit KernelRefusal → Result ReadUnit KernelRefusal → Type 0
Answers (Ok u) read = read ≡ Ok u
Answers (Err e) read = Refuses e.kind e read
