-- Reading statements
use Rattle.std.specs.Prelude.{ℕ, zero, suc, ◌+◌, ◌*◌, min, Bool, true, false, ◌&&◌, ◌||◌, ◌==◌, if◌then◌else◌, List, [], ◌∷◌, ◌++◌, length, slice_get, slice_set, Option, Some, None, Ok, Err, codes}
use Rattle.ratio.specs.declared.reduced.Ratio.{Ratio}
use Rattle.slices.specs.Tokens.{Token}
use Rattle.c_unit.specs.declared.unit.Array.TheVariants.{T}
use Rattle.c_unit.specs.declared.unit.Place.{Place}
use Rattle.c_unit.specs.declared.unit.CStmt.{CStmt, Set, Copy, Abs, Inv, Add, Sub, Mul, Load}
use Rattle.c_unit.specs.declared.unit.CStmt.TheViews as View
use Rattle.c_text.specs.declared.refusal.KernelKind.TheVariants as kinds
use Rattle.c_text.specs.declared.place.Scope.{Scope}
use Rattle.c_text.specs.declared.statement.Body.{Body}
use Rattle.c_text.specs.declared.statement.Line.{Line}
use Rattle.c_text.specs.Stream.{Stream, Read, ◌>>=◌, refusal, shift, expect, expects, repeat, is_ahead}
use Rattle.c_text.specs.Numbers.{table_value, counter_value}
use Rattle.c_text.specs.Places.{number_at, slot_at, target_at, source_at}
use Rattle.c_text.specs.Fractions.{fraction_at, is_number}

-- ---- calls

unfoldable pub set_at : Scope → Stream → Read CStmt
set_at scope s = do
  o ← expects (codes "fr_set" ∷ codes "(" ∷ []) s
  to ← target_at scope o.1
  c ← expect (codes ",") to.1
  v ← fraction_at c.1
  z ← expects (codes ")" ∷ codes ";" ∷ []) v.1
  Ok (Set to.0 v.0, z.1)

-- this word, and the target and the argument behind it
unfoldable pub pair_at : List ℕ → Scope → Stream → Read (Place × Place)
pair_at word scope s = do
  o ← expects (word ∷ codes "(" ∷ []) s
  to ← target_at scope o.1
  c ← expect (codes ",") to.1
  p ← source_at scope c.1
  Ok ((to.0, p.0), p.1)

unfoldable pub copy_at : Scope → Stream → Read CStmt
copy_at scope s = do
  p ← pair_at (codes "fr_copy") scope s
  z ← expects (codes ")" ∷ codes ";" ∷ []) p.1
  Ok (Copy p.0.0 p.0.1, z.1)

unfoldable pub abs_at : Scope → Stream → Read CStmt
abs_at scope s = do
  p ← pair_at (codes "fr_abs") scope s
  z ← expects (codes ")" ∷ codes ";" ∷ []) p.1
  Ok (Abs p.0.0 p.0.1, z.1)

unfoldable pub inverse_at : Scope → Stream → Read CStmt
inverse_at scope s = do
  p ← pair_at (codes "fr_inv") scope s
  z ← expects (codes ")" ∷ codes ")" ∷ codes "return" ∷ codes "2" ∷ codes ";" ∷ []) p.1
  Ok (Inv p.0.0 p.0.1, z.1)

-- this word, and the target and two arguments behind it
unfoldable pub triple_at : List ℕ → Scope → Stream → Read (Place × Place × Place)
triple_at word scope s = do
  p ← pair_at word scope s
  c ← expect (codes ",") p.1
  q ← source_at scope c.1
  z ← expects (codes ")" ∷ codes ")" ∷ codes "return" ∷ codes "1" ∷ codes ";" ∷ []) q.1
  Ok ((p.0.0, p.0.1, q.0), z.1)

unfoldable pub add_at : Scope → Stream → Read CStmt
add_at scope s = do
  t ← triple_at (codes "fr_add") scope s
  Ok (Add t.0.0 t.0.1 t.0.2, t.1)

unfoldable pub sub_at : Scope → Stream → Read CStmt
sub_at scope s = do
  t ← triple_at (codes "fr_sub") scope s
  Ok (Sub t.0.0 t.0.1 t.0.2, t.1)

unfoldable pub mul_at : Scope → Stream → Read CStmt
mul_at scope s = do
  t ← triple_at (codes "fr_mul") scope s
  Ok (Mul t.0.0 t.0.1 t.0.2, t.1)

-- a call that may end the run, behind `if (`
unfoldable pub step_call_at : Scope → Stream → Read CStmt
step_call_at scope s =
    if is_ahead (codes "fr_add") s then add_at scope s else if is_ahead (codes "fr_sub") s then sub_at scope s else if is_ahead (codes "fr_mul") s then mul_at scope s
    else inverse_at scope s

unfoldable pub test_at : Scope → Stream → Read CStmt
test_at scope s = do
  o ← expects (codes "if" ∷ codes "(" ∷ []) s
  step_call_at scope o.1

abbrev pub with_size : ℕ → Option (List Ratio) → Option (ℕ × ℕ)
with_size k None = None
with_size k (Some t) = Some (k, length t)

abbrev pub table_of : List (List Ratio) → Option ℕ → Option (ℕ × ℕ)
table_of tables None = None
table_of tables (Some k) = with_size k (slice_get tables k)

abbrev pub table_by : Option (ℕ × ℕ) → ℕ → Stream → Read (ℕ × ℕ)
table_by None line s = Err (refusal kinds.Syntax line)
table_by (Some k) line s = Ok (k, s)

-- a table of the function: its number and its size
unfoldable pub table_used_at : List (List Ratio) → Stream → Read (ℕ × ℕ)
table_used_at tables s = do
  t ← shift s
  table_by (table_of tables (table_value t.0.text)) t.0.line t.1

unfoldable pub load_at : Scope → List (List Ratio) → Stream → Read CStmt
load_at scope tables s = do
  o ← expects (codes "fr_load" ∷ codes "(" ∷ codes "&" ∷ codes "T" ∷ codes "[" ∷ []) s
  to ← slot_at scope scope.t o.1
  m ← expects (codes "]" ∷ codes "," ∷ codes "&" ∷ []) to.1
  k ← table_used_at tables m.1
  b ← expect (codes "[") k.1
  at ← slot_at scope k.0.1 b.1
  z ← expects (codes "]" ∷ codes ")" ∷ codes ";" ∷ []) at.1
  Ok (Load (record { array = T; slot = to.0 }) k.0.0 at.0, z.1)

unfoldable pub call_at : Scope → List (List Ratio) → Stream → Read CStmt
call_at scope tables s =
    if is_ahead (codes "fr_set") s then set_at scope s else if is_ahead (codes "fr_copy") s then copy_at scope s else if is_ahead (codes "fr_abs") s then abs_at scope s
    else if is_ahead (codes "fr_load") s then load_at scope tables s else test_at scope s

-- ---- loops

-- the counter of a loop at this depth
unfoldable pub own_counter_at : ℕ → Stream → Read (Unit {0})
own_counter_at depth s = do
  t ← shift s
  if is_number depth (counter_value t.0.text) then Ok (tt, t.1) else Err (refusal kinds.Syntax t.0.line)

unfoldable pub turns_at : Stream → Read ℕ
turns_at s = do
  n ← number_at s
  if n.0.0 == 0 then Err (refusal kinds.Bound n.0.1) else Ok (n.0.0, n.1)

-- the header of a loop: its number of turns
unfoldable pub header_at : ℕ → Stream → Read ℕ
header_at depth s = do
  o ← expects (codes "for" ∷ codes "(" ∷ codes "int" ∷ []) s
  i ← own_counter_at depth o.1
  e ← expects (codes "=" ∷ codes "0" ∷ codes ";" ∷ []) i.1
  j ← own_counter_at depth e.1
  l ← expect (codes "<") j.1
  n ← turns_at l.1
  m ← expect (codes ";") n.1
  k ← own_counter_at depth m.1
  z ← expects (codes "++" ∷ codes ")" ∷ codes "{" ∷ []) k.1
  Ok (n.0, z.1)

-- one more than a function may run, and everything above it
abbrev pub capped : ℕ → ℕ
capped n = min n 67108865

abbrev pub inside : Scope → ℕ → Scope
inside scope turns = record scope { turns = slice_set scope.turns scope.depth turns; depth = scope.depth + 1 }

abbrev pub Bodies : Type 0
Bodies = Scope → List (List Ratio) → Stream → Read Body

-- the line of the next token
abbrev pub line_of_first : List Token → ℕ
line_of_first [] = 0
line_of_first (t ∷ ts) = t.line

unfoldable pub line_ahead : Stream → ℕ
line_ahead s = line_of_first s.tokens

unfoldable pub loop_by : Bodies → ℕ → Scope → List (List Ratio) → Stream → Read Line
loop_by bodies line scope tables s = do
  n ← header_at scope.depth s
  b ← bodies (inside scope n.0) tables n.1
  c ← expect (codes "}") b.1
  Ok (record { statement = View.For n.0 b.0.statements; lines = line ∷ b.0.lines; count = capped (b.0.count * n.0) }, c.1)

unfoldable pub call_line_at : ℕ → Scope → List (List Ratio) → Stream → Read Line
call_line_at line scope tables s = do
  c ← call_at scope tables s
  Ok (record { statement = c.0; lines = line ∷ []; count = 1 }, c.1)

-- a statement, where `loops` says whether it may be a loop, with these bodies
unfoldable pub line_by : Bool → Bodies → Scope → List (List Ratio) → Stream → Read Line
line_by loops bodies scope tables s =
    if loops && is_ahead (codes "for") s then loop_by bodies (line_ahead s) scope tables s else call_line_at (line_ahead s) scope tables s

unfoldable pub is_call : Stream → Bool
is_call s =
    is_ahead (codes "fr_set") s || (is_ahead (codes "fr_copy") s || (is_ahead (codes "fr_abs") s || (is_ahead (codes "fr_load") s || is_ahead (codes "if") s)))

abbrev pub is_statement : Bool → Stream → Bool
is_statement loops s = is_call s || (loops && is_ahead (codes "for") s)

abbrev pub no_body : Body
no_body = record { statements = []; lines = []; count = 0 }

abbrev pub with_line : Body → Line → Body
with_line b l = record { statements = b.statements ++ l.statement ∷ []; lines = b.lines ++ l.lines; count = capped (b.count + l.count) }

abbrev pub add_line : (Scope → List (List Ratio) → Stream → Read Line) → Scope → List (List Ratio) → Body → Stream → Read Body
add_line line scope tables b s = line scope tables s >>= λ x. Ok (with_line b x.0, x.1)

-- statements, where `loops` says whether there may be loops, with these bodies
abbrev pub body_by : Bool → Bodies → Bodies
body_by loops bodies scope tables s = repeat (is_statement loops) (add_line (line_by loops bodies) scope tables) (length s.tokens) no_body s

abbrev pub no_bodies : Bodies
no_bodies scope tables s = Ok (no_body, s)

-- statements with loops in one another, at most so many
unfoldable pub body_at : ℕ → Bodies
body_at zero scope tables s = body_by false no_bodies scope tables s
body_at (suc room) scope tables s = body_by true (body_at room) scope tables s

-- one of them
unfoldable pub line_at : ℕ → Scope → List (List Ratio) → Stream → Read Line
line_at zero scope tables s = line_by false no_bodies scope tables s
line_at (suc room) scope tables s = line_by true (body_at room) scope tables s
