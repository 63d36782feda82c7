-- Reading numbers, slots and places
use Rattle.std.specs.Prelude.{ℕ, ◌+◌, Bool, true, false, ◌&&◌, ◌==◌, nat_le, nat_lt, if◌then◌else◌, List, [], ◌∷◌, length, slice_set, Option, Some, None, Ok, Err, bytes_eq, codes}
use Rattle.c_unit.specs.declared.unit.Array.{Array}
use Rattle.c_unit.specs.declared.unit.Array.TheVariants.{X, W, T, A}
use Rattle.c_unit.specs.declared.unit.Slot.{Slot}
use Rattle.c_unit.specs.declared.unit.Place.{Place}
use Rattle.c_unit.specs.Rules.{greatest}
use Rattle.c_text.specs.declared.refusal.KernelKind.TheVariants as kinds
use Rattle.c_text.specs.declared.place.Scope.{Scope}
use Rattle.c_text.specs.declared.place.Steps.{Steps}
use Rattle.c_text.specs.Stream.{Stream, Read, ◌>>=◌, refusal, shift, expect, repeat_while, is_ahead}
use Rattle.c_text.specs.Numbers.{small_value, counter_value}

-- a value and the line of its token; Syntax where there is none
abbrev pub required : {A : Type 0} → Option A → ℕ → Stream → Read (A × ℕ)
required None line s = Err (refusal kinds.Syntax line)
required (Some x) line s = Ok ((x, line), s)

-- a number below 2^32
unfoldable pub number_at : Stream → Read (ℕ × ℕ)
number_at s = do
  t ← shift s
  required (small_value t.0.text) t.0.line t.1

abbrev pub counter_between : ℕ → ℕ → Option ℕ → Option ℕ
counter_between from depth None = None
counter_between from depth (Some c) = if nat_le from c && nat_lt c depth then Some c else None

-- a counter of an enclosing loop, from this one on
unfoldable pub counter_at : ℕ → ℕ → Stream → Read (ℕ × ℕ)
counter_at from depth s = do
  t ← shift s
  required (counter_between from depth (counter_value t.0.text)) t.0.line t.1

-- a number of 1 or more
unfoldable pub factor_at : Stream → Read ℕ
factor_at s = do
  n ← number_at s
  if n.0.0 == 0 then Err (refusal kinds.Syntax n.0.1) else Ok (n.0.0, n.1)

-- "+" N "*" I: the factor, the counter and its line
unfoldable pub step_at : ℕ → ℕ → Stream → Read (ℕ × ℕ × ℕ)
step_at from depth s = do
  p ← expect (codes "+") s
  f ← factor_at p.1
  m ← expect (codes "*") f.1
  c ← counter_at from depth m.1
  Ok ((f.0, c.0.0, c.0.1), c.1)

abbrev pub with_step : Steps → ℕ × ℕ × ℕ → Steps
with_step a x = record { steps = slice_set a.steps x.1 x.0; from = x.1 + 1; line = x.2 }

abbrev pub add_step : ℕ → Steps → Stream → Read Steps
add_step depth a s = step_at a.from depth s >>= λ x. Ok (with_step a x.0, x.1)

abbrev pub no_steps : List ℕ
no_steps = 0 ∷ 0 ∷ 0 ∷ 0 ∷ []

-- A sign + is ahead, and a counter of an enclosing loop can stand behind it.
abbrev pub is_step_ahead : ℕ → ℕ → Stream → Bool
is_step_ahead from depth s = is_ahead (codes "+") s && nat_lt from depth

abbrev pub goes_on : ℕ → Steps → Stream → Bool
goes_on depth a s = is_step_ahead a.from depth s

-- { "+" N "*" I } behind a number of this line, as long as a counter can stand behind the sign +
unfoldable pub steps_at : ℕ → ℕ → Stream → Read Steps
steps_at depth line s = repeat_while (goes_on depth) (add_step depth) (length s.tokens) (record { steps = no_steps; from = 0; line = line }) s

-- a slot number whose greatest value is below the size
unfoldable pub slot_at : Scope → ℕ → Stream → Read Slot
slot_at scope size s = do
  b ← number_at s
  r ← steps_at scope.depth b.0.1 b.1
  if nat_le size (greatest scope.turns (record { base = b.0.0; steps = r.0.steps })) then Err (refusal kinds.Slot r.0.line) else Ok (record { base = b.0.0; steps = r.0.steps }, r.1)

abbrev pub array_named : List ℕ → Option Array
array_named name =
    if bytes_eq name (codes "X") then Some X else if bytes_eq name (codes "W") then Some W else if bytes_eq name (codes "T") then Some T else if bytes_eq name (codes "A") then Some A else None

unfoldable pub array_at : Stream → Read (Array × ℕ)
array_at s = do
  t ← shift s
  required (array_named t.0.text) t.0.line t.1

abbrev pub size_in : Scope → Array → ℕ
size_in scope X = scope.x
size_in scope W = scope.w
size_in scope T = scope.t
size_in scope A = scope.a

-- "[" slot "]"
unfoldable pub slot_of : Scope → Array → Stream → Read Place
slot_of scope array s = do
  o ← expect (codes "[") s
  r ← slot_at scope (size_in scope array) o.1
  c ← expect (codes "]") r.1
  Ok (record { array = array; slot = r.0 }, c.1)

abbrev pub written : Array → Bool
written X = false
written W = false
written T = true
written A = true

-- a place of T or A
unfoldable pub target_at : Scope → Stream → Read Place
target_at scope s = do
  p ← expect (codes "&") s
  a ← array_at p.1
  if written a.0.0 then slot_of scope a.0.0 a.1 else Err (refusal kinds.Syntax a.0.1)

-- a place of any array
unfoldable pub source_at : Scope → Stream → Read Place
source_at scope s = do
  p ← expect (codes "&") s
  a ← array_at p.1
  slot_of scope a.0.0 a.1
