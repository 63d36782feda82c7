-- How many brackets, signs and `**` are open at a token: the brackets, and the signs and `**` whose operand hasn't
-- ended.
--
-- An operand holds what stands in its brackets, its calls, indices and attributes, further signs before it and
-- further `**` behind it.
-- So it has ended where, in the same brackets, a token joins two values (`*`, `/`, and a `+` or `-` behind a value)
-- or separates them, and where these brackets or the line end.
use Rattle.std.specs.Prelude.{ℕ, suc, ◌+◌, Bool, true, false, List, [], ◌∷◌}
use Rattle.ufl_syntax.specs.declared.class.Class.{Class}
use Rattle.ufl_syntax.specs.declared.class.Class.TheVariants as k
use Rattle.ufl_syntax.specs.declared.class.Lexeme.{Lexeme}

pub record Nest : Type 0 where
  -- the signs and `**` whose operand hasn't ended, behind the innermost open bracket
  pub here : ℕ
  -- the same before each open bracket and behind the one around it, the innermost first
  pub around : List ℕ
  -- whether a value stands before, so that a `+` or `-` joins two
  pub behind_value : Bool

abbrev pub nest : ℕ → List ℕ → Bool → Nest
nest here around behind_value = record { here = here; around = around; behind_value = behind_value }

-- nothing is open
abbrev pub outside : Nest
outside = nest 0 [] false

-- each open bracket with the signs and `**` before it
abbrev pub open_around : List ℕ → ℕ
open_around [] = 0
open_around (c ∷ around) = suc c + open_around around

abbrev pub depth : Nest → ℕ
depth s = s.here + open_around s.around

abbrev pub first_or_none : List ℕ → ℕ
first_or_none [] = 0
first_or_none (c ∷ around) = c

abbrev pub others : List ℕ → List ℕ
others [] = []
others (c ∷ around) = around

-- behind a bracket that opens, a bracket that closes, what is or ends a value, a sign, a `**`, and any other token
abbrev pub opened : Nest → Nest
opened s = nest 0 (s.here ∷ s.around) false

abbrev pub closed : Nest → Nest
closed s = nest (first_or_none s.around) (others s.around) true

abbrev pub valued : Nest → Nest
valued s = nest s.here s.around true

abbrev pub signed : Nest → Nest
signed s = nest (suc s.here) s.around false

abbrev pub parted : Nest → Nest
parted s = nest 0 s.around false

abbrev pub sign_or_join : Bool → Nest → Nest
sign_or_join true s = parted s
sign_or_join false s = signed s

abbrev pub nest_on : Class → Nest → Nest
nest_on k.Open s = opened s
nest_on k.OpenList s = opened s
nest_on k.Close s = closed s
nest_on k.CloseList s = closed s
nest_on (k.Name b) s = valued s
nest_on k.Number s = valued s
nest_on k.Text s = valued s
nest_on k.Dot s = valued s
nest_on k.Plus s = sign_or_join s.behind_value s
nest_on k.Minus s = sign_or_join s.behind_value s
nest_on k.Power s = signed s
nest_on _ s = parted s

abbrev pub nest_behind : Nest → List Lexeme → Nest
nest_behind s [] = s
nest_behind s (t ∷ ts) = nest_behind (nest_on t.class s) ts

-- how many are open at the last of these tokens, itself counted
unfoldable pub depth_at : List Lexeme → ℕ
depth_at ts = depth (nest_behind outside ts)
