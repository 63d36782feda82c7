-- Names: what each is bound to, in the order of first assignment
use Rattle.std.specs.Prelude.{ℕ, ◌+◌, nat_lt, if◌then◌else◌, List, [], ◌∷◌, Option, None, Some, Result, Ok, Err}
use Rattle.std.specs.Str.{bytes_eq}
use Rattle.ufl_syntax.specs.declared.span.Span.{Span}
use Rattle.ufl_values.specs.declared.refusal.Reason.{Reason}
use Rattle.ufl_values.specs.declared.refusal.Reason.TheVariants as r
use Rattle.ufl_values.specs.declared.value.Value.{Value}
use Rattle.ufl_values.specs.Values.{nodes_of}
use Rattle.ufl_calls.specs.Calls.{table_value}
use Rattle.ufl_elab.specs.declared.bound.Bound.{Bound}

-- a name with what it is bound to
pub record Name : Type 0 where
  pub name : List ℕ
  pub bound : Bound

-- the value, and the target of its last assignment: the line of that statement, and the word
abbrev pub bound_by : Span → ℕ → Value → Bound
bound_by target line a = record { value = a; line = line; from = target.from; len = target.len }

-- a name that is assigned again keeps its place
abbrev pub assign : List Name → List ℕ → Bound → List Name
assign [] name b = record { name = name; bound = b } ∷ []
assign (n ∷ ns) name b =
    if bytes_eq name n.name then record { name = n.name; bound = b } ∷ ns else n ∷ assign ns name b

abbrev pub get : List Name → List ℕ → Option Bound
get [] name = None
get (n ∷ ns) name = if bytes_eq name n.name then Some n.bound else get ns name

-- assigned names come before those of the language
abbrev pub value_or : Option Bound → List ℕ → Result Value Reason
value_or (Some b) name = Ok b.value
value_or None name = table_value name

abbrev pub value_in : List Name → List ℕ → Result Value Reason
value_in names name = value_or (get names name) name

-- a value that two names share counts twice
abbrev pub nodes_in : List Name → ℕ
nodes_in [] = 0
nodes_in (n ∷ ns) = nodes_of n.bound.value + nodes_in ns

-- the values of all names have at most 1,000,000 nodes together
abbrev pub limited : List Name → Result (List Name) Reason
limited names = if nat_lt 1000000 (nodes_in names) then Err r.Nodes else Ok names
