-- The arguments of calls
use Rattle.std.specs.Prelude.{ℕ, nat_lt, if◌then◌else◌, Bool, true, false, List, [], ◌∷◌, ◌++◌, length, Option, None, Some, Result, Ok, Err}
use Rattle.ufl_syntax.specs.declared.span.Span.{Span}
use Rattle.ufl_values.specs.declared.refusal.Reason.{Reason}
use Rattle.ufl_values.specs.declared.refusal.Reason.TheVariants as r
use Rattle.ufl_values.specs.declared.value.Value.{Value}
use Rattle.ufl_calls.specs.declared.arguments.Keyed.{Keyed}
use Rattle.ufl_calls.specs.declared.arguments.Given.{Given}
use Rattle.ufl_values.specs.declared.words.Keyword.{Keyword}
use Rattle.ufl_values.specs.declared.words.Keyword.TheVariants as w
use Rattle.ufl_values.specs.Values.{light, list_of}

-- the value of one more argument behind so many: no call takes one of more than one node in its fourth place or later
abbrev pub place_behind : ℕ → Value → Value
place_behind n a = if nat_lt n 3 then a else light a 1

unfoldable pub given_also : Given → Value → Given
given_also g a = record { places = g.places ++ place_behind (length g.places) a ∷ []; keyed = g.keyed }

-- no call takes a value of more than three nodes with a keyword
unfoldable pub given_keyed : Given → Span → Option Keyword → Value → Given
given_keyed g word keyword a =
    record { places = g.places; keyed = g.keyed ++ record { word = word; keyword = keyword; value = light a 3 } ∷ [] }

-- the items of the only argument, where it is a list
abbrev pub only_list : List Value → Option (List Value)
only_list (a ∷ []) = list_of a
only_list _ = None

-- the only argument
abbrev pub one_place : List Value → Result Value Reason
one_place (a ∷ []) = Ok a
one_place _ = Err r.Kind

abbrev pub two_places : List Value → Result (Value × Value) Reason
two_places (a ∷ (b ∷ [])) = Ok (a, b)
two_places _ = Err r.Kind

abbrev pub three_places : List Value → Result (Value × Value × Value) Reason
three_places (a ∷ (b ∷ (c ∷ []))) = Ok (a, b, c)
three_places _ = Err r.Kind

abbrev pub is_keyword : Option Keyword → Option Keyword → Bool
is_keyword (Some w.Dim) (Some w.Dim) = true
is_keyword (Some w.Shape) (Some w.Shape) = true
is_keyword _ _ = false

-- the word of the first argument with another keyword
abbrev pub unknown_keyword : List Keyed → Option Keyword → Option Span
unknown_keyword [] known = None
unknown_keyword (k ∷ ks) known = if is_keyword k.keyword known then unknown_keyword ks known else Some k.word

-- some argument has the keyword
abbrev pub has_keyword : List Keyed → Option Keyword → Bool
has_keyword [] known = false
has_keyword (k ∷ ks) known = if is_keyword k.keyword known then true else has_keyword ks known

-- the value of the first argument with this keyword, which none behind it may have too
abbrev pub only_value : Keyed → List Keyed → Option Keyword → Result (Option Value) Reason
only_value k ks known = if has_keyword ks known then Err r.Kind else Ok (Some k.value)

-- the value with this keyword, of which there may be one
abbrev pub keyword_value : List Keyed → Option Keyword → Result (Option Value) Reason
keyword_value [] known = Ok None
keyword_value (k ∷ ks) known = if is_keyword k.keyword known then only_value k ks known else keyword_value ks known
