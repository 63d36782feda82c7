-- The items of tuples and lists, which have at most 10,000 nodes and a height of at most 128
use Rattle.std.specs.Prelude.{◌≡◌, min, ◌&&◌, nat_le, Bool, true, if◌then◌else◌, List, map, Result, Ok, Err}
use Rattle.ufl_values.specs.declared.refusal.Reason.{Reason}
use Rattle.ufl_values.specs.declared.refusal.Reason.TheVariants as r
use Rattle.ufl_calls.specs.declared.group.Group.{Group}
use Rattle.ufl_values.specs.declared.value.Value.{Value}
use Rattle.ufl_values.specs.Values.{total, highest, nodes_of, height_of}

abbrev pub is_small : List Value → Bool
is_small vs = nat_le (total (map nodes_of vs)) 9999 && nat_le (highest (map height_of vs)) 127

-- the group of these items: their nodes and the height of the highest as far as 32 bits go, and the items unless they
-- are too large
abbrev pub IsGroup : List Value → Group → Type 0
IsGroup vs g =
    (g.nodes ≡ min (total (map nodes_of vs)) 4294967295)
    × (g.height ≡ min (highest (map height_of vs)) 4294967295)
    × (is_small vs ≡ true → g.items ≡ vs)

abbrev pub grouped : List Value → Result (List Value) Reason
grouped vs = if is_small vs then Ok vs else Err r.Nodes
