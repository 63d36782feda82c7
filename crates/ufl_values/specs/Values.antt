-- Values: their nodes and their height, and numbers as expressions
use Rattle.std.specs.Prelude.{ℕ, ◌+◌, max, nat_lt, if◌then◌else◌, List, [], ◌∷◌, Option, None, Some, Result, Ok, Err}
use Rattle.ufl_tree.specs.declared.tree.Tree.{Tree}
use Rattle.ufl_tree.specs.declared.tree.Node.TheVariants as n
use Rattle.ufl_tree.specs.declared.function.On.TheVariants as on
use Rattle.ufl_tree.specs.Reading.{typed_of}
use Rattle.ufl_expr.specs.Sizes.{nodes_of as nodes_of_tree, height_of as height_of_tree}
use Rattle.ufl_expr.specs.Table.{plain_kind}
use Rattle.ufl_expr.specs.Building.{built}
use Rattle.ufl_form.specs.Reading.{form_of}
use Rattle.ufl_form.specs.Sizes.{form_nodes, form_height}
use Rattle.ufl_values.specs.declared.refusal.Reason.{Reason}
use Rattle.ufl_values.specs.declared.refusal.Reason.TheVariants as r
use Rattle.ufl_values.specs.declared.value.Value.{Value, Value-F, fold-Value, out-Value}
use Rattle.ufl_values.specs.declared.value.Value.TheVariants as v
use Rattle.ufl_values.specs.Answer.{typed_as}

abbrev pub total : List ℕ → ℕ
total [] = 0
total (n ∷ ns) = n + total ns

abbrev pub highest : List ℕ → ℕ
highest [] = 0
highest (n ∷ ns) = max n (highest ns)

-- a tuple or a list is a node besides its items
abbrev pub nodes_layer : Value-F ℕ → ℕ
nodes_layer (Value-F.Expr e) = nodes_of_tree (typed_of e)
nodes_layer (Value-F.Form f) = form_nodes (form_of f)
nodes_layer (Value-F.Tuple ns) = total ns + 1
nodes_layer (Value-F.List ns) = total ns + 1
nodes_layer _ = 1

unfoldable pub nodes_of : Value → ℕ
nodes_of = fold-Value ℕ nodes_layer

abbrev pub height_layer : Value-F ℕ → ℕ
height_layer (Value-F.Expr e) = height_of_tree (typed_of e)
height_layer (Value-F.Form f) = form_height (form_of f)
height_layer (Value-F.Tuple hs) = highest hs + 1
height_layer (Value-F.List hs) = highest hs + 1
height_layer _ = 1

unfoldable pub height_of : Value → ℕ
height_of = fold-Value ℕ height_layer

-- the items of a tuple
abbrev pub tuple_in : Value-F Value → Option (List Value)
tuple_in (Value-F.Tuple items) = Some items
tuple_in _ = None

abbrev pub tuple_of : Value → Option (List Value)
tuple_of a = tuple_in (out-Value a)

-- the items of a list
abbrev pub list_in : Value-F Value → Option (List Value)
list_in (Value-F.List items) = Some items
list_in _ = None

abbrev pub list_of : Value → Option (List Value)
list_of a = list_in (out-Value a)

-- the value, or `dx` in place of one with more nodes than this
unfoldable pub light : Value → ℕ → Value
light a most = if nat_lt most (nodes_of a) then v.Measure on.All else a

abbrev pub same_tree : Tree → Tree
same_tree t = t

-- the expression that a value is or that its number stands for
abbrev pub expression_of : Value → Result Tree Reason
expression_of (v.Number c) = typed_as same_tree (built (Ok plain_kind) (n.Number c))
expression_of (v.Expr e) = Ok e
expression_of _ = Err r.Kind
