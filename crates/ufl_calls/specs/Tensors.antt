-- Calls that give expressions of expressions
use Rattle.std.specs.Prelude.{ℕ, ◌+◌, ◌==◌, not, Bool, true, false, if◌then◌else◌, List, [], ◌∷◌, ◌++◌, length, map, Option, None, Some, Result, Ok, Err}
use Rattle.ufl_tree.specs.declared.tree.Op1.{Op1}
use Rattle.ufl_tree.specs.declared.tree.Op2.{Op2}
use Rattle.ufl_tree.specs.declared.tree.Tree.{Tree}
use Rattle.ufl_tree.specs.declared.tree.Node.TheVariants as n
use Rattle.ufl_tree.specs.Reading.{typed_of, kind_of}
use Rattle.ufl_expr.specs.declared.refusal.TypeRefusal.{TypeRefusal}
use Rattle.ufl_expr.specs.declared.refusal.TypeRefusal.TheVariants as t
use Rattle.ufl_expr.specs.Table.{partial_kind, identity_kind, tensor_kind, list_kind, variable_kind, has_argument, label_of}
use Rattle.ufl_expr.specs.Building.{built, diff_by}
use Rattle.ufl_values.specs.declared.refusal.Reason.{Reason}
use Rattle.ufl_values.specs.declared.refusal.Reason.TheVariants as r
use Rattle.ufl_values.specs.declared.value.Value.{Value, Value-F, fold-Value}
use Rattle.ufl_values.specs.declared.value.Value.TheVariants as v
use Rattle.ufl_values.specs.Answer.{and_then, typed_as}
use Rattle.ufl_values.specs.Numbers.{or_refusal, whole_number, index_of}
use Rattle.ufl_values.specs.Values.{expression_of, same_tree, tuple_of}
use Rattle.ufl_calls.specs.Arguments.{one_place, two_places, only_list}
use Rattle.ufl_values.specs.Operators.{one_of, two_of}
use Rattle.ufl_calls.specs.Elements.{number_in}
use Rattle.ufl_calls.specs.declared.made.Made.{Made}
use Rattle.ufl_calls.specs.Made.{Making, after, unmade, label_of as next_label}

abbrev pub operator_of_one : Op1 → List Value → Result Value Reason
operator_of_one op places = and_then (one_place places) (one_of op)

abbrev pub operator_of_two : Op2 → List Value → Result Value Reason
operator_of_two op places = and_then (two_places places) (λ p. two_of op p.0 p.1)

abbrev pub partial_along : Value → Value → Result Value Reason
partial_along a by =
    and_then (expression_of a) (λ x. and_then (index_of by) (λ i.
    typed_as v.Expr (built (partial_kind (kind_of x) i) (n.Partial x i))))

-- `Dx(f, i)`
abbrev pub derivative_along : List Value → Result Value Reason
derivative_along places = and_then (two_places places) (λ p. partial_along p.0 p.1)

abbrev pub identity_of : ℕ → Result Value Reason
identity_of m = typed_as v.Expr (built (identity_kind m) (n.Identity m))

-- `Identity(n)`
abbrev pub identity : List Value → Result Value Reason
identity places =
    and_then (one_place places) (λ a. and_then (number_in a) (λ c.
    and_then (or_refusal r.Kind (whole_number c)) identity_of))

-- a tensor of the wrong rank is refused as Shape, unless it is refused as Kind already
abbrev pub wrong_rank : Result Tree TypeRefusal → Result Tree Reason
wrong_rank (Err t.Kind) = Err r.Kind
wrong_rank _ = Err r.Shape

abbrev pub ranked : Bool → Result Tree TypeRefusal → Result Tree Reason
ranked true answer = wrong_rank answer
ranked false answer = typed_as same_tree answer

abbrev pub is_other : ℕ → Option ℕ → Bool
is_other rank None = false
is_other rank (Some wanted) = not (rank == wanted)

abbrev pub rank_of_list : List Tree → ℕ
rank_of_list [] = 0
rank_of_list (x ∷ xs) = length x.shape + 1

abbrev pub listed : Option ℕ → List Tree → Result Tree Reason
listed wanted xs = ranked (is_other (rank_of_list xs) wanted) (built (list_kind (map kind_of xs)) (n.List xs))

-- an item of a list: the expression that it is or stands for, the tensor of its own items, or none of these
abbrev pub Item : Type 0
Item = Option (Result Tree Reason)

-- the items behind those that are found: the refusals of numbers and inner lists first, from left to right, then Kind
-- where an item is no expression
abbrev pub items_from : List Tree → Bool → List Item → Result (List Tree) Reason
items_from xs odd [] = if odd then Err r.Kind else Ok xs
items_from xs odd (None ∷ items) = items_from xs true items
items_from xs odd (Some answer ∷ items) = and_then answer (λ x. items_from (xs ++ x ∷ []) odd items)

abbrev pub list_of_items : Option ℕ → List Item → Result Tree Reason
list_of_items wanted items = and_then (items_from [] false items) (listed wanted)

abbrev pub item_layer : Value-F Item → Item
item_layer (Value-F.Number c) = Some (expression_of (v.Number c))
item_layer (Value-F.Expr x) = Some (Ok x)
item_layer (Value-F.List items) = Some (list_of_items None items)
item_layer _ = None

unfoldable pub item_of : Value → Item
item_of = fold-Value Item item_layer

abbrev pub items_of : List Value → Result (List Tree) Reason
items_of values = items_from [] false (map item_of values)

-- the answer of an item by itself
abbrev pub taken : Item → Result (Option Tree) Reason
taken None = Ok None
taken (Some answer) = and_then answer (λ x. Ok (Some x))

abbrev pub index_number_of : Value → Result ℕ Reason
index_number_of (v.Index k) = Ok k
index_number_of _ = Err r.Kind

abbrev pub index_numbers_from : List ℕ → List Value → Result (List ℕ) Reason
index_numbers_from found [] = Ok found
index_numbers_from found (a ∷ others) = and_then (index_number_of a) (λ k. index_numbers_from (found ++ k ∷ []) others)

abbrev pub index_numbers_of : List Value → Result (List ℕ) Reason
index_numbers_of values = index_numbers_from [] values

abbrev pub one_number : Value → Result (List ℕ) Reason
one_number by = and_then (index_number_of by) (λ k. Ok (k ∷ []))

-- one index, or those of a tuple
abbrev pub bound_by : Option (List Value) → Value → Result (List ℕ) Reason
bound_by (Some items) by = index_numbers_of items
bound_by None by = one_number by

abbrev pub tensor_by : Option ℕ → Value → Value → Result Value Reason
tensor_by wanted body by =
    and_then (expression_of body) (λ x. and_then (bound_by (tuple_of by) by) (λ ks.
    and_then (ranked (is_other (length ks) wanted) (built (tensor_kind (kind_of x) ks) (n.Tensor x ks))) (λ y.
    Ok (v.Expr y))))

abbrev pub tensor_of_list : Option ℕ → List Value → Result Value Reason
tensor_of_list wanted items = and_then (list_of_items wanted (map item_of items)) (λ y. Ok (v.Expr y))

abbrev pub tensor_from : Option ℕ → Option (List Value) → List Value → Result Value Reason
tensor_from wanted (Some items) places = tensor_of_list wanted items
tensor_from wanted None places = and_then (two_places places) (λ p. tensor_by wanted p.0 p.1)

-- `as_vector`, `as_matrix` and `as_tensor`, of the rank 1, 2 or any: of a list, or of an expression and the indices
-- to bind
abbrev pub tensor : Option ℕ → List Value → Result Value Reason
tensor wanted places = tensor_from wanted (only_list places) places

-- `variable(e)`
abbrev pub variable : List Value → Made → Making Value
variable places m =
    after (unmade (and_then (one_place places) expression_of) m) (λ x m1. after (next_label m1) (λ l m2.
    unmade (typed_as v.Expr (built (variable_kind (has_argument (typed_of x)) (kind_of x)) (n.Variable l x))) m2))

-- `diff(f, v)`
abbrev pub diff : List Value → Result Value Reason
diff places =
    and_then (two_places places) (λ p. and_then (expression_of p.0) (λ x. and_then (expression_of p.1) (λ y.
    typed_as v.Expr (diff_by (label_of (typed_of y)) x y))))
