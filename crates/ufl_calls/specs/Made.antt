-- What a file makes besides values: the table of elements, the element of each coefficient, and how many labels
use Rattle.std.specs.Prelude.{ℕ, zero, suc, ◌+◌, List, [], ◌∷◌, ◌++◌, length, Option, None, Some, Result, Ok, Err, slice_get}
use Rattle.spaces.specs.declared.element_tree.ElementTree.{ElementTree}
use Rattle.spaces.specs.Reading.{space_of}
use Rattle.spaces.specs.Space.{Space, Spaces, no_spaces, space, mixed}
use Rattle.ufl_tree.specs.declared.function.Function.{Function}
use Rattle.ufl_tree.specs.declared.function.Role.{Role}
use Rattle.ufl_tree.specs.declared.function.Role.TheVariants.{Coefficient}
use Rattle.ufl_tree.specs.declared.tree.Node.TheVariants as n
use Rattle.ufl_tree.specs.Places.{Table, table_of}
use Rattle.ufl_expr.specs.Elements.{number_of, with_element, function_in, piece_in}
use Rattle.ufl_expr.specs.Building.{built}
use Rattle.ufl_values.specs.declared.refusal.Reason.{Reason}
use Rattle.ufl_values.specs.declared.refusal.Reason.TheVariants as r
use Rattle.ufl_calls.specs.declared.made.Made.{Made}
use Rattle.ufl_values.specs.declared.value.Value.{Value}
use Rattle.ufl_values.specs.declared.value.Value.TheVariants as v
use Rattle.ufl_values.specs.Answer.{and_then, typed_as}

abbrev pub nothing : Made
nothing = record { elements = []; coefficients = []; labels = 0 }

-- a value, and what is made then
abbrev pub Making : Type 0 → Type 0
Making A = Result (A × Made) Reason

abbrev pub after : {A B : Type 0} → Making A → (A → Made → Making B) → Making B
after (Err e) next = Err e
after (Ok p) next = next p.0 p.1

-- a step that makes nothing
abbrev pub unmade : {A : Type 0} → Result A Reason → Made → Making A
unmade (Err e) m = Err e
unmade (Ok x) m = Ok (x, m)

abbrev pub numbered_in : Option ℕ → Made → Making ℕ
numbered_in None m = Err r.Kind
numbered_in (Some k) m = Ok (k, m)

-- the number of the element in the table, which has it then
abbrev pub element_number : ElementTree → Made → Making ℕ
element_number e m =
    numbered_in (number_of (space_of e) (table_of (with_element e m.elements)))
    (record { elements = with_element e m.elements; coefficients = m.coefficients; labels = m.labels })

-- a function of this role and this element
abbrev pub function_of : Role → ElementTree → Made → Making Function
function_of role e m = after (element_number e m) (λ k n. Ok (record { role = role; element = k }, n))

-- a new coefficient of this element
abbrev pub coefficient_of : ElementTree → Made → Making Function
coefficient_of e m =
    after (element_number e m) (λ k n. Ok (
      record { role = Coefficient (length m.coefficients); element = k },
      record { elements = n.elements; coefficients = m.coefficients ++ k ∷ []; labels = m.labels },
    ))

-- a new label
abbrev pub label_of : Made → Making ℕ
label_of m = Ok (m.labels, record { elements = m.elements; coefficients = m.coefficients; labels = m.labels + 1 })

-- the function as an expression
abbrev pub whole_value : Function → Made → Result Value Reason
whole_value f m = typed_as v.Expr (built (function_in (table_of m.elements) f) (n.Fun f))

-- ---- parts of mixed functions
abbrev pub count_in : Spaces → ℕ
count_in no_spaces = 0
count_in (space s ss) = count_in ss + 1

-- how many sub-elements a mixed element has
abbrev pub part_count_of : Option Space → Option ℕ
part_count_of (Some (mixed ss)) = Some (count_in ss)
part_count_of _ = None

-- one of the parts, as an expression
abbrev pub piece_value : Table → Function → ℕ → Result Value Reason
piece_value table f k = typed_as v.Expr (built (piece_in table f k) (n.Piece f k))

-- the parts from this number on, behind those that are found
abbrev pub pieces_from : Table → Function → List Value → ℕ → ℕ → Result (List Value) Reason
pieces_from table f found k zero = Ok found
pieces_from table f found k (suc left) =
    and_then (piece_value table f k) (λ a. pieces_from table f (found ++ a ∷ []) (k + 1) left)

abbrev pub pieces_by : Option ℕ → Table → Function → Result Value Reason
pieces_by None table f = Err r.Kind
pieces_by (Some count) table f = and_then (pieces_from table f [] 0 count) (λ vs. Ok (v.Tuple vs))

-- the tuple of the parts of a function of a mixed element
abbrev pub pieces : Function → Made → Result Value Reason
pieces f m = pieces_by (part_count_of (slice_get (table_of m.elements) f.element)) (table_of m.elements) f
