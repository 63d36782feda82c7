-- Calls that give functions
use Rattle.std.specs.Prelude.{ℕ, List, Result, Ok, Err}
use Rattle.spaces.specs.declared.cell.Cell.{Cell}
use Rattle.spaces.specs.declared.element_tree.ElementTree.{ElementTree}
use Rattle.spaces.specs.declared.element_tree.ElementTree.TheVariants as e
use Rattle.spaces.specs.declared.family.Family.{Family}
use Rattle.spaces.specs.declared.family.Family.TheVariants.{Lagrange, Real}
use Rattle.spaces.specs.Cell.{dimension}
use Rattle.ufl_tree.specs.declared.function.Function.{Function}
use Rattle.ufl_tree.specs.declared.function.Role.{Role}
use Rattle.ufl_tree.specs.declared.function.Role.TheVariants.{Position}
use Rattle.ufl_tree.specs.Typed.{Typed, function}
use Rattle.ufl_tree.specs.Reading.{typed_of}
use Rattle.ufl_values.specs.declared.refusal.Reason.{Reason}
use Rattle.ufl_values.specs.declared.refusal.Reason.TheVariants as r
use Rattle.ufl_values.specs.declared.value.Value.{Value}
use Rattle.ufl_values.specs.declared.value.Value.TheVariants as v
use Rattle.ufl_values.specs.Answer.{and_then}
use Rattle.ufl_calls.specs.declared.made.Made.{Made}
use Rattle.ufl_calls.specs.Made.{Making, after, unmade, function_of, coefficient_of, whole_value, pieces}
use Rattle.ufl_calls.specs.Arguments.{one_place}
use Rattle.ufl_calls.specs.Elements.{cell_of, element_in}

abbrev pub only_element : List Value → Result ElementTree Reason
only_element places = and_then (one_place places) element_in

-- the function as an expression
abbrev pub whole_of : Function → Made → Making Value
whole_of f m = unmade (whole_value f m) m

-- `TestFunction(V)` and `TrialFunction(V)`
abbrev pub argument_of : Role → List Value → Made → Making Value
argument_of role places m = after (unmade (only_element places) m) (λ t m'. after (function_of role t m') whole_of)

-- `Coefficient(V)`
abbrev pub coefficient_in : List Value → Made → Making Value
coefficient_in places m = after (unmade (only_element places) m) (λ t m'. after (coefficient_of t m') whole_of)

abbrev pub only_cell : List Value → Result Cell Reason
only_cell places = and_then (one_place places) cell_of

-- the vector element with a part for each coordinate
abbrev pub one_for_each : Family → Cell → ℕ → ElementTree
one_for_each f c q = e.Vector (e.Scalar f c q) (dimension c)

-- one number for the whole mesh
abbrev pub real_on : Cell → ElementTree
real_on c = e.Scalar Real c 0

-- `Constant(cell)`
abbrev pub constant_of : List Value → Made → Making Value
constant_of places m = after (unmade (only_cell places) m) (λ c m'. after (coefficient_of (real_on c) m') whole_of)

-- `VectorConstant(cell)`: one number for each coordinate
abbrev pub vector_constant_of : List Value → Made → Making Value
vector_constant_of places m =
    after (unmade (only_cell places) m) (λ c m'. after (coefficient_of (one_for_each Real c 0) m') whole_of)

-- `SpatialCoordinate(cell)`, whose element is the Lagrange vector element of degree 1
abbrev pub position_of : List Value → Made → Making Value
position_of places m =
    after (unmade (only_cell places) m) (λ c m'. after (function_of Position (one_for_each Lagrange c 1) m') whole_of)

-- the tuple of its parts
abbrev pub pieces_of : Function → Made → Making Value
pieces_of f m = unmade (pieces f m) m

-- `TestFunctions(W)` and `TrialFunctions(W)`
abbrev pub arguments_of : Role → List Value → Made → Making Value
arguments_of role places m = after (unmade (only_element places) m) (λ t m'. after (function_of role t m') pieces_of)

abbrev pub function_at : Typed → Result Function Reason
function_at (function k f) = Ok f
function_at _ = Err r.Kind

-- the whole function that a value is
abbrev pub whole_function : Value → Result Function Reason
whole_function (v.Expr t) = function_at (typed_of t)
whole_function _ = Err r.Kind

-- `split(w)`
abbrev pub split_of : List Value → Made → Making Value
split_of places m = after (unmade (and_then (one_place places) whole_function) m) pieces_of
