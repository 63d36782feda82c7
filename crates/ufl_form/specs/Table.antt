-- The typing table of forms: the cell of a form and the elements of its arguments, from those of its operands, or why there is no such form.
-- Source: M. Alnaes and others, Unified Form Language, ACM TOMS 40 (2014), sections 3 and 5
use Rattle.std.specs.Prelude.{ℕ, ◌==◌, ◌&&◌, Bool, true, false, if◌then◌else◌, List, [], ◌∷◌, Option, None, Some, Result, Ok, Err, slice_get}
use Rattle.spaces.specs.declared.cell.Cell.{Cell}
use Rattle.spaces.specs.declared.family.Family.{Family}
use Rattle.spaces.specs.declared.family.Family.TheVariants.{Real}
use Rattle.spaces.specs.Space.{Space, scalar, vector, tensor, mixed, cell_of}
use Rattle.ufl_tree.specs.declared.function.Free.{Free}
use Rattle.ufl_tree.specs.declared.function.Function.{Function}
use Rattle.ufl_tree.specs.declared.function.Role.{Role}
use Rattle.ufl_tree.specs.declared.function.Role.TheVariants.{Test, Trial, Position, Coefficient}
use Rattle.ufl_tree.specs.Typed.{Typed, own_kind, shape_of, free_of}
use Rattle.ufl_tree.specs.FormTerm.{FormTerm, integral, sum, scale, left, right, action, adjoint, derivative}
use Rattle.ufl_tree.specs.Places.{Table}
use Rattle.ufl_expr.specs.declared.refusal.TypeRefusal.{TypeRefusal}
use Rattle.ufl_expr.specs.declared.refusal.TypeRefusal.TheVariants.{Kind as OfKind, Shape, FreeIndex}
use Rattle.ufl_expr.specs.Shapes.{is_scalar}
use Rattle.spaces.specs.Cell.{same_cell}
use Rattle.ufl_expr.specs.Table.{IsTyped}
use Rattle.ufl_form.specs.declared.arguments.Arguments.{Arguments}
use Rattle.ufl_form.specs.declared.pattern_set.PatternSet.{PatternSet}
use Rattle.ufl_form.specs.declared.table.FormKind.{FormKind}
use Rattle.ufl_form.specs.Arguments.{argument, joined, tree_arguments}
use Rattle.ufl_form.specs.Patterns.{tree_patterns, united, product, linear_pairs, constant_pairs, without, turned, of_role, has_test, has_trial}

-- ---- pattern sets
abbrev pub form_patterns : FormTerm → PatternSet
form_patterns (integral m e) = tree_patterns e
form_patterns (sum f g) = united (form_patterns f) (form_patterns g)
form_patterns (scale c f) = form_patterns f
form_patterns (left f) = linear_pairs (form_patterns f)
form_patterns (right f) = constant_pairs (form_patterns f)
form_patterns (action f last g) = without last (form_patterns f)
form_patterns (adjoint f) = turned (form_patterns f)
form_patterns (derivative f w du) = product (form_patterns f) (of_role du.role)

-- the trial function where some pair has one, else the test function; there may be no argument
abbrev pub last_of : PatternSet → Result Role TypeRefusal
last_of p = if has_trial p then Ok Trial else if has_test p then Ok Test else Err OfKind

-- ---- the rows
abbrev pub Verdict : Type 0
Verdict = Result FormKind TypeRefusal

abbrev pub no_free : List Free → Bool
no_free [] = true
no_free (f ∷ fs) = false

-- a scalar without free indices
abbrev pub if_plain : Bool → Bool → FormKind → Verdict
if_plain s f k = if s then (if f then Ok k else Err FreeIndex) else Err Shape

-- a function occurs, exactly where there is a cell; each argument has one element; then the shape, then the free indices
abbrev pub integral_from : Option Cell → Option Arguments → Bool → Bool → Verdict
integral_from None a s f = Err OfKind
integral_from (Some c) None s f = Err OfKind
integral_from (Some c) (Some a) s f = if_plain s f (record { cell = c; arguments = a })

abbrev pub integral_kind : Typed → Verdict
integral_kind e = integral_from (own_kind e).cell (tree_arguments e) (is_scalar (shape_of e)) (no_free (free_of e))

-- the arguments, where each has one element
abbrev pub with_arguments : Cell → Option Arguments → Verdict
with_arguments c None = Err OfKind
with_arguments c (Some a) = Ok (record { cell = c; arguments = a })

-- one cell, and one element of each argument
abbrev pub sum_kind : FormKind → FormKind → Verdict
sum_kind a b = if same_cell a.cell b.cell then with_arguments a.cell (joined a.arguments b.arguments) else Err OfKind

-- minus the part without the trial function
abbrev pub right_kind : FormKind → FormKind
right_kind a = record { cell = a.cell; arguments = record { test = a.arguments.test; trial = None } }

abbrev pub adjoint_kind : FormKind → FormKind
adjoint_kind a = record { cell = a.cell; arguments = record { test = a.arguments.trial; trial = a.arguments.test } }

abbrev pub is_coefficient : Role → Bool
is_coefficient (Coefficient n) = true
is_coefficient _ = false

-- an argument or a coefficient
abbrev pub is_direction : Role → Bool
is_direction Position = false
is_direction _ = true

-- the element of an argument
abbrev pub element_of : Role → Arguments → Option ℕ
element_of Test a = a.test
element_of Trial a = a.trial
element_of Position a = None
element_of (Coefficient n) a = None

abbrev pub has_element : Option ℕ → ℕ → Bool
has_element None e = false
has_element (Some a) e = a == e

abbrev pub dropped : Role → Arguments → Arguments
dropped Test a = record { test = None; trial = a.trial }
dropped Trial a = record { test = a.test; trial = None }
dropped Position a = a
dropped (Coefficient n) a = a

-- a coefficient of the argument's element in its place
abbrev pub action_kind : FormKind → Role → Function → Verdict
action_kind a last f =
    if is_coefficient f.role then
    (if has_element (element_of last a.arguments) f.element then Ok (record { cell = a.cell; arguments = dropped last a.arguments }) else Err OfKind)
    else Err OfKind

-- the argument that is replaced is the last one
abbrev pub is_last : Role → Result Role TypeRefusal → Bool
is_last Test (Ok Test) = true
is_last Trial (Ok Trial) = true
is_last _ _ = false

abbrev pub last_kind : Bool → Verdict → Verdict
last_kind true v = v
last_kind false v = Err OfKind

-- w is a coefficient, and du, an argument or a coefficient, is of the same element
abbrev pub derivative_kind : FormKind → Function → Function → Verdict
derivative_kind a w du =
    if is_coefficient w.role && is_direction du.role then
    (if w.element == du.element then with_arguments a.cell (joined a.arguments (argument du)) else Err OfKind)
    else Err OfKind

-- one value for the whole mesh
abbrev pub is_real : Family → Bool
is_real Real = true
is_real _ = false

abbrev pub is_constant : Space → Bool
is_constant (scalar f c q) = is_real f
is_constant (vector s n) = is_constant s
is_constant (tensor s m n) = is_constant s
is_constant (mixed ss) = false

-- there is such an element, its functions aren't constants, and it is on this cell
abbrev pub varies_on : Option Space → Cell → Bool
varies_on None c = false
varies_on (Some s) c = if is_constant s then false else same_cell (cell_of s) c

-- with the elements of a table
abbrev pub turned_kind : Table → FormKind → Function → Function → Verdict
turned_kind table a w du = if varies_on (slice_get table w.element) a.cell then derivative_kind a w du else Err OfKind

abbrev pub further : Verdict → (FormKind → Verdict) → Verdict
further (Err r) f = Err r
further (Ok k) f = f k

unfoldable pub form_kind : FormTerm → Verdict
form_kind (integral m e) = integral_kind e
form_kind (sum f g) = further (form_kind f) (λ a. further (form_kind g) (λ b. sum_kind a b))
form_kind (scale c f) = form_kind f
form_kind (left f) = form_kind f
form_kind (right f) = further (form_kind f) (λ a. Ok (right_kind a))
form_kind (action f last g) = further (form_kind f) (λ a. last_kind (is_last last (last_of (form_patterns f))) (action_kind a last g))
form_kind (adjoint f) = further (form_kind f) (λ a. Ok (adjoint_kind a))
form_kind (derivative f w du) = further (form_kind f) (λ a. derivative_kind a w du)

-- the cell of a form that the table allows
abbrev pub verdict_cell : Verdict → Option Cell
verdict_cell (Err r) = None
verdict_cell (Ok k) = Some k.cell

abbrev pub form_cell : FormTerm → Option Cell
form_cell f = verdict_cell (form_kind f)

-- each integrand obeys its own table
unfoldable pub AreTyped : FormTerm → Type 0
AreTyped (integral m e) = IsTyped e
AreTyped (sum f g) = AreTyped f × AreTyped g
AreTyped (scale c f) = AreTyped f
AreTyped (left f) = AreTyped f
AreTyped (right f) = AreTyped f
AreTyped (action f last g) = AreTyped f
AreTyped (adjoint f) = AreTyped f
AreTyped (derivative f w du) = AreTyped f
