-- Calls, attributes, and what names of the language mean
use Rattle.std.specs.Prelude.{◌≡◌, ◌⊎◌, ℕ, zero, suc, ◌+◌, ◌-◌, nat_le, take, drop, Bool, true, false, if◌then◌else◌, List, [], ◌∷◌, length, codes, Option, None, Some, Result, Ok, Err}
use Rattle.std.specs.Str.{bytes_eq}
use Rattle.spaces.specs.declared.cell.Cell.{Cell}
use Rattle.spaces.specs.declared.cell.Cell.TheVariants.{Interval, Triangle, Tetrahedron}
use Rattle.spaces.specs.Cell.{cell_name}
use Rattle.ufl_syntax.specs.declared.span.Span.{Span}
use Rattle.ufl_read.specs.declared.refusal.FormKind.TheVariants as k
use Rattle.ufl_read.specs.declared.refusal.FormRefusal.{FormRefusal}
use Rattle.ufl_read.specs.Refusals.{wordless}
use Rattle.ufl_tree.specs.declared.function.On.TheVariants as on
use Rattle.ufl_tree.specs.declared.function.Role.TheVariants.{Test, Trial}
use Rattle.ufl_tree.specs.declared.tree.Op1.TheVariants.{Transpose}
use Rattle.ufl_tree.specs.declared.tree.Node.TheVariants as n
use Rattle.ufl_tree.specs.declared.tree.Tree.{Tree}
use Rattle.ufl_tree.specs.Places.{table_of}
use Rattle.ufl_tree.specs.Reading.{kind_of}
use Rattle.ufl_expr.specs.Table.{partial_kind}
use Rattle.ufl_expr.specs.Building.{built}
use Rattle.ufl_values.specs.declared.refusal.Reason.{Reason}
use Rattle.ufl_values.specs.declared.refusal.Reason.TheVariants as r
use Rattle.ufl_values.specs.declared.words.Keyword.{Keyword}
use Rattle.ufl_values.specs.declared.words.Keyword.TheVariants as key
use Rattle.ufl_values.specs.declared.words.Word.{Word}
use Rattle.ufl_values.specs.declared.words.Word.TheVariants as w
use Rattle.ufl_values.specs.declared.value.Value.{Value}
use Rattle.ufl_values.specs.declared.value.Value.TheVariants as v
use Rattle.ufl_calls.specs.declared.arguments.Given.{Given}
use Rattle.ufl_values.specs.Answer.{and_then, typed_as}
use Rattle.ufl_values.specs.Refused.{refused}
use Rattle.ufl_values.specs.Words.{family_named, function_named, index_number}
use Rattle.ufl_values.specs.Unsupported.{is_unsupported}
use Rattle.ufl_values.specs.Numbers.{index_of, marker_of}
use Rattle.ufl_values.specs.Values.{expression_of, same_tree}
use Rattle.ufl_calls.specs.Arguments.{unknown_keyword, keyword_value}
use Rattle.ufl_values.specs.Operators.{one_of}
use Rattle.ufl_calls.specs.Elements.{finite_element, vector_element, tensor_element, mixed_element}
use Rattle.ufl_calls.specs.declared.made.Made.{Made}
use Rattle.ufl_calls.specs.Made.{Making, after, unmade}
use Rattle.ufl_calls.specs.Functions as fun
use Rattle.ufl_calls.specs.Tensors as tensors
use Rattle.ufl_calls.specs.Forms as forms

-- ---- strings and names of the language
unfoldable pub cell_named : List ℕ → Option Cell
cell_named name =
    if bytes_eq name (cell_name Interval) then Some Interval else
    if bytes_eq name (cell_name Triangle) then Some Triangle else
    if bytes_eq name (cell_name Tetrahedron) then Some Tetrahedron else
    None

-- what stands between the quotes of a string
unfoldable pub inside : List ℕ → List ℕ
inside text = if nat_le 2 (length text) then take (length text - 2) (drop 1 text) else text

abbrev pub text_named : List ℕ → Value
text_named name = v.Text (family_named name) (cell_named name)

-- the value of a string with its quotes
abbrev pub text_value : List ℕ → Value
text_value quoted = text_named (inside quoted)

abbrev pub named_function : Option Word → Result Value Reason
named_function None = Err r.UnknownName
named_function (Some word) = Ok (v.Function word)

abbrev pub named_index : Option ℕ → List ℕ → Result Value Reason
named_index (Some k) name = Ok (v.Index k)
named_index None name =
    if bytes_eq name (codes "dx") then Ok (v.Measure on.All) else named_function (function_named name)

abbrev pub named_cell : Option Cell → List ℕ → Result Value Reason
named_cell (Some c) name = Ok (v.Cell c)
named_cell None name = named_index (index_number name) name

-- what a name means that isn't assigned
unfoldable pub table_value : List ℕ → Result Value Reason
table_value name = if is_unsupported name then Err r.Unsupported else named_cell (cell_named name) name

-- ---- calls of functions
-- the keyword that a function takes
abbrev pub keyword : Word → Option Keyword
keyword w.VectorElement = Some key.Dim
keyword w.TensorElement = Some key.Shape
keyword _ = None

-- the value of a function that makes nothing; those that do stand in `plain`
abbrev pub valued : Word → List Value → Result Value Reason
valued w.FiniteElement places = finite_element places
valued w.VectorElement places = vector_element places None
valued w.TensorElement places = tensor_element places None
valued w.MixedElement places = mixed_element places
valued (w.One op) places = tensors.operator_of_one op places
valued (w.Two op) places = tensors.operator_of_two op places
valued w.Dx places = tensors.derivative_along places
valued w.Identity places = tensors.identity places
valued w.AsVector places = tensors.tensor (Some 1) places
valued w.AsMatrix places = tensors.tensor (Some 2) places
valued w.AsTensor places = tensors.tensor None places
valued w.Diff places = tensors.diff places
valued w.Lhs places = forms.left places
valued w.Rhs places = forms.right places
valued w.System places = forms.system places
valued w.Action places = forms.action places
valued w.Adjoint places = forms.adjoint places
valued _ places = Err r.Kind

-- the function's value at these arguments, without a keyword
abbrev pub plain : Word → List Value → Made → Making Value
plain w.TestFunction places m = fun.argument_of Test places m
plain w.TrialFunction places m = fun.argument_of Trial places m
plain w.TestFunctions places m = fun.arguments_of Test places m
plain w.TrialFunctions places m = fun.arguments_of Trial places m
plain w.Split places m = fun.split_of places m
plain w.Coefficient places m = fun.coefficient_in places m
plain w.Constant places m = fun.constant_of places m
plain w.VectorConstant places m = fun.vector_constant_of places m
plain w.SpatialCoordinate places m = fun.position_of places m
plain w.Variable places m = tensors.variable places m
plain w.Derivative places m = unmade (forms.derivative (table_of m.elements) places) m
plain function places m = unmade (valued function places) m

-- with the value of its keyword, where it takes one
abbrev pub applied : Word → List Value → Option Value → Made → Making Value
applied w.VectorElement places extra m = unmade (vector_element places extra) m
applied w.TensorElement places extra m = unmade (tensor_element places extra) m
applied function places extra m = plain function places m

abbrev pub applied_to : Word → Given → Made → Making Value
applied_to function given m =
    after (unmade (keyword_value given.keyed (keyword function)) m) (λ extra m1. applied function given.places extra m1)

-- a refusal with the line of the statement and a word
abbrev pub Refusable : Type 0 → Type 0
Refusable A = Result (A × Made) FormRefusal

-- the wanted value and what is made then, or the wanted refusal, or want of memory
abbrev pub Finds : {A M : Type 0} → Result A FormRefusal → M → Result (A × M) FormRefusal → Type 0
Finds (Ok x) m want = want ≡ Ok (x, m)
Finds (Err e) m want = (e ≡ wordless k.Memory 0) ⊎ (want ≡ Err e)

abbrev pub at_word : {A : Type 0} → ℕ → Span → Making A → Refusable A
at_word line word (Ok p) = Ok p
at_word line word (Err e) = Err (refused e line word)

-- Kind of the call comes before a keyword that it doesn't take, which comes before all else
abbrev pub with_keywords : ℕ → Span → Option Span → Making Value → Refusable Value
with_keywords line word None answer = at_word line word answer
with_keywords line word (Some other) (Err r.Kind) = Err (refused r.Kind line word)
with_keywords line word (Some other) _ = Err (refused r.Unsupported line other)

-- the refusal of a call with a keyword that it doesn't take
abbrev pub keyword_refused : Result Value Reason → ℕ → Span → Span → FormRefusal
keyword_refused (Err r.Kind) line word other = refused r.Kind line word
keyword_refused (Err r.Memory) line word other = refused r.Memory line word
keyword_refused _ line word other = refused r.Unsupported line other

-- `dx(k)`: of one number alone
abbrev pub marked_at : Value → Result Value Reason
marked_at (v.Number c) = and_then (marker_of c) (λ k. Ok (v.Measure (on.Marked k)))
marked_at _ = Err r.Unsupported

abbrev pub marked_of : List Value → Result Value Reason
marked_of (a ∷ []) = marked_at a
marked_of _ = Err r.Unsupported

abbrev pub bare : {A : Type 0} → List A → Bool
bare [] = true
bare (k ∷ ks) = false

abbrev pub marked : Given → Result Value Reason
marked given = if bare given.keyed then marked_of given.places else Err r.Unsupported

abbrev pub function_called : ℕ → Word → Span → Given → Made → Refusable Value
function_called line function word given m =
    with_keywords line word (unknown_keyword given.keyed (keyword function)) (applied_to function given m)

abbrev pub called : ℕ → Value → Span → Given → Made → Refusable Value
called line (v.Function function) word given m = function_called line function word given m
called line (v.Measure on.All) word given m = at_word line word (unmade (marked given) m)
called line _ word given m = Err (refused r.Kind line word)

-- ---- attributes
-- `a.T`
abbrev pub transposed : Value → Result Value Reason
transposed a = one_of Transpose a

-- one derivative after the other
abbrev pub derivatives : Tree → List Value → Result Tree Reason
derivatives x [] = Ok x
derivatives x (a ∷ others) =
    and_then (index_of a) (λ i. and_then (typed_as same_tree (built (partial_kind (kind_of x) i) (n.Partial x i))) (λ y.
    derivatives y others))

-- the operand: an expression, and one argument at least
abbrev pub along_operand : Value → ℕ → Result Tree Reason
along_operand a zero = Err r.Kind
along_operand a (suc count) = expression_of a

abbrev pub along_by : ℕ → Span → Option Span → Result Value Reason → Made → Refusable Value
along_by line word (Some keyword) answer m = Err (refused r.Unsupported line keyword)
along_by line word None answer m = at_word line word (unmade answer m)

abbrev pub along_from : ℕ → Span → Given → Result Tree Reason → Made → Refusable Value
along_from line word given (Err e) m = Err (refused e line word)
along_from line word given (Ok x) m =
    along_by line word (unknown_keyword given.keyed None) (and_then (derivatives x given.places) (λ y. Ok (v.Expr y))) m

-- `a.dx(..)`: the operand, then its keywords, then the directions
abbrev pub along : ℕ → Value → Span → Given → Made → Refusable Value
along line a word given m = along_from line word given (along_operand a (length given.places + length given.keyed)) m
