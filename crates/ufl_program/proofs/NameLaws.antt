-- What names mean, and calls with what they make
use Rattle.std.proofs.Common.{ℕ, zero, suc, ◌+◌, List, [], ◌∷◌, length, Bool, true, false, if◌then◌else◌, Option, None, Some, Result, Ok, Err}
use Rattle.std.specs.Prelude.{IfOk, codes}
use Rattle.std.specs.Str.{bytes_eq}
use Rattle.spaces.specs.declared.cell.Cell.{Cell}
use Rattle.ufl_syntax.specs.declared.span.Span.{Span}
use Rattle.ufl_tree.specs.declared.function.On.TheVariants as on
use Rattle.ufl_tree.specs.declared.tree.Tree.{Tree}
use Rattle.ufl_tree.specs.declared.tree.Node.TheVariants as n
use Rattle.ufl_tree.specs.Places.{table_of}
use Rattle.ufl_tree.specs.Reading.{kind_of}
use Rattle.ufl_expr.specs.Table.{partial_kind}
use Rattle.ufl_expr.specs.Building.{built}
use Rattle.ufl_values.specs.declared.refusal.Reason.{Reason}
use Rattle.ufl_values.specs.declared.refusal.Reason.TheVariants as r
use Rattle.ufl_values.specs.declared.value.Value.{Value, Tuple', List'}
use Rattle.ufl_values.specs.declared.value.Value.TheVariants as v
use Rattle.ufl_values.specs.declared.words.Word.{Word}
use Rattle.ufl_values.specs.declared.words.Word.TheVariants as w
use Rattle.ufl_values.specs.Answer.{and_then, typed_as}
use Rattle.ufl_values.specs.Numbers.{index_of, marker_of}
use Rattle.ufl_values.specs.Unsupported.{is_unsupported}
use Rattle.ufl_values.specs.Values.{same_tree}
use Rattle.ufl_values.specs.Words.{function_named, index_number}
use Rattle.ufl_calls.specs.declared.arguments.Given.{Given}
use Rattle.ufl_calls.specs.declared.made.Made.{Made}
use Rattle.ufl_calls.specs.Made.{Making, unmade}
use Rattle.ufl_calls.specs.Arguments.{unknown_keyword, keyword_value}
use Rattle.ufl_calls.specs.Elements.{vector_element, tensor_element}
use Rattle.ufl_calls.specs.Calls.{cell_named, named_function, named_index, named_cell, table_value, keyword, valued, plain, applied, applied_to, at_word, with_keywords, bare, marked_at, marked_of, marked, called, derivatives, along_operand, along_by, along_from, along}
use Rattle.ufl_program.proofs.StepLaws.{Any, anything, where_ok, then_keeps, typed_keeps}
use Rattle.ufl_program.proofs.TreeLaws.{sound_partial}
use Rattle.ufl_program.proofs.Parts.{of_cell, of_index, of_measure, of_function, of_expression}
use Rattle.ufl_program.proofs.OperatorLaws.{expression_keeps}
use Rattle.ufl_program.proofs.CallLaws.{vector_keeps, tensor_element_keeps, valued_keeps, call_derivative}
use Rattle.ufl_program.proofs.MadeLaws.{Sound, AllSound, TreeSound, Makes, Nothing, all_still, unmade_keeps, after_keeps, test_keeps, trial_keeps, tests_keep, trials_keep, split_keeps, call_coefficient, call_constant, call_vector_constant, call_position, variable_keeps}

-- ---- names of the language
module _ (m : Made) where
  function_named_keeps : (o : Option Word) → IfOk (named_function o) (Sound m)
  function_named_keeps None = tt
  function_named_keeps (Some x) = of_function (table_of m.elements) m.coefficients x

  measure_or : (b : Bool) (o : Option Word) → IfOk (if b then Ok (v.Measure on.All) else named_function o) (Sound m)
  measure_or true o = of_measure (table_of m.elements) m.coefficients on.All
  measure_or false o = function_named_keeps o

  index_named_keeps : (o : Option ℕ) (name : List ℕ) → IfOk (named_index o name) (Sound m)
  index_named_keeps (Some k) name = of_index (table_of m.elements) m.coefficients k
  index_named_keeps None name = measure_or (bytes_eq name (codes "dx")) (function_named name)

  cell_named_keeps : (o : Option Cell) (name : List ℕ) → IfOk (named_cell o name) (Sound m)
  cell_named_keeps (Some c) name = of_cell (table_of m.elements) m.coefficients c
  cell_named_keeps None name = index_named_keeps (index_number name) name

  unsupported_or : (b : Bool) (o : Option Cell) (name : List ℕ) → IfOk (if b then Err r.Unsupported else named_cell o name) (Sound m)
  unsupported_or true o name = tt
  unsupported_or false o name = cell_named_keeps o name

  pub table_keeps : (name : List ℕ) → IfOk (table_value name) (Sound m)
  unfolding table_value
  table_keeps name = unsupported_or (is_unsupported name) (cell_named name) name

-- ---- calls of functions
call_plain : (function : Word) (places : List Value) (m : Made) → AllSound m places → IfOk (unmade (valued function places) m) (Makes Sound m)
call_plain function places m h = unmade_keeps (valued function places) m Sound (valued_keeps (table_of m.elements) m.coefficients function places h)

plain_keeps : (function : Word) (places : List Value) (m : Made) → AllSound m places → IfOk (plain function places m) (Makes Sound m)
plain_keeps w.TestFunction places m h = test_keeps places m
plain_keeps w.TrialFunction places m h = trial_keeps places m
plain_keeps w.TestFunctions places m h = tests_keep places m
plain_keeps w.TrialFunctions places m h = trials_keep places m
plain_keeps w.Split places m h = split_keeps places m h
plain_keeps w.Coefficient places m h = call_coefficient places m
plain_keeps w.Constant places m h = call_constant places m
plain_keeps w.VectorConstant places m h = call_vector_constant places m
plain_keeps w.SpatialCoordinate places m h = call_position places m
plain_keeps w.Variable places m h = variable_keeps places m h
plain_keeps w.Derivative places m h = unmade_keeps _ m Sound (call_derivative (table_of m.elements) m.coefficients places h)
plain_keeps w.FiniteElement places m h = call_plain w.FiniteElement places m h
plain_keeps w.VectorElement places m h = call_plain w.VectorElement places m h
plain_keeps w.TensorElement places m h = call_plain w.TensorElement places m h
plain_keeps w.MixedElement places m h = call_plain w.MixedElement places m h
plain_keeps (w.One op) places m h = call_plain (w.One op) places m h
plain_keeps (w.Two op) places m h = call_plain (w.Two op) places m h
plain_keeps w.Dx places m h = call_plain w.Dx places m h
plain_keeps w.Identity places m h = call_plain w.Identity places m h
plain_keeps w.AsVector places m h = call_plain w.AsVector places m h
plain_keeps w.AsMatrix places m h = call_plain w.AsMatrix places m h
plain_keeps w.AsTensor places m h = call_plain w.AsTensor places m h
plain_keeps w.Diff places m h = call_plain w.Diff places m h
plain_keeps w.Lhs places m h = call_plain w.Lhs places m h
plain_keeps w.Rhs places m h = call_plain w.Rhs places m h
plain_keeps w.System places m h = call_plain w.System places m h
plain_keeps w.Action places m h = call_plain w.Action places m h
plain_keeps w.Adjoint places m h = call_plain w.Adjoint places m h

applied_keeps : (function : Word) (places : List Value) (extra : Option Value) (m : Made) → AllSound m places
    → IfOk (applied function places extra m) (Makes Sound m)
applied_keeps w.VectorElement places extra m h =
    unmade_keeps (vector_element places extra) m Sound (vector_keeps (table_of m.elements) m.coefficients places extra)
applied_keeps w.TensorElement places extra m h =
    unmade_keeps (tensor_element places extra) m Sound (tensor_element_keeps (table_of m.elements) m.coefficients places extra)
applied_keeps w.TestFunction places extra m h = plain_keeps w.TestFunction places m h
applied_keeps w.TrialFunction places extra m h = plain_keeps w.TrialFunction places m h
applied_keeps w.TestFunctions places extra m h = plain_keeps w.TestFunctions places m h
applied_keeps w.TrialFunctions places extra m h = plain_keeps w.TrialFunctions places m h
applied_keeps w.Split places extra m h = plain_keeps w.Split places m h
applied_keeps w.Coefficient places extra m h = plain_keeps w.Coefficient places m h
applied_keeps w.Constant places extra m h = plain_keeps w.Constant places m h
applied_keeps w.VectorConstant places extra m h = plain_keeps w.VectorConstant places m h
applied_keeps w.SpatialCoordinate places extra m h = plain_keeps w.SpatialCoordinate places m h
applied_keeps w.Variable places extra m h = plain_keeps w.Variable places m h
applied_keeps w.Derivative places extra m h = plain_keeps w.Derivative places m h
applied_keeps w.FiniteElement places extra m h = plain_keeps w.FiniteElement places m h
applied_keeps w.MixedElement places extra m h = plain_keeps w.MixedElement places m h
applied_keeps (w.One op) places extra m h = plain_keeps (w.One op) places m h
applied_keeps (w.Two op) places extra m h = plain_keeps (w.Two op) places m h
applied_keeps w.Dx places extra m h = plain_keeps w.Dx places m h
applied_keeps w.Identity places extra m h = plain_keeps w.Identity places m h
applied_keeps w.AsVector places extra m h = plain_keeps w.AsVector places m h
applied_keeps w.AsMatrix places extra m h = plain_keeps w.AsMatrix places m h
applied_keeps w.AsTensor places extra m h = plain_keeps w.AsTensor places m h
applied_keeps w.Diff places extra m h = plain_keeps w.Diff places m h
applied_keeps w.Lhs places extra m h = plain_keeps w.Lhs places m h
applied_keeps w.Rhs places extra m h = plain_keeps w.Rhs places m h
applied_keeps w.System places extra m h = plain_keeps w.System places m h
applied_keeps w.Action places extra m h = plain_keeps w.Action places m h
applied_keeps w.Adjoint places extra m h = plain_keeps w.Adjoint places m h

applied_to_keeps : (function : Word) (given : Given) (m : Made) → AllSound m given.places → IfOk (applied_to function given m) (Makes Sound m)
applied_to_keeps function given m h =
    after_keeps (unmade (keyword_value given.keyed (keyword function)) m) (λ extra m1. applied function given.places extra m1) m Nothing Sound
    (unmade_keeps (keyword_value given.keyed (keyword function)) m Nothing (anything _))
    (λ extra k G N. applied_keeps function given.places extra k (all_still m k G given.places h))

pub at_word_keeps : {A : Type 0} (line : ℕ) (word : Span) (answer : Making A) (P : A × Made → Type 0) → IfOk answer P → IfOk (at_word line word answer) P
at_word_keeps line word (Ok p) P h = h
at_word_keeps line word (Err e) P h = tt

with_keywords_keep : (line : ℕ) (word : Span) (o : Option Span) (answer : Making Value) (P : Value × Made → Type 0) → IfOk answer P
    → IfOk (with_keywords line word o answer) P
with_keywords_keep line word None answer P h = at_word_keeps line word answer P h
with_keywords_keep line word (Some other) (Ok p) P h = tt
with_keywords_keep line word (Some other) (Err r.Kind) P h = tt
with_keywords_keep line word (Some other) (Err r.UnknownName) P h = tt
with_keywords_keep line word (Some other) (Err r.Unsupported) P h = tt
with_keywords_keep line word (Some other) (Err r.Shape) P h = tt
with_keywords_keep line word (Some other) (Err r.FreeIndex) P h = tt
with_keywords_keep line word (Some other) (Err r.NumberRange) P h = tt
with_keywords_keep line word (Some other) (Err r.Nodes) P h = tt
with_keywords_keep line word (Some other) (Err r.Memory) P h = tt

module _ (m : Made) where
  marked_at_keeps : (a : Value) → IfOk (marked_at a) (Sound m)
  marked_at_keeps (v.Number c) =
      then_keeps (marker_of c) (λ k. Ok (v.Measure (on.Marked k))) Any (Sound m) (anything _) (λ k K. of_measure (table_of m.elements) m.coefficients (on.Marked k))
  marked_at_keeps (v.Expr x) = tt
  marked_at_keeps (v.Form u) = tt
  marked_at_keeps (v.Element u) = tt
  marked_at_keeps (v.Function x) = tt
  marked_at_keeps (v.Cell c) = tt
  marked_at_keeps (v.Index k) = tt
  marked_at_keeps (v.Measure o) = tt
  marked_at_keeps (v.Text a b) = tt
  marked_at_keeps (Tuple' a b) = tt
  marked_at_keeps (List' a b) = tt

  marked_of_keeps : (places : List Value) → IfOk (marked_of places) (Sound m)
  marked_of_keeps [] = tt
  marked_of_keeps (a ∷ []) = marked_at_keeps a
  marked_of_keeps (a ∷ (b ∷ others)) = tt

  marked_by : (b : Bool) (places : List Value) → IfOk (if b then marked_of places else Err r.Unsupported) (Sound m)
  marked_by true places = marked_of_keeps places
  marked_by false places = tt

  marked_keeps : (given : Given) → IfOk (marked given) (Sound m)
  marked_keeps given = marked_by (bare given.keyed) given.places

pub called_keeps : (line : ℕ) (callee : Value) (word : Span) (given : Given) (m : Made) → AllSound m given.places
    → IfOk (called line callee word given m) (Makes Sound m)
called_keeps line (v.Function function) word given m h =
    with_keywords_keep line word (unknown_keyword given.keyed (keyword function)) (applied_to function given m) (Makes Sound m) (applied_to_keeps function given m h)
called_keeps line (v.Measure on.All) word given m h =
    at_word_keeps line word (unmade (marked given) m) (Makes Sound m) (unmade_keeps (marked given) m Sound (marked_keeps m given))
called_keeps line (v.Measure (on.Marked k)) word given m h = tt
called_keeps line (v.Number c) word given m h = tt
called_keeps line (v.Expr x) word given m h = tt
called_keeps line (v.Form u) word given m h = tt
called_keeps line (v.Element u) word given m h = tt
called_keeps line (v.Cell c) word given m h = tt
called_keeps line (v.Index k) word given m h = tt
called_keeps line (v.Text a b) word given m h = tt
called_keeps line (Tuple' a b) word given m h = tt
called_keeps line (List' a b) word given m h = tt

-- ---- derivatives of an attribute
derivatives_keep : (m : Made) (x : Tree) (places : List Value) → TreeSound m x → IfOk (derivatives x places) (TreeSound m)
derivatives_keep m x [] h = h
derivatives_keep m x (a ∷ others) h =
    then_keeps (index_of a) (λ i. and_then (typed_as same_tree (built (partial_kind (kind_of x) i) (n.Partial x i))) (λ y. derivatives y others)) Any (TreeSound m)
    (anything _)
    (λ i I. then_keeps (typed_as same_tree (built (partial_kind (kind_of x) i) (n.Partial x i))) (λ y. derivatives y others) (TreeSound m) (TreeSound m)
    (typed_keeps same_tree (built (partial_kind (kind_of x) i) (n.Partial x i)) (TreeSound m) (TreeSound m)
    (where_ok (built (partial_kind (kind_of x) i) (n.Partial x i)) (TreeSound m) (λ u e. sound_partial (table_of m.elements) m.coefficients x i u e h)) (λ y Y. Y))
    (λ y Y. derivatives_keep m y others Y))

operand_keeps : (m : Made) (a : Value) (count : ℕ) → Sound m a → IfOk (along_operand a count) (TreeSound m)
operand_keeps m a zero h = tt
operand_keeps m a (suc count) h = expression_keeps (table_of m.elements) m.coefficients a h

along_by_keeps : (line : ℕ) (word : Span) (o : Option Span) (answer : Result Value Reason) (m : Made) → IfOk answer (Sound m)
    → IfOk (along_by line word o answer m) (Makes Sound m)
along_by_keeps line word (Some other) answer m h = tt
along_by_keeps line word None answer m h = at_word_keeps line word (unmade answer m) (Makes Sound m) (unmade_keeps answer m Sound h)

along_from_keeps : (line : ℕ) (word : Span) (given : Given) (operand : Result Tree Reason) (m : Made) → IfOk operand (TreeSound m)
    → IfOk (along_from line word given operand m) (Makes Sound m)
along_from_keeps line word given (Err e) m h = tt
along_from_keeps line word given (Ok x) m h =
    along_by_keeps line word (unknown_keyword given.keyed None) _ m
    (then_keeps (derivatives x given.places) (λ y. Ok (v.Expr y)) (TreeSound m) (Sound m) (derivatives_keep m x given.places h)
    (of_expression (table_of m.elements) m.coefficients))

pub along_keeps : (line : ℕ) (a : Value) (word : Span) (given : Given) (m : Made) → Sound m a → IfOk (along line a word given m) (Makes Sound m)
along_keeps line a word given m h =
    along_from_keeps line word given (along_operand a (length given.places + length given.keyed)) m
    (operand_keeps m a (length given.places + length given.keyed) h)
