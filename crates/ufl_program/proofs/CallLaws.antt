-- Values of calls that make nothing are sound where their arguments are
use Rattle.std.proofs.Common.{◌≡◌, ◌*◌, ℕ, List, [], ◌∷◌, ◌++◌, length, map, ◌==◌, Bool, true, false, if◌then◌else◌, Option, None, Some, Result, Ok, Err, sym, subst}
use Rattle.std.specs.Prelude.{IfOk, IfSome}
use Rattle.spaces.specs.declared.element_tree.ElementTree.{ElementTree}
use Rattle.spaces.specs.declared.element_tree.ElementTree.TheVariants as e
use Rattle.spaces.specs.declared.refusal.SpaceRefusal.{SpaceRefusal}
use Rattle.spaces.specs.Reading.{space_of}
use Rattle.spaces.specs.Cell.{dimension}
use Rattle.spaces.specs.Refusal.{block_refusal}
use Rattle.ufl_tree.specs.declared.function.Function.{Function}
use Rattle.ufl_tree.specs.declared.function.Role.TheVariants.{Test, Trial}
use Rattle.ufl_tree.specs.declared.tree.Op1.{Op1}
use Rattle.ufl_tree.specs.declared.tree.Op2.{Op2}
use Rattle.ufl_tree.specs.declared.tree.Tree.{Tree}
use Rattle.ufl_tree.specs.declared.tree.Node.TheVariants as n
use Rattle.ufl_tree.specs.Places.{Table}
use Rattle.ufl_tree.specs.Typed.{Typed, number, identity, function, piece, one, two, power, index, partial, tensor, list, variable, diff}
use Rattle.ufl_tree.specs.Reading.{typed_of, kind_of}
use Rattle.ufl_expr.specs.declared.refusal.TypeRefusal.{TypeRefusal}
use Rattle.ufl_expr.specs.declared.refusal.TypeRefusal.TheVariants as t
use Rattle.ufl_expr.specs.Table.{identity_kind, partial_kind, tensor_kind, list_kind, label_of}
use Rattle.ufl_expr.specs.Building.{built, diff_by, EachTree}
use Rattle.ufl_expr.specs.Numbered.{IsElementOf, HasItsElement, IsNumbered}
use Rattle.ufl_form.specs.declared.form_tree.FormTree.{FormTree}
use Rattle.ufl_form.specs.declared.form_tree.FormTree.TheVariants as f
use Rattle.ufl_form.specs.declared.pattern_set.PatternSet.{PatternSet}
use Rattle.ufl_form.specs.Patterns.{has_trial, has_test}
use Rattle.ufl_form.specs.Reading.{form_of}
use Rattle.ufl_form.specs.Table.{last_of, form_patterns}
use Rattle.ufl_form.specs.Building.{formed, acted, derived}
use Rattle.ufl_values.specs.declared.refusal.Reason.{Reason}
use Rattle.ufl_values.specs.declared.refusal.Reason.TheVariants as r
use Rattle.ufl_values.specs.declared.value.Value.{Value, Value-F, Tuple', List', roll-Value, map-Value, ind-Value}
use Rattle.ufl_values.specs.declared.value.Value.TheVariants as v
use Rattle.ufl_values.specs.declared.words.Word.{Word}
use Rattle.ufl_values.specs.declared.words.Word.TheVariants as w
use Rattle.ufl_values.specs.Answer.{typed_as}
use Rattle.ufl_values.specs.Numbers.{index_of, whole_number, or_refusal}
use Rattle.ufl_values.specs.Values.{same_tree, expression_of, tuple_of}
use Rattle.ufl_values.specs.Operators.{one_of, two_of, mixed_of}
use Rattle.ufl_calls.specs.Arguments.{only_list, one_place, two_places, three_places}
use Rattle.ufl_calls.specs.Groups.{is_small, grouped}
use Rattle.ufl_calls.specs.Elements.{number_in, part_of, scalar_of, or_unsupported, block_of, size_or, sizes_or, finite_element, vector_element, tensor_element, elements_in, mixed_in, mixed_from}
use Rattle.ufl_calls.specs.Functions.{function_at, whole_function}
use Rattle.ufl_calls.specs.Tensors.{operator_of_one, operator_of_two, partial_along, derivative_along, identity_of, identity as identity_call, wrong_rank, ranked, is_other, rank_of_list, listed, Item, items_from, list_of_items, item_of, bound_by, tensor_by, tensor_from, tensor as tensor_call, diff as diff_call}
use Rattle.ufl_calls.specs.Forms.{form_in, only_form, left, right, pair_of, left_side, right_side, pair_with, both_sides, system, adjoint, action_on, action, next_argument, derivative_along as form_along, next_derivative, derivative_by, derivative_of_three, derivative_of_two, derivative}
use Rattle.ufl_calls.specs.Calls.{valued}
use Rattle.ufl_calls.proofs.ItemReadings.{item_of-Number, item_of-Expr, item_of-Form, item_of-Element, item_of-Function, item_of-Cell, item_of-Index, item_of-Measure, item_of-Text, item_of-Tuple, item_of-List}
use Rattle.ufl_program.specs.Sound.{SoundTree, SoundForm}
use Rattle.ufl_program.proofs.StepLaws.{Any, anything, where_ok, then_keeps, typed_keeps}
use Rattle.ufl_program.proofs.TreeLaws.{sound_identity, sound_partial, sound_tensor, sound_list, sound_diff}
use Rattle.ufl_program.proofs.FormLaws.{sound_left, sound_right, sound_adjoint, sound_action, sound_derivative}
use Rattle.ufl_program.proofs.Parts.{SoundValue, SoundValues, of_element, of_expression, in_expression, in_form, of_tuple, in_list, list_items}
use Rattle.ufl_program.proofs.OperatorLaws.{expression_keeps, tree_value, form_value, one_keeps, two_keeps, mixed_keeps}

module _ (table : Table) (numbers : List ℕ) where
  abbrev V : Value → Type 0
  V = SoundValue table numbers

  abbrev Vs : List Value → Type 0
  Vs = SoundValues table numbers

  abbrev T : Tree → Type 0
  T = SoundTree table numbers

  abbrev F : FormTree → Type 0
  F = SoundForm table numbers

  abbrev Has : Function → Type 0
  Has = HasItsElement numbers

  -- ---- arguments
  abbrev Two : Value × Value → Type 0
  Two p = V p.0 × V p.1

  abbrev Three : Value × Value × Value → Type 0
  Three p = V p.0 × V p.1 × V p.2

  pub one_kept : (places : List Value) → Vs places → IfOk (one_place places) V
  one_kept [] h = tt
  one_kept (a ∷ []) h = h.0
  one_kept (a ∷ (b ∷ others)) h = tt

  two_kept : (places : List Value) → Vs places → IfOk (two_places places) Two
  two_kept [] h = tt
  two_kept (a ∷ []) h = tt
  two_kept (a ∷ (b ∷ [])) h = (h.0, h.1.0)
  two_kept (a ∷ (b ∷ (c ∷ others))) h = tt

  three_kept : (places : List Value) → Vs places → IfOk (three_places places) Three
  three_kept [] h = tt
  three_kept (a ∷ []) h = tt
  three_kept (a ∷ (b ∷ [])) h = tt
  three_kept (a ∷ (b ∷ (c ∷ []))) h = (h.0, h.1.0, h.1.1.0)
  three_kept (a ∷ (b ∷ (c ∷ (d ∷ others)))) h = tt

  -- ---- elements
  finite_keeps : (places : List Value) → IfOk (finite_element places) V
  finite_keeps places =
      then_keeps (scalar_of places) _ Any V (anything _) (λ s S.
      then_keeps (or_unsupported s.element) _ Any V (anything _) (λ u U. of_element table numbers u))

  block_keeps : (o : Option SpaceRefusal) (u : ElementTree) → IfOk (block_of o u) V
  block_keeps None u = of_element table numbers u
  block_keeps (Some x) u = tt

  pub vector_keeps : (places : List Value) (dim : Option Value) → IfOk (vector_element places dim) V
  vector_keeps places dim =
      then_keeps (part_of places) _ Any V (anything _) (λ s S.
      then_keeps (size_or (dimension s.cell) dim) _ Any V (anything _) (λ m M.
      then_keeps (or_unsupported s.element) _ Any V (anything _) (λ u U. block_keeps (block_refusal (space_of u) m) (e.Vector u m))))

  pub tensor_element_keeps : (places : List Value) (shape : Option Value) → IfOk (tensor_element places shape) V
  tensor_element_keeps places shape =
      then_keeps (part_of places) _ Any V (anything _) (λ s S.
      then_keeps (sizes_or (dimension s.cell) shape) _ Any V (anything _) (λ m M.
      then_keeps (or_unsupported s.element) _ Any V (anything _) (λ u U. block_keeps (block_refusal (space_of u) (m.0 * m.1)) (e.Tensor u m.0 m.1))))

  mixed_in_keeps : (values : List Value) → IfOk (mixed_in values) V
  mixed_in_keeps values = then_keeps (elements_in values) mixed_of Any V (anything _) (λ us U. mixed_keeps table numbers us)

  mixed_from_keeps : (o : Option (List Value)) (values : List Value) → IfOk (mixed_from o values) V
  mixed_from_keeps (Some items) values = mixed_in_keeps items
  mixed_from_keeps None values = mixed_in_keeps values

  -- ---- expressions
  partial_keeps : (a by : Value) → V a → IfOk (partial_along a by) V
  partial_keeps a by A =
      then_keeps (expression_of a) _ T V (expression_keeps table numbers a A) (λ x X.
      then_keeps (index_of by) (λ i. typed_as v.Expr (built (partial_kind (kind_of x) i) (n.Partial x i))) Any V (anything _) (λ i I.
      tree_value table numbers _ (where_ok (built (partial_kind (kind_of x) i) (n.Partial x i)) T (λ u h. sound_partial table numbers x i u h X))))

  identity_keeps : (m : ℕ) → IfOk (identity_of m) V
  identity_keeps m = tree_value table numbers _ (where_ok (built (identity_kind m) (n.Identity m)) T (λ u h. sound_identity table numbers m u h))

  identity_call_keeps : (places : List Value) → IfOk (identity_call places) V
  identity_call_keeps places =
      then_keeps (one_place places) _ Any V (anything _) (λ a A.
      then_keeps (number_in a) _ Any V (anything _) (λ c C.
      then_keeps (or_refusal r.Kind (whole_number c)) identity_of Any V (anything _) (λ m M. identity_keeps m)))

  -- ---- lists of expressions
  wrong : (answer : Result Tree TypeRefusal) → IfOk (wrong_rank answer) T
  wrong (Ok x) = tt
  wrong (Err t.Kind) = tt
  wrong (Err t.Shape) = tt
  wrong (Err t.FreeIndex) = tt
  wrong (Err t.Nodes) = tt
  wrong (Err t.Memory) = tt

  ranked_keeps : (b : Bool) (answer : Result Tree TypeRefusal) → IfOk answer T → IfOk (ranked b answer) T
  ranked_keeps true answer h = wrong answer
  ranked_keeps false answer h = typed_keeps same_tree answer T T h (λ x X. X)

  listed_keeps : (wanted : Option ℕ) (xs : List Tree) → EachTree T xs → IfOk (listed wanted xs) T
  listed_keeps wanted xs X =
      ranked_keeps (is_other (rank_of_list xs) wanted) (built (list_kind (map kind_of xs)) (n.List xs))
      (where_ok (built (list_kind (map kind_of xs)) (n.List xs)) T (λ u h. sound_list table numbers xs u h X))

  abbrev GoodItem : Item → Type 0
  GoodItem o = IfSome o (λ answer. IfOk answer T)

  abbrev GoodItems : List Item → Type 0
  GoodItems [] = Unit {0}
  GoodItems (o ∷ os) = GoodItem o × GoodItems os

  also : (xs : List Tree) (x : Tree) → EachTree T xs → T x → EachTree T (xs ++ x ∷ [])
  also [] x X h = (h, tt)
  also (y ∷ xs) x X h = (X.0, also xs x X.1 h)

  items_end : (xs : List Tree) (odd : Bool) → EachTree T xs → IfOk (items_from xs odd []) (EachTree T)
  items_end xs true X = tt
  items_end xs false X = X

  items_keep : (xs : List Tree) (odd : Bool) (os : List Item) → EachTree T xs → GoodItems os → IfOk (items_from xs odd os) (EachTree T)
  items_keep xs odd [] X h = items_end xs odd X
  items_keep xs odd (None ∷ os) X h = items_keep xs true os X h.1
  items_keep xs odd (Some answer ∷ os) X h =
      then_keeps answer (λ x. items_from (xs ++ x ∷ []) odd os) T (EachTree T) h.0 (λ x A. items_keep (xs ++ x ∷ []) odd os (also xs x X A) h.1)

  list_keeps : (wanted : Option ℕ) (os : List Item) → GoodItems os → IfOk (list_of_items wanted os) T
  list_keeps wanted os h = then_keeps (items_from [] false os) (listed wanted) (EachTree T) T (items_keep [] false os tt h) (listed_keeps wanted)

  abbrev HasGoodItem : Value → Type 0
  HasGoodItem a = V a → GoodItem (item_of a)

  abbrev Known : Type 0
  Known = (a : Value) × HasGoodItem a

  known_items : (es : List Known) → Vs (map (λ k. k.0) es) → GoodItems (map item_of (map (λ k. k.0) es))
  known_items [] h = tt
  known_items (k ∷ es) h = (k.1 h.0, known_items es h.1)

  no_item : (a : Value) → item_of a ≡ None → HasGoodItem a
  no_item a h A = subst GoodItem (sym h) tt

  item_step : (y : Value-F Known) → HasGoodItem (roll-Value (map-Value _ _ (λ (k : Known). k.0) y))
  item_step (Value-F.Number c) =
      subst HasGoodItem (sym (v.rolls-Number c)) (λ A. subst GoodItem (sym (item_of-Number c)) (expression_keeps table numbers (v.Number c) A))
  item_step (Value-F.Expr x) = subst HasGoodItem (sym (v.rolls-Expr x)) (λ A. subst GoodItem (sym (item_of-Expr x)) (in_expression table numbers x A))
  item_step (Value-F.List es) =
      let vs = map (λ (k : Known). k.0) es in
      subst HasGoodItem (sym (v.rolls-List vs))
      (λ A. subst GoodItem (sym (item_of-List vs)) (list_keeps None (map item_of vs) (known_items es (in_list table numbers vs A))))
  item_step (Value-F.Form u) = subst HasGoodItem (sym (v.rolls-Form u)) (no_item (v.Form u) (item_of-Form u))
  item_step (Value-F.Element u) = subst HasGoodItem (sym (v.rolls-Element u)) (no_item (v.Element u) (item_of-Element u))
  item_step (Value-F.Function x) = subst HasGoodItem (sym (v.rolls-Function x)) (no_item (v.Function x) (item_of-Function x))
  item_step (Value-F.Cell c) = subst HasGoodItem (sym (v.rolls-Cell c)) (no_item (v.Cell c) (item_of-Cell c))
  item_step (Value-F.Index k) = subst HasGoodItem (sym (v.rolls-Index k)) (no_item (v.Index k) (item_of-Index k))
  item_step (Value-F.Measure o) = subst HasGoodItem (sym (v.rolls-Measure o)) (no_item (v.Measure o) (item_of-Measure o))
  item_step (Value-F.Text a b) = subst HasGoodItem (sym (v.rolls-Text a b)) (no_item (v.Text a b) (item_of-Text a b))
  item_step (Value-F.Tuple es) =
      let vs = map (λ (k : Known). k.0) es in
      subst HasGoodItem (sym (v.rolls-Tuple vs)) (no_item (v.Tuple vs) (item_of-Tuple vs))

  good_item : (a : Value) → HasGoodItem a
  good_item = ind-Value HasGoodItem (λ x y is. subst (λ z. HasGoodItem (roll-Value z)) is (item_step y))

  good_items : (vs : List Value) → Vs vs → GoodItems (map item_of vs)
  good_items [] h = tt
  good_items (a ∷ vs) h = (good_item a h.0, good_items vs h.1)

  call_operator_one : (op : Op1) (places : List Value) → Vs places → IfOk (operator_of_one op places) V
  call_operator_one op places h = then_keeps (one_place places) (one_of op) V V (one_kept places h) (one_keeps table numbers op)

  call_operator_two : (op : Op2) (places : List Value) → Vs places → IfOk (operator_of_two op places) V
  call_operator_two op places h =
      then_keeps (two_places places) (λ p. two_of op p.0 p.1) Two V (two_kept places h) (λ p P. two_keeps table numbers op p.0 p.1 P.0 P.1)

  call_derivative_along : (places : List Value) → Vs places → IfOk (derivative_along places) V
  call_derivative_along places h =
      then_keeps (two_places places) (λ p. partial_along p.0 p.1) Two V (two_kept places h) (λ p P. partial_keeps p.0 p.1 P.0)

  tensor_by_keeps : (wanted : Option ℕ) (body by : Value) → V body → IfOk (tensor_by wanted body by) V
  tensor_by_keeps wanted body by A =
      then_keeps (expression_of body) _ T V (expression_keeps table numbers body A) (λ x X.
      then_keeps (bound_by (tuple_of by) by) _ Any V (anything _) (λ ks K.
      then_keeps (ranked (is_other (length ks) wanted) (built (tensor_kind (kind_of x) ks) (n.Tensor x ks))) _ T V
      (ranked_keeps (is_other (length ks) wanted) (built (tensor_kind (kind_of x) ks) (n.Tensor x ks))
      (where_ok (built (tensor_kind (kind_of x) ks) (n.Tensor x ks)) T (λ u h. sound_tensor table numbers x ks u h X)))
      (λ y Y. of_expression table numbers y Y)))

  only_list_kept : (places : List Value) → Vs places → IfSome (only_list places) Vs
  only_list_kept [] h = tt
  only_list_kept (a ∷ []) h = list_items table numbers a h.0
  only_list_kept (a ∷ (b ∷ others)) h = tt

  tensor_from_keeps : (wanted : Option ℕ) (o : Option (List Value)) (places : List Value) → IfSome o Vs → Vs places → IfOk (tensor_from wanted o places) V
  tensor_from_keeps wanted (Some items) places g h =
      then_keeps (list_of_items wanted (map item_of items)) (λ y. Ok (v.Expr y)) T V (list_keeps wanted (map item_of items) (good_items items g))
      (of_expression table numbers)
  tensor_from_keeps wanted None places g h =
      then_keeps (two_places places) (λ p. tensor_by wanted p.0 p.1) Two V (two_kept places h) (λ p P. tensor_by_keeps wanted p.0 p.1 P.0)

  call_tensor : (wanted : Option ℕ) (places : List Value) → Vs places → IfOk (tensor_call wanted places) V
  call_tensor wanted places h = tensor_from_keeps wanted (only_list places) places (only_list_kept places h) h

  call_diff : (places : List Value) → Vs places → IfOk (diff_call places) V
  call_diff places h =
      then_keeps (two_places places) _ Two V (two_kept places h) (λ p P.
      then_keeps (expression_of p.0) _ T V (expression_keeps table numbers p.0 P.0) (λ x X.
      then_keeps (expression_of p.1) (λ y. typed_as v.Expr (diff_by (label_of (typed_of y)) x y)) Any V (anything _) (λ y Y.
      tree_value table numbers _ (where_ok (diff_by (label_of (typed_of y)) x y) T (λ u g. sound_diff table numbers x y u g X)))))

  -- ---- whole functions
  function_kept : (e : Typed) → IsNumbered numbers e → IfOk (function_at e) Has
  unfolding IsNumbered
  function_kept (function k g) h = h
  function_kept (number k c) h = tt
  function_kept (identity k m) h = tt
  function_kept (piece k g m) h = tt
  function_kept (one k op a) h = tt
  function_kept (two k op a b) h = tt
  function_kept (power k a m) h = tt
  function_kept (index k a at) h = tt
  function_kept (partial k a i) h = tt
  function_kept (tensor k a by) h = tt
  function_kept (list k ts) h = tt
  function_kept (variable k l a) h = tt
  function_kept (diff k l by a) h = tt

  pub whole_kept : (a : Value) → V a → IfOk (whole_function a) Has
  whole_kept (v.Expr t) h = function_kept (typed_of t) (in_expression table numbers t h).numbered
  whole_kept (v.Number c) h = tt
  whole_kept (v.Form u) h = tt
  whole_kept (v.Element u) h = tt
  whole_kept (v.Function x) h = tt
  whole_kept (v.Cell c) h = tt
  whole_kept (v.Index k) h = tt
  whole_kept (v.Measure o) h = tt
  whole_kept (v.Text a b) h = tt
  whole_kept (Tuple' a b) h = tt
  whole_kept (List' a b) h = tt

  -- ---- forms
  form_kept : (a : Value) → V a → IfOk (form_in a) F
  form_kept (v.Form u) h = in_form table numbers u h
  form_kept (v.Expr t) h = tt
  form_kept (v.Number c) h = tt
  form_kept (v.Element u) h = tt
  form_kept (v.Function x) h = tt
  form_kept (v.Cell c) h = tt
  form_kept (v.Index k) h = tt
  form_kept (v.Measure o) h = tt
  form_kept (v.Text a b) h = tt
  form_kept (Tuple' a b) h = tt
  form_kept (List' a b) h = tt

  only_kept : (places : List Value) → Vs places → IfOk (only_form places) F
  only_kept places h = then_keeps (one_place places) form_in V F (one_kept places h) form_kept

  left_keeps : (u : FormTree) → F u → IfOk (left_side u) V
  left_keeps u U = form_value table numbers _ (where_ok (formed (f.Left u)) F (λ x h. sound_left table numbers u x h U))

  right_keeps : (u : FormTree) → F u → IfOk (right_side u) V
  right_keeps u U = form_value table numbers _ (where_ok (formed (f.Right u)) F (λ x h. sound_right table numbers u x h U))

  adjoint_keeps : (u : FormTree) → F u → IfOk (typed_as v.Form (formed (f.Adjoint u))) V
  adjoint_keeps u U = form_value table numbers _ (where_ok (formed (f.Adjoint u)) F (λ x h. sound_adjoint table numbers u x h U))

  call_left : (places : List Value) → Vs places → IfOk (left places) V
  call_left places h = then_keeps (only_form places) left_side F V (only_kept places h) left_keeps

  call_right : (places : List Value) → Vs places → IfOk (right places) V
  call_right places h = then_keeps (only_form places) right_side F V (only_kept places h) right_keeps

  call_adjoint : (places : List Value) → Vs places → IfOk (adjoint places) V
  call_adjoint places h = then_keeps (only_form places) (λ u. typed_as v.Form (formed (f.Adjoint u))) F V (only_kept places h) adjoint_keeps

  grouped_by : (b : Bool) (vs : List Value) → Vs vs → IfOk {E = Reason} (if b then Ok vs else Err r.Nodes) Vs
  grouped_by true vs h = h
  grouped_by false vs h = tt

  pub grouped_kept : (vs : List Value) → Vs vs → IfOk (grouped vs) Vs
  grouped_kept vs h = grouped_by (is_small vs) vs h

  pair_keeps : (a b : Value) → V a → V b → IfOk (pair_of a b) V
  pair_keeps a b A B =
      then_keeps (grouped (a ∷ (b ∷ []))) (λ vs. Ok (v.Tuple vs)) Vs V (grouped_kept (a ∷ (b ∷ [])) (A, (B, tt))) (of_tuple table numbers)

  both_keep : (u : FormTree) → F u → IfOk (both_sides u) V
  both_keep u U =
      then_keeps (left_side u) (λ a. pair_with a (right_side u)) V V (left_keeps u U) (λ a A.
      then_keeps (right_side u) (pair_of a) V V (right_keeps u U) (λ c C. pair_keeps a c A C))

  call_system : (places : List Value) → Vs places → IfOk (system places) V
  call_system places h = then_keeps (only_form places) both_sides F V (only_kept places h) both_keep

  action_keeps : (a b : Value) → V a → V b → IfOk (action_on a b) V
  action_keeps a b A B =
      then_keeps (form_in a) _ F V (form_kept a A) (λ u U.
      then_keeps (whole_function b) (λ g. typed_as v.Form (acted (last_of (form_patterns (form_of u))) u g)) Has V (whole_kept b B) (λ g G.
      form_value table numbers _ (where_ok (acted (last_of (form_patterns (form_of u))) u g) F
      (λ x h. sound_action table numbers (last_of (form_patterns (form_of u))) u g x h G U))))

  call_action : (places : List Value) → Vs places → IfOk (action places) V
  call_action places h = then_keeps (two_places places) (λ p. action_on p.0 p.1) Two V (two_kept places h) (λ p P. action_keeps p.0 p.1 P.0 P.1)

  derived_keeps : (u : FormTree) (g du : Function) → F u → Has g → Has du → IfOk (typed_as v.Form (derived table u g du)) V
  derived_keeps u g du U G D = form_value table numbers _ (where_ok (derived table u g du) F (λ x h. sound_derivative table numbers u g du x h G D U))

  form_along_keeps : (a b c : Value) → V a → V b → V c → IfOk (form_along table a b c) V
  form_along_keeps a b c A B C =
      then_keeps (form_in a) _ F V (form_kept a A) (λ u U.
      then_keeps (whole_function b) _ Has V (whole_kept b B) (λ g G.
      then_keeps (whole_function c) (λ du. typed_as v.Form (derived table u g du)) Has V (whole_kept c C) (λ du D. derived_keeps u g du U G D)))

  next_role : (b : Bool) (k : ℕ) → IsElementOf numbers (if b then Trial else Test) k
  next_role true k = tt
  next_role false k = tt

  next_by : (b : Bool) (set : PatternSet) (g : Function)
      → IfOk {E = Reason} (if b then Err r.Kind else Ok (record { role = (if has_test set then Trial else Test); element = g.element })) Has
  next_by true set g = tt
  next_by false set g = next_role (has_test set) g.element

  next_kept : (set : PatternSet) (g : Function) → IfOk (next_argument set g) Has
  next_kept set g = next_by (has_trial set) set g

  next_derivative_keeps : (u : FormTree) (g : Function) → F u → Has g → IfOk (next_derivative table u g) V
  next_derivative_keeps u g U G =
      then_keeps (next_argument (form_patterns (form_of u)) g) (λ du. typed_as v.Form (derived table u g du)) Has V (next_kept (form_patterns (form_of u)) g)
      (λ du D. derived_keeps u g du U G D)

  derivative_by_keeps : (a b : Value) → V a → V b → IfOk (derivative_by table a b) V
  derivative_by_keeps a b A B =
      then_keeps (form_in a) _ F V (form_kept a A) (λ u U.
      then_keeps (whole_function b) (next_derivative table u) Has V (whole_kept b B) (λ g G. next_derivative_keeps u g U G))

  of_three : (places : List Value) → Vs places → IfOk (derivative_of_three table places) V
  of_three places h =
      then_keeps (three_places places) (λ p. form_along table p.0 p.1 p.2) Three V (three_kept places h) (λ p P. form_along_keeps p.0 p.1 p.2 P.0 P.1 P.2)

  of_two : (places : List Value) → Vs places → IfOk (derivative_of_two table places) V
  of_two places h = then_keeps (two_places places) (λ p. derivative_by table p.0 p.1) Two V (two_kept places h) (λ p P. derivative_by_keeps p.0 p.1 P.0 P.1)

  derivative_choice : (b : Bool) (places : List Value) → Vs places → IfOk (if b then derivative_of_three table places else derivative_of_two table places) V
  derivative_choice true places h = of_three places h
  derivative_choice false places h = of_two places h

  pub call_derivative : (places : List Value) → Vs places → IfOk (derivative table places) V
  call_derivative places h = derivative_choice (length places == 3) places h

  -- ---- functions of the language that make nothing
  pub valued_keeps : (function : Word) (places : List Value) → Vs places → IfOk (valued function places) V
  valued_keeps w.FiniteElement places h = finite_keeps places
  valued_keeps w.VectorElement places h = vector_keeps places None
  valued_keeps w.TensorElement places h = tensor_element_keeps places None
  valued_keeps w.MixedElement places h = mixed_from_keeps (only_list places) places
  valued_keeps (w.One op) places h = call_operator_one op places h
  valued_keeps (w.Two op) places h = call_operator_two op places h
  valued_keeps w.Dx places h = call_derivative_along places h
  valued_keeps w.Identity places h = identity_call_keeps places
  valued_keeps w.AsVector places h = call_tensor (Some 1) places h
  valued_keeps w.AsMatrix places h = call_tensor (Some 2) places h
  valued_keeps w.AsTensor places h = call_tensor None places h
  valued_keeps w.Diff places h = call_diff places h
  valued_keeps w.Lhs places h = call_left places h
  valued_keeps w.Rhs places h = call_right places h
  valued_keeps w.System places h = call_system places h
  valued_keeps w.Action places h = call_action places h
  valued_keeps w.Adjoint places h = call_adjoint places h
  valued_keeps w.TestFunction places h = tt
  valued_keeps w.TrialFunction places h = tt
  valued_keeps w.TestFunctions places h = tt
  valued_keeps w.TrialFunctions places h = tt
  valued_keeps w.Split places h = tt
  valued_keeps w.Coefficient places h = tt
  valued_keeps w.Constant places h = tt
  valued_keeps w.VectorConstant places h = tt
  valued_keeps w.SpatialCoordinate places h = tt
  valued_keeps w.Variable places h = tt
  valued_keeps w.Derivative places h = tt
