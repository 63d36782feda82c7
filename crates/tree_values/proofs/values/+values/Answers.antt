use Rattle.std.proofs.Common.{◌∙◌, refl, sym, ap, ap₂, [], ◌++◌, map, arith}
use Rattle.calculus.specs.Polynomial.{plus, power}
use Rattle.ufl_meaning.specs.Operators.{along, one_value, curl_value}
use Rattle.ufl_tree.specs.Indices.{front, back, index_values}
use Rattle.tree_values.specs.PolyValue.{value_of}
use Rattle.tree_values.specs.Scene.{names_of, assigned}
use Rattle.tree_values.specs.Value.{value_in, chosen_in, bound_in, diff_in}
use Rattle.tree_values.proofs.ResultLaws.{ok_as}
use Rattle.tree_values.proofs.ValueLaws as l
use Rattle.tree_values.proofs.values.+values.Goals as goal

-- ---- a tree with its sums
pub value-loop-names-init : goal.value-loop-names-init
value-loop-names-init t c = l.sum_begun c.as_slice-all.result.now c.args.scene.now c.args.tree.now c.args.at.now _ c.zero-total.ensures

pub value-loop-names-preserved : goal.value-loop-names-preserved
value-loop-names-preserved t c =
    l.sum_grown c.as_slice-all.result.now c.loop-names.names-index c.args.scene.now _ c.names-item.result c.args.tree.now c.args.at.now _ _ c.loop-names-test.true c.names-item.is refl refl c.as_slice-in-loop-names.ensures
    c.loop-names.invariant (c.in_ok-total.ensures ∙ ap (plus (value_of c.loop-names.total)) c.in_ok-unsummed.ensures)

pub value-returns : goal.value-returns
value-returns t c =
    l.sum_done c.as_slice-all.result.now c.loop-names.names-index c.args.scene.now c.args.tree.now c.args.at.now _ (omega arith)
    (c.as_slice-all.ensures ∙ c.in_ok-choices.ensures ∙ ap (λ xs. assigned xs c.args.scene.now.names.now) (c.as_slice.ensures ∙ c.in_ok-repeated.ensures)) c.loop-names.invariant

-- ---- the nodes
pub unsummed-returns-in-Number : goal.unsummed-returns-in-Number
unsummed-returns-in-Number t c = ok_as value_of c.constant.result _ _ (l.in_number c.args.scene.now c.args.tree.now c.args.at.now _ c.in-Number.is) c.constant.ensures

pub unsummed-returns-in-Identity : goal.unsummed-returns-in-Identity
unsummed-returns-in-Identity t c = ok_as value_of c.identity.result _ _ (l.in_identity c.args.scene.now c.args.tree.now c.args.at.now _ c.in-Identity.is) c.identity.ensures

pub unsummed-returns-in-Fun : goal.unsummed-returns-in-Fun
unsummed-returns-in-Fun t c = ok_as value_of c.function.result _ _ (l.in_function c.args.scene.now c.args.tree.now c.args.at.now _ c.in-Fun.is) c.function.ensures

pub unsummed-returns-in-Piece : goal.unsummed-returns-in-Piece
unsummed-returns-in-Piece t c = ok_as value_of c.piece.result _ _ (l.in_piece c.args.scene.now c.args.tree.now c.args.at.now c.in-Piece.f c.in-Piece.which c.in-Piece.is) c.piece.ensures

pub unsummed-returns-in-One : goal.unsummed-returns-in-One
unsummed-returns-in-One t c =
    ok_as value_of c.one.result _ _
    (ap (λ a. one_value c.in-One.op a.shape (value_in c.args.scene.now a) c.args.at.now) c.get.ensures ∙ l.in_one c.args.scene.now c.args.tree.now c.in-One.a c.args.at.now c.in-One.op c.in-One.is) c.one.ensures

pub unsummed-returns-in_ok-right-in-Two : goal.unsummed-returns-in_ok-right-in-Two
unsummed-returns-in_ok-right-in-Two t c =
    ok_as value_of c.combined.result _ _
    (l.in_two_at c.args.scene.now c.args.tree.now c.in-Two.a c.in-Two.b c.get-a.result.now c.get-b.result.now c.args.at.now _ _ c.in-Two.op c.in_ok-wanted-in-Two.wanted.left c.in_ok-wanted-in-Two.wanted.right _ _
    c.in-Two.is c.get-a.ensures c.get-b.ensures c.as_slice.ensures c.as_slice-in-Two.ensures c.in_ok-wanted-in-Two.ensures
    (ap (map value_of) c.as_slice-in-Two-4.ensures ∙ c.in_ok-left-in-Two.ensures ∙ ap (map (value_in c.args.scene.now c.get-a.result.now)) c.as_slice-in-Two-2.ensures)
    (ap (map value_of) c.as_slice-in-Two-5.ensures ∙ c.in_ok-right-in-Two.ensures ∙ ap (map (value_in c.args.scene.now c.get-b.result.now)) c.as_slice-in-Two-3.ensures))
    c.combined.ensures

pub unsummed-returns-in_ok-value-in-Power : goal.unsummed-returns-in_ok-value-in-Power
unsummed-returns-in_ok-value-in-Power t c =
    ok_as value_of c.power.result _ _
    (ap (λ p. power p c.in-Power.n) (c.in_ok-value-in-Power.ensures ∙ ap (λ a. value_in c.args.scene.now a []) c.get-in-Power.ensures)
    ∙ l.in_power c.args.scene.now c.args.tree.now c.in-Power.a c.args.at.now c.in-Power.n c.in-Power.is) c.power.ensures

pub unsummed-returns-in_ok-place-in-Index : goal.unsummed-returns-in_ok-place-in-Index
unsummed-returns-in_ok-place-in-Index t c =
    ok_as value_of c.value-in-Index.result _ _
    (ap₂ (value_in c.args.scene.now) c.get-in-Index.ensures
    (c.as_slice-in-Index-2.ensures ∙ c.in_ok-place-in-Index.ensures ∙ ap (λ at. index_values (names_of c.args.scene.now.names.now) at ++ c.args.at.now) c.as_slice-in-Index.ensures)
    ∙ l.in_index c.args.scene.now c.args.tree.now c.in-Index.a c.args.at.now c.in-Index.by c.in-Index.is) c.value-in-Index.ensures

pub unsummed-returns-in_ok-value-in-Partial : goal.unsummed-returns-in_ok-value-in-Partial
unsummed-returns-in_ok-value-in-Partial t c =
    ok_as value_of c.along.result _ _
    (ap₂ along c.number-direction.ensures (c.in_ok-value-in-Partial.ensures ∙ ap (λ a. value_in c.args.scene.now a c.args.at.now) c.get-in-Partial.ensures)
    ∙ l.in_partial c.args.scene.now c.args.tree.now c.in-Partial.a c.args.at.now c.in-Partial.i c.in-Partial.is) c.along.ensures

pub unsummed-returns-in-Tensor : goal.unsummed-returns-in-Tensor
unsummed-returns-in-Tensor t c =
    ok_as value_of c.tensor.result _ _
    (ap₂ (λ a by. bound_in c.args.scene.now a by c.args.at.now) c.get-in-Tensor.ensures c.as_slice-in-Tensor.ensures
    ∙ l.in_tensor c.args.scene.now c.args.tree.now c.in-Tensor.a c.args.at.now c.in-Tensor.by c.in-Tensor.is) c.tensor.ensures

pub unsummed-returns-in-List : goal.unsummed-returns-in-List
unsummed-returns-in-List t c =
    ok_as value_of c.chosen.result _ _
    (ap (λ ts. chosen_in c.args.scene.now ts c.args.at.now) c.as_slice-in-List.ensures ∙ l.in_list c.args.scene.now c.args.tree.now c.args.at.now c.in-List.items c.in-List.is) c.chosen.ensures

pub unsummed-returns-in_ok-value-in-Variable : goal.unsummed-returns-in_ok-value-in-Variable
unsummed-returns-in_ok-value-in-Variable t c =
    ok_as value_of c.sum.result _ _
    (ap₂ plus (c.in_ok-value-in-Variable.ensures ∙ ap (λ a. value_in c.args.scene.now a c.args.at.now) c.get-in-Variable.ensures) (c.in_ok-moved-in-Variable.ensures c.args.scene.now.functions.now)
    ∙ l.in_variable c.args.scene.now c.args.tree.now c.in-Variable.a c.args.at.now c.in-Variable.label c.in-Variable.is) c.sum.ensures

pub unsummed-returns-in-Diff : goal.unsummed-returns-in-Diff
unsummed-returns-in-Diff t c =
    ok_as value_of c.diff.result _ _
    (ap (λ a. diff_in c.args.scene.now a c.in-Diff.label c.args.at.now) c.get-in-Diff.ensures
    ∙ l.in_diff c.args.scene.now c.args.tree.now c.in-Diff.body c.args.at.now c.in-Diff.by c.in-Diff.label c.in-Diff.is) c.diff.ensures

-- ---- items, bindings, derivatives by variables
pub chosen-returns-in-Some-get : goal.chosen-returns-in-Some-get
chosen-returns-in-Some-get t c =
    ok_as value_of c.value.result _ _
    (l.item_got c.args.scene.now c.args.items.now c.in-Some.i.now c.in-Some-get.item c.in-Some.rest.now c.in-Some-get.ensures.lookup ∙ sym (ap (chosen_in c.args.scene.now c.args.items.now) c.in-Some.ensures.cases.0))
    c.value.ensures

pub chosen-returns-in-None : goal.chosen-returns-in-None
chosen-returns-in-None t c =
    c.zero-in-None.ensures ∙ l.none_got c.args.scene.now c.args.items.now c.in-Some.i.now c.in-Some.rest.now c.in-None.ensures.lookup ∙ sym (ap (chosen_in c.args.scene.now c.args.items.now) c.in-Some.ensures.cases.0)

pub tensor-returns : goal.tensor-returns
tensor-returns t c =
    ok_as value_of c.value.result _ _
    (l.bound_at c.args.scene.now _ c.args.a.now c.args.by.now c.args.at.now c.in_ok-names.names refl refl c.as_slice.ensures c.in_ok-names.ensures) c.value.ensures

pub diff-returns : goal.diff-returns
diff-returns t c =
    ok_as value_of c.linear_part.result _ _
    (l.diff_at c.args.scene.now _ c.args.a.now c.args.label _ c.args.at.now c.in_ok-from_slice.field-0 c.first_part.result.now _ (c.used.ensures.is c.args.scene.now.functions.now) refl refl refl (c.as_slice.ensures ∙ c.in_ok-changes.ensures) refl
    (c.in_ok-from_slice.ensures ∙ c.last_part.ensures ∙ ap (λ s. back s c.args.at.now) c.as_slice-shape.ensures) (c.first_part.ensures ∙ ap (λ s. front s c.args.at.now) c.as_slice-shape.ensures) c.in_ok-value.ensures)
    c.linear_part.ensures

-- ---- operators
pub curl-returns-in-Vector : goal.curl-returns-in-Vector
curl-returns-in-Vector t c =
    ok_as value_of c.vector_curl.result _ _
    (l.curl_at c.as_slice.result.now c.in-Vector.field-0 (value_in c.args.scene.now c.args.a.now) c.args.at.now (sym c.measured.ensures ∙ c.in-Vector.is) ∙ ap (λ s. curl_value s (value_in c.args.scene.now c.args.a.now) c.args.at.now) c.as_slice.ensures)
    (c.vector_curl.ensures c.in-Vector.field-0)

pub grad-returns-in_ok-value-in-Some : goal.grad-returns-in_ok-value-in-Some
grad-returns-in_ok-value-in-Some t c =
    ok_as value_of c.along.result _ _
    (l.grad_at (value_in c.args.scene.now c.args.a.now) c.args.at.now c.in-Some.rest.now c.in-Some.i.now _ c.in-Some.ensures.cases.0 c.in_ok-value-in-Some.ensures) c.along.ensures
