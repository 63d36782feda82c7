use Rattle.std.proofs.Common.{◌∙◌, refl, ap, ap₂, [], ◌++◌}
use Rattle.calculus.specs.Polynomial.{plus, times, negative, coefficient_of}
use Rattle.calculus.specs.Integral.{sum_below}
use Rattle.ufl_tree.specs.Indices.{index_values}
use Rattle.ufl_meaning.specs.Environment.{parameter_number}
use Rattle.ufl_meaning.specs.Operators.{along, unit_or_nil}
use Rattle.tree_values.specs.PolyValue.{value_of}
use Rattle.tree_values.specs.Scene.{names_of}
use Rattle.tree_values.specs.Meaning.{meaning_in, meaning_changed, meaning_with, picked_in}
use Rattle.tree_values.specs.declared.environment.Change.TheVariants.{Raised, Turned}
use Rattle.tree_values.proofs.ResultLaws.{ok_as}
use Rattle.tree_values.proofs.MeaningLaws as l
use Rattle.tree_values.proofs.meanings.+meanings.Goals as goal

pub meaning-returns-in-Num : goal.meaning-returns-in-Num
meaning-returns-in-Num t c = ok_as value_of c.constant.result _ _ (l.in_num c.args.scene.now c.args.e.now _ c.in-Num.is) c.constant.ensures

pub meaning-returns-in_ok-place-in-Fun : goal.meaning-returns-in_ok-place-in-Fun
meaning-returns-in_ok-place-in-Fun t c =
    ok_as value_of c.function.result _ _
    (l.in_fun c.args.scene.now c.args.e.now c.in-Fun.f c.in-Fun.at _ c.in-Fun.is
    (c.as_slice-in-Fun.ensures ∙ c.in_ok-place-in-Fun.ensures ∙ ap (λ at. index_values (names_of c.args.scene.now.names.now) at ++ []) c.as_slice.ensures))
    c.function.ensures

pub meaning-returns-in_ok-meaning-in-Mark : goal.meaning-returns-in_ok-meaning-in-Mark
meaning-returns-in_ok-meaning-in-Mark t c =
    ok_as value_of c.sum.result _ _
    (ap₂ plus (c.in_ok-meaning-in-Mark.ensures ∙ ap (meaning_in c.args.scene.now) c.get.ensures) (c.in_ok-moved-in-Mark.ensures c.args.scene.now.functions.now)
    ∙ l.in_mark c.args.scene.now c.args.e.now c.in-Mark.body c.in-Mark.label c.in-Mark.at _ c.in-Mark.is
    (c.as_slice-in-Mark-2.ensures ∙ c.in_ok-place-in-Mark.ensures ∙ ap (λ at. index_values (names_of c.args.scene.now.names.now) at ++ []) c.as_slice-in-Mark.ensures))
    c.sum.ensures

pub meaning-returns-in_ok-meaning-in-Neg : goal.meaning-returns-in_ok-meaning-in-Neg
meaning-returns-in_ok-meaning-in-Neg t c =
    ok_as value_of c.negated.result _ _
    (ap negative (c.in_ok-meaning-in-Neg.ensures ∙ ap (meaning_in c.args.scene.now) c.get-in-Neg.ensures) ∙ l.in_neg c.args.scene.now c.args.e.now c.in-Neg.a c.in-Neg.is) c.negated.ensures

pub meaning-returns-in_ok-meaning-in-Sum : goal.meaning-returns-in_ok-meaning-in-Sum
meaning-returns-in_ok-meaning-in-Sum t c =
    ok_as value_of c.sum-in-Sum.result _ _
    (ap₂ plus (c.in_ok-meaning-in-Sum.ensures ∙ ap (meaning_in c.args.scene.now) c.get-in-Sum-2.ensures) (c.in_ok-right-in-Sum.ensures ∙ ap (meaning_in c.args.scene.now) c.get-in-Sum.ensures)
    ∙ l.in_sum c.args.scene.now c.args.e.now c.in-Sum.a c.in-Sum.b c.in-Sum.is) c.sum-in-Sum.ensures

pub meaning-returns-in_ok-meaning-in-Prod : goal.meaning-returns-in_ok-meaning-in-Prod
meaning-returns-in_ok-meaning-in-Prod t c =
    ok_as value_of c.product.result _ _
    (ap₂ times (c.in_ok-meaning-in-Prod.ensures ∙ ap (meaning_in c.args.scene.now) c.get-in-Prod-2.ensures) (c.in_ok-right-in-Prod.ensures ∙ ap (meaning_in c.args.scene.now) c.get-in-Prod.ensures)
    ∙ l.in_prod c.args.scene.now c.args.e.now c.in-Prod.a c.in-Prod.b c.in-Prod.is) c.product.ensures

pub meaning-returns-in-Over : goal.meaning-returns-in-Over
meaning-returns-in-Over t c =
    ok_as value_of c.over.result _ _
    (ap (λ a. sum_below c.in-Over.dim (meaning_with c.args.scene.now a c.in-Over.index)) c.get-in-Over.ensures
    ∙ l.in_over c.args.scene.now c.args.e.now c.in-Over.body c.in-Over.index c.in-Over.dim c.in-Over.is) c.over.ensures

pub meaning-returns-in_ok-meaning-in-Dx : goal.meaning-returns-in_ok-meaning-in-Dx
meaning-returns-in_ok-meaning-in-Dx t c =
    ok_as value_of c.along.result _ _
    (ap₂ along c.number-direction.ensures (c.in_ok-meaning-in-Dx.ensures ∙ ap (meaning_in c.args.scene.now) c.get-in-Dx.ensures)
    ∙ l.in_dx c.args.scene.now c.args.e.now c.in-Dx.body c.in-Dx.at c.in-Dx.is) c.along.ensures

pub meaning-returns-in-Delta : goal.meaning-returns-in-Delta
meaning-returns-in-Delta t c =
    ok_as value_of c.unit.result _ _ (ap₂ unit_or_nil c.number.ensures c.number-in-Delta.ensures ∙ l.in_delta c.args.scene.now c.args.e.now c.in-Delta.i c.in-Delta.j c.in-Delta.is) c.unit.ensures

pub meaning-returns-in-Pick : goal.meaning-returns-in-Pick
meaning-returns-in-Pick t c =
    ok_as value_of c.picked.result _ _
    (ap₂ (picked_in c.args.scene.now) c.as_slice-in-Pick.ensures c.number-which.ensures ∙ l.in_pick c.args.scene.now c.args.e.now c.in-Pick.at c.in-Pick.items c.in-Pick.is) c.picked.ensures

pub meaning-returns-in_ok-changed-in-Raise : goal.meaning-returns-in_ok-changed-in-Raise
meaning-returns-in_ok-changed-in-Raise t c =
    ok_as value_of c.linear_part.result _ _
    (ap₂ (λ n x. coefficient_of (parameter_number n) 1 x) (c.used.ensures.is c.args.scene.now.functions.now)
    (c.in_ok-changed-in-Raise.ensures ∙ ap (λ a. meaning_changed c.args.scene.now a (Raised c.in-Raise.label c.in_ok-at-in-Raise.at)) c.get-in-Raise.ensures)
    ∙ l.in_raise c.args.scene.now c.args.e.now c.in-Raise.body c.in-Raise.label c.in-Raise.at c.in_ok-at-in-Raise.at c.in-Raise.is
    (c.in_ok-at-in-Raise.ensures ∙ ap (λ at. index_values (names_of c.args.scene.now.names.now) at ++ []) c.as_slice-in-Raise.ensures))
    c.linear_part.ensures

pub meaning-returns-in_ok-changed-in-Turn : goal.meaning-returns-in_ok-changed-in-Turn
meaning-returns-in_ok-changed-in-Turn t c =
    ok_as value_of c.linear_part-in-Turn.result _ _
    (ap₂ (λ n x. coefficient_of (parameter_number n) 1 x) (c.used-in-Turn.ensures.is c.args.scene.now.functions.now)
    (c.in_ok-changed-in-Turn.ensures ∙ ap (λ a. meaning_changed c.args.scene.now a (Turned c.in-Turn.coef.role c.in-Turn.dir.role)) c.get-in-Turn.ensures)
    ∙ l.in_turn c.args.scene.now c.args.e.now c.in-Turn.body c.in-Turn.coef c.in-Turn.dir c.in-Turn.is)
    c.linear_part-in-Turn.ensures

-- ---- other scenes, and items
pub changed-returns : goal.changed-returns
changed-returns t c =
    ok_as value_of c.meaning.result _ _
    (l.changed_at c.args.scene.now _ c.args.e.now c.args.change c.in_ok-changes.changes refl refl refl c.as_slice.ensures refl c.in_ok-changes.ensures) c.meaning.ensures

pub named-returns : goal.named-returns
named-returns t c =
    ok_as value_of c.meaning.result _ _
    (l.named_at c.args.scene.now _ c.args.e.now c.args.index c.args.k refl refl (c.as_slice.ensures ∙ c.in_ok-names.ensures)) c.meaning.ensures

pub picked-returns-in-Some : goal.picked-returns-in-Some
picked-returns-in-Some t c =
    ok_as value_of c.meaning.result _ _ (l.item_got c.args.scene.now c.args.items.now c.args.which c.in-Some.item c.in-Some.ensures.lookup) c.meaning.ensures

pub picked-returns-in-None : goal.picked-returns-in-None
picked-returns-in-None t c = c.zero.ensures ∙ l.none_got c.args.scene.now c.args.items.now c.args.which c.in-None.ensures.lookup
