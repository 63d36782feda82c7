use Rattle.std.proofs.Common.{subst, length, arith, ◌≡◌, ◌==◌, [], if◌then◌else◌, sym, ◌∙◌, ap, ap₂, refl}
use Rattle.std.proofs.lemmas.Grind.{common_steps}
use Rattle.std.proofs.lemmas.Result.{err_from_is_err_and}
use Rattle.algebra.specs.Fraction.{one_fraction}
use Rattle.ufl_tree.specs.Indices.{index_values}
use Rattle.ufl_tree.specs.Places.{table_of, function_place}
use Rattle.ufl_tree.specs.Reading.{term_of}
use Rattle.ufl_tree.proofs.ReadingLaws.{term_of-Num, term_of-Fun, term_of-Delta, term_of-Raise, term_of-Turn}
use Rattle.monos.specs.Monomial.{monomials_of}
use Rattle.normal.specs.Monomials.{number_mono, function_mono}
use Rattle.normal.specs.Gathering.{names_of, IsSumBelowOf}
use Rattle.normal.proofs.NodeSums as n
use Rattle.normal.proofs.SafeLaws as s
use Rattle.normal.proofs.WalkLaws as l
use Rattle.normal.proofs.walk.+walk.Goals as goal

-- ---- leaves
pub sum-returns-in_ok-number-in-Num-clause-value : goal.sum-returns-in_ok-number-in-Num-clause-value
sum-returns-in_ok-number-in-Num-clause-value t c =
    l.sum_as _ _ _ _ _ (ap term_of c.in-Num.is ∙ term_of-Num _) (n.number_sum _ c.in-Num.c _ _ c.in_ok-number-in-Num.ensures)

pub sum-returns-in_ok-function-in-Fun-clause-value : goal.sum-returns-in_ok-function-in-Fun-clause-value
sum-returns-in_ok-function-in-Fun-clause-value t c =
    l.sum_as _ _ _ _ _ (ap term_of c.in-Fun.is ∙ term_of-Fun _ _)
    (n.function_sum _ c.in-Fun.f c.in-Fun.at _ _
    (c.in_ok-function-in-Fun.ensures
    ∙ ap (λ xs. function_mono c.in-Fun.f (function_place (table_of c.args.elements.now) c.in-Fun.f (index_values (names_of c.args.bounds.now) xs))) c.as_slice.ensures))

pub sum-returns-in_ok-unit-in-Delta-clause-value : goal.sum-returns-in_ok-unit-in-Delta-clause-value
sum-returns-in_ok-unit-in-Delta-clause-value t c =
    l.sum_as _ _ _ _ _ (ap term_of c.in-Delta.is ∙ term_of-Delta _ _)
    (n.unit_sum _ c.in-Delta.i c.in-Delta.j _ _
    (c.in_ok-unit-in-Delta.ensures ∙ ap₂ (λ m k. if m == k then number_mono one_fraction else []) c.index_value.ensures c.index_value-in-Delta.ensures))

-- ---- what isn't expanded
pub sum-returns-in-Raise-clause-value : goal.sum-returns-in-Raise-clause-value
sum-returns-in-Raise-clause-value t c = l.sum_as _ _ _ _ _ (ap term_of c.in-Raise.is ∙ term_of-Raise _ _ _) (n.raise_sum _ _ _ _ _ _)

pub sum-returns-in-Turn-clause-value : goal.sum-returns-in-Turn-clause-value
sum-returns-in-Turn-clause-value t c = l.sum_as _ _ _ _ _ (ap term_of c.in-Turn.is ∙ term_of-Turn _ _ _) (n.turn_sum _ _ _ _ _ _)

-- ---- one operand
pub sum-returns-in-Mark-clause-value : goal.sum-returns-in-Mark-clause-value
sum-returns-in-Mark-clause-value t c =
    l.same_value _ c.sum.result _ _ _ (l.at_mark c.args.e.now c.in-Mark.body c.get.result.now c.in-Mark.label c.in-Mark.at c.in-Mark.is c.get.ensures)
    (l.marked_value _ c.sum.result _ c.in-Mark.label c.in-Mark.at (term_of c.get.result.now) c.sum.ensures.value)

pub sum-returns-in-Mark-clause-range : goal.sum-returns-in-Mark-clause-range
sum-returns-in-Mark-clause-range t c =
    l.same_safe _ c.sum.result _ _ (l.at_mark c.args.e.now c.in-Mark.body c.get.result.now c.in-Mark.label c.in-Mark.at c.in-Mark.is c.get.ensures)
    (l.marked_safe _ c.sum.result c.in-Mark.label c.in-Mark.at (term_of c.get.result.now) c.sum.ensures.range)

pub sum-returns-in-Neg-clause-value : goal.sum-returns-in-Neg-clause-value
sum-returns-in-Neg-clause-value t c =
    l.same_value _ c.opposite.result _ _ _ (l.at_neg c.args.e.now c.in-Neg.a c.get-in-Neg.result.now c.in-Neg.is c.get-in-Neg.ensures) c.opposite.ensures.value

pub sum-returns-in-Neg-clause-range : goal.sum-returns-in-Neg-clause-range
sum-returns-in-Neg-clause-range t c =
    l.same_safe _ c.opposite.result _ _ (l.at_neg c.args.e.now c.in-Neg.a c.get-in-Neg.result.now c.in-Neg.is c.get-in-Neg.ensures) c.opposite.ensures.range

pub sum-returns-in-Over-clause-value : goal.sum-returns-in-Over-clause-value
sum-returns-in-Over-clause-value t c =
    l.same_value _ c.over.result _ _ _ (l.at_over c.args.e.now c.in-Over.body c.get-in-Over.result.now c.in-Over.index c.in-Over.dim c.in-Over.is c.get-in-Over.ensures) c.over.ensures.value

pub sum-returns-in-Over-clause-range : goal.sum-returns-in-Over-clause-range
sum-returns-in-Over-clause-range t c =
    l.same_safe _ c.over.result _ _ (l.at_over c.args.e.now c.in-Over.body c.get-in-Over.result.now c.in-Over.index c.in-Over.dim c.in-Over.is c.get-in-Over.ensures) c.over.ensures.range

pub sum-returns-in-Dx-clause-value : goal.sum-returns-in-Dx-clause-value
sum-returns-in-Dx-clause-value t c =
    l.same_value _ c.derivative.result _ _ _ (l.at_dx c.args.e.now c.in-Dx.body c.get-in-Dx.result.now c.in-Dx.at c.in-Dx.is c.get-in-Dx.ensures) c.derivative.ensures.value

pub sum-returns-in-Dx-clause-range : goal.sum-returns-in-Dx-clause-range
sum-returns-in-Dx-clause-range t c =
    l.same_safe _ c.derivative.result _ _ (l.at_dx c.args.e.now c.in-Dx.body c.get-in-Dx.result.now c.in-Dx.at c.in-Dx.is c.get-in-Dx.ensures) c.derivative.ensures.range

pub sum-returns-in-Pick-clause-value : goal.sum-returns-in-Pick-clause-value
sum-returns-in-Pick-clause-value t c =
    l.same_value _ c.item.result _ _ _ (l.at_pick c.args.e.now c.in-Pick.at c.in-Pick.items c.as_slice-in-Pick.result.now c.in-Pick.is c.as_slice-in-Pick.ensures)
    (l.picked_value _ c.item.result _ c.as_slice-in-Pick.result.now c.in-Pick.at c.index_value-in-Pick.result (sym c.index_value-in-Pick.ensures) c.item.ensures.value)

pub sum-returns-in-Pick-clause-range : goal.sum-returns-in-Pick-clause-range
sum-returns-in-Pick-clause-range t c =
    l.same_safe _ c.item.result _ _ (l.at_pick c.args.e.now c.in-Pick.at c.in-Pick.items c.as_slice-in-Pick.result.now c.in-Pick.is c.as_slice-in-Pick.ensures)
    (l.picked_safe _ c.item.result c.as_slice-in-Pick.result.now c.in-Pick.at c.item.ensures.range)

-- ---- two operands
pub sum-returns-in_err-left-in-Sum-clause-range : goal.sum-returns-in_err-left-in-Sum-clause-range
sum-returns-in_err-left-in-Sum-clause-range t c =
    let p = err_from_is_err_and c.from_residual-in_err-left-in-Sum.result c.from_residual-in_err-left-in-Sum.ensures.1 in
    rw (p.1, p.2) (λ h. c.in_err-left-in-Sum.ensures.range (s.safe_first _ (term_of c.get-in-Sum.result.now) (term_of c.in-Sum.b) (l.safe_as _ _ _ (l.at_sum c.args.e.now c.in-Sum.a c.in-Sum.b c.get-in-Sum.result.now c.in-Sum.b c.in-Sum.is c.get-in-Sum.ensures refl) h)))

pub sum-returns-in_err-right-in-Sum-clause-range : goal.sum-returns-in_err-right-in-Sum-clause-range
sum-returns-in_err-right-in-Sum-clause-range t c =
    let p = err_from_is_err_and c.from_residual-in_err-right-in-Sum.result c.from_residual-in_err-right-in-Sum.ensures.1 in
    rw (p.1, p.2) (λ h. c.in_err-right-in-Sum.ensures.range (s.safe_second _ (term_of c.get-in-Sum.result.now) (term_of c.get-in-Sum-2.result.now) (l.safe_as _ _ _ (l.at_sum c.args.e.now c.in-Sum.a c.in-Sum.b c.get-in-Sum.result.now c.get-in-Sum-2.result.now c.in-Sum.is c.get-in-Sum.ensures c.get-in-Sum-2.ensures) h)))

pub sum-returns-in_ok-joined-in-Sum-clause-value : goal.sum-returns-in_ok-joined-in-Sum-clause-value
sum-returns-in_ok-joined-in-Sum-clause-value t c =
    l.sum_as _ _ _ _ _ (l.at_sum c.args.e.now c.in-Sum.a c.in-Sum.b c.get-in-Sum.result.now c.get-in-Sum-2.result.now c.in-Sum.is c.get-in-Sum.ensures c.get-in-Sum-2.ensures)
    (n.both_sum _ (term_of c.get-in-Sum.result.now) (term_of c.get-in-Sum-2.result.now) _ _ _ _ c.in_ok-joined-in-Sum.ensures c.in_ok-left-in-Sum.ensures.value c.in_ok-right-in-Sum.ensures.value)

pub sum-returns-in_err-first-in-Prod-clause-range : goal.sum-returns-in_err-first-in-Prod-clause-range
sum-returns-in_err-first-in-Prod-clause-range t c =
    let p = err_from_is_err_and c.from_residual-in_err-first-in-Prod.result c.from_residual-in_err-first-in-Prod.ensures.1 in
    rw (p.1, p.2) (λ h. c.in_err-first-in-Prod.ensures.range (s.safe_left _ (term_of c.get-in-Prod.result.now) (term_of c.in-Prod.b) (l.safe_as _ _ _ (l.at_prod c.args.e.now c.in-Prod.a c.in-Prod.b c.get-in-Prod.result.now c.in-Prod.b c.in-Prod.is c.get-in-Prod.ensures refl) h)))

pub sum-returns-in_err-second-in-Prod-clause-range : goal.sum-returns-in_err-second-in-Prod-clause-range
sum-returns-in_err-second-in-Prod-clause-range t c =
    let p = err_from_is_err_and c.from_residual-in_err-second-in-Prod.result c.from_residual-in_err-second-in-Prod.ensures.1 in
    rw (p.1, p.2) (λ h. c.in_err-second-in-Prod.ensures.range (s.safe_right _ (term_of c.get-in-Prod.result.now) (term_of c.get-in-Prod-2.result.now) (l.safe_as _ _ _ (l.at_prod c.args.e.now c.in-Prod.a c.in-Prod.b c.get-in-Prod.result.now c.get-in-Prod-2.result.now c.in-Prod.is c.get-in-Prod.ensures c.get-in-Prod-2.ensures) h)))

pub sum-returns-then-is_empty-clause-value : goal.sum-returns-then-is_empty-clause-value
sum-returns-then-is_empty-clause-value t c =
    let z : length c.in_ok-first-in-Prod.first.items ≡ 0 = grind (arith, common_steps, c.is_empty.ensures, c.if-is_empty.true, c.in_ok-first-in-Prod.first.ok.0) in
    l.sum_as _ _ _ _ _ (l.at_prod c.args.e.now c.in-Prod.a c.in-Prod.b c.get-in-Prod.result.now c.in-Prod.b c.in-Prod.is c.get-in-Prod.ensures refl)
    (n.no_product _ (term_of c.get-in-Prod.result.now) (term_of c.in-Prod.b) _ _ (l.emptied c.in_ok-first-in-Prod.first.items z) c.in_ok-first-in-Prod.ensures.value)

pub sum-returns-in_ok-second-in-Prod-clause-value : goal.sum-returns-in_ok-second-in-Prod-clause-value
sum-returns-in_ok-second-in-Prod-clause-value t c =
    l.same_value _ c.product_of_sums.result _ _ _ (l.at_prod c.args.e.now c.in-Prod.a c.in-Prod.b c.get-in-Prod.result.now c.get-in-Prod-2.result.now c.in-Prod.is c.get-in-Prod.ensures c.get-in-Prod-2.ensures)
    (l.product_value _ c.product_of_sums.result _ (term_of c.get-in-Prod.result.now) (term_of c.get-in-Prod-2.result.now) (monomials_of c.in_ok-first-in-Prod.first.items)
    (monomials_of c.in_ok-second-in-Prod.second.items) c.product_of_sums.ensures.value c.in_ok-first-in-Prod.ensures.value c.in_ok-second-in-Prod.ensures.value)

pub sum-returns-in_ok-second-in-Prod-clause-range : goal.sum-returns-in_ok-second-in-Prod-clause-range
sum-returns-in_ok-second-in-Prod-clause-range t c =
    l.same_safe _ c.product_of_sums.result _ _ (l.at_prod c.args.e.now c.in-Prod.a c.in-Prod.b c.get-in-Prod.result.now c.get-in-Prod-2.result.now c.in-Prod.is c.get-in-Prod.ensures c.get-in-Prod-2.ensures)
    (l.product_safe _ c.product_of_sums.result _ (term_of c.get-in-Prod.result.now) (term_of c.get-in-Prod-2.result.now) (monomials_of c.in_ok-first-in-Prod.first.items)
    (monomials_of c.in_ok-second-in-Prod.second.items) c.product_of_sums.ensures.range c.in_ok-first-in-Prod.ensures.value c.in_ok-second-in-Prod.ensures.value)

-- ---- the functions of single nodes
pub opposite-returns-clause-value : goal.opposite-returns-clause-value
opposite-returns-clause-value t c = n.negative_sum _ (term_of c.args.a.now) _ _ _ c.in_ok-negated.ensures c.in_ok-ms.ensures.value

pub derivative-returns-in_err-ms-clause-range : goal.derivative-returns-in_err-ms-clause-range
derivative-returns-in_err-ms-clause-range t c =
    let p = err_from_is_err_and c.from_residual.result c.from_residual.ensures.1 in
    rw (p.1, p.2) (λ h. c.in_err-ms.ensures.range (s.safe_derived _ c.args.at (term_of c.args.body.now) h))

pub derivative-returns-clause-value : goal.derivative-returns-clause-value
derivative-returns-clause-value t c =
    l.derivative_value _ c.derivative_of_sum.result (names_of c.args.bounds.now) c.args.at c.index_value.result (term_of c.args.body.now) (monomials_of c.in_ok-ms.ms.items) c.index_value.ensures
    c.derivative_of_sum.ensures.value c.in_ok-ms.ensures.value

pub derivative-returns-clause-range : goal.derivative-returns-clause-range
derivative-returns-clause-range t c =
    l.derivative_safe _ c.derivative_of_sum.result (names_of c.args.bounds.now) c.args.at c.index_value.result (term_of c.args.body.now) (monomials_of c.in_ok-ms.ms.items) c.index_value.ensures
    c.derivative_of_sum.ensures.range c.in_ok-ms.ensures.value

pub over-returns-in_err-ms-clause-range : goal.over-returns-in_err-ms-clause-range
over-returns-in_err-ms-clause-range t c =
    let p = err_from_is_err_and c.from_residual.result c.from_residual.ensures.1 in
    rw (p.1, p.2) (λ h. c.in_err-ms.ensures.range (s.safe_below _ c.args.index c.args.dim (term_of c.args.body.now) h))

pub over-loop-k-preserved : goal.over-loop-k-preserved
over-loop-k-preserved t c =
    n.one_more_below _ (term_of c.args.body.now) c.args.index (names_of c.args.bounds.now) c.loop-k.k _ _ _ c.in_ok-all.ensures c.loop-k.invariant c.in_ok-ms.ensures.value

pub over-returns-clause-value : goal.over-returns-clause-value
over-returns-clause-value t c =
    let e : c.loop-k.k ≡ c.args.dim = omega (arith, c.loop-k-test.false, c.loop-k.auto.k-end) in
    n.over_sum _ (term_of c.args.body.now) c.args.index c.args.dim _ _
    (subst (λ k. IsSumBelowOf (table_of c.args.elements.now) (term_of c.args.body.now) c.args.index (names_of c.args.bounds.now) k (monomials_of c.loop-k.all.items)) e c.loop-k.invariant)

pub item-returns-in-Some-clause-value : goal.item-returns-in-Some-clause-value
item-returns-in-Some-clause-value t c =
    l.item_value _ c.sum.result (names_of c.args.bounds.now) c.args.items.now c.args.which c.in-Some.item.now (l.got_at c.args.items.now c.args.which c.in-Some.item.now c.in-Some.ensures.lookup.3.0 c.in-Some.ensures.lookup.1) c.sum.ensures.value

pub item-returns-in-Some-clause-range : goal.item-returns-in-Some-clause-range
item-returns-in-Some-clause-range t c =
    l.item_memory _ c.sum.result c.args.items.now c.args.which c.in-Some.item.now (l.got_at c.args.items.now c.args.which c.in-Some.item.now c.in-Some.ensures.lookup.3.0 c.in-Some.ensures.lookup.1) c.sum.ensures.range

pub item-returns-in-None-clause-value : goal.item-returns-in-None-clause-value
item-returns-in-None-clause-value t c = λ i e. n.no_item _ c.args.items.now i _ c.args.which _ (ap monomials_of c.new.ensures.items) e (l.none_at c.args.items.now c.args.which c.in-None.ensures.lookup.3)
