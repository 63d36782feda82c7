use Rattle.std.proofs.Common.{refl, ◌∙◌, ap}
use Rattle.ufl_tree.specs.Reading.{term_of}
use Rattle.ufl_tree.specs.Term.{fun, mark, neg, sum, over, dx, pick}
use Rattle.ufl_tree.proofs.ReadingLaws as r
use Rattle.passes.proofs.ResultLaws.{ok_as}
use Rattle.integrands.specs.Sides.{left_side}
use Rattle.integrands.proofs.SidesLaws.{each_left, left_product}
use Rattle.integrands.proofs.NodeLaws as l
use Rattle.integrands.proofs.sides.+taking_sides.Goals as goal

pub left_side-returns-in-Num : goal.left_side-returns-in-Num
left_side-returns-in-Num t c = l.leaf left_side c.args.e.now _ _ (ap term_of c.in-Num.is ∙ r.term_of-Num _) c.zero.ensures

pub left_side-returns-in-Fun : goal.left_side-returns-in-Fun
left_side-returns-in-Fun t c =
    ok_as term_of c.trial.result _ _
    (l.leaf left_side c.args.e.now (fun c.in-Fun.f c.in-Fun.at) _ (ap term_of c.in-Fun.is ∙ r.term_of-Fun _ _) (ap (λ at. left_side (fun c.in-Fun.f at)) c.as_slice.ensures))
    c.trial.ensures

pub left_side-returns-in-Mark : goal.left_side-returns-in-Mark
left_side-returns-in-Mark t c =
    ok_as term_of c.left_side.result _ _
    (l.over_one left_side c.args.e.now (mark c.in-Mark.label c.in-Mark.at) (λ x. x) c.in-Mark.body c.get.result.now _
    (λ x. refl) (ap term_of c.in-Mark.is ∙ r.term_of-Mark _ _ _) c.get.ensures refl)
    c.left_side.ensures

pub left_side-returns-in_ok-inner-in-Neg : goal.left_side-returns-in_ok-inner-in-Neg
left_side-returns-in_ok-inner-in-Neg t c =
    ok_as term_of c.neg.result _ _
    (l.over_one left_side c.args.e.now neg neg c.in-Neg.a c.get-in-Neg.result.now _
    (λ x. refl) (ap term_of c.in-Neg.is ∙ r.term_of-Neg _) c.get-in-Neg.ensures c.in_ok-inner-in-Neg.ensures)
    c.neg.ensures

pub left_side-returns-in_ok-right-in-Sum : goal.left_side-returns-in_ok-right-in-Sum
left_side-returns-in_ok-right-in-Sum t c =
    ok_as term_of c.sum.result _ _
    (l.over_two left_side c.args.e.now sum sum c.in-Sum.a c.in-Sum.b c.get-in-Sum.result.now c.get-in-Sum-2.result.now _ _
    (λ x y. refl) (ap term_of c.in-Sum.is ∙ r.term_of-Sum _ _) c.get-in-Sum.ensures c.get-in-Sum-2.ensures c.in_ok-left-in-Sum.ensures c.in_ok-right-in-Sum.ensures)
    c.sum.ensures

pub left_side-returns-in_ok-right-in-Prod : goal.left_side-returns-in_ok-right-in-Prod
left_side-returns-in_ok-right-in-Prod t c =
    ok_as term_of c.of_product.result _ _
    (left_product c.args.e.now c.in-Prod.a c.in-Prod.b c.get-in-Prod.result.now c.get-in-Prod-2.result.now c.get-in-Prod-3.result.now c.get-in-Prod-4.result.now _ _
    (ap term_of c.in-Prod.is ∙ r.term_of-Prod _ _) c.get-in-Prod.ensures c.get-in-Prod-2.ensures c.get-in-Prod-3.ensures c.get-in-Prod-4.ensures
    c.in_ok-left-in-Prod.ensures c.in_ok-right-in-Prod.ensures)
    c.of_product.ensures

pub left_side-returns-in_ok-inner-in-Over : goal.left_side-returns-in_ok-inner-in-Over
left_side-returns-in_ok-inner-in-Over t c =
    ok_as term_of c.over.result _ _
    (l.over_one left_side c.args.e.now (over c.in-Over.index c.in-Over.dim) (over c.in-Over.index c.in-Over.dim) c.in-Over.body c.get-in-Over.result.now _
    (λ x. refl) (ap term_of c.in-Over.is ∙ r.term_of-Over _ _ _) c.get-in-Over.ensures c.in_ok-inner-in-Over.ensures)
    c.over.ensures

pub left_side-returns-in_ok-inner-in-Dx : goal.left_side-returns-in_ok-inner-in-Dx
left_side-returns-in_ok-inner-in-Dx t c =
    ok_as term_of c.dx.result _ _
    (l.over_one left_side c.args.e.now (dx c.in-Dx.at) (dx c.in-Dx.at) c.in-Dx.body c.get-in-Dx.result.now _
    (λ x. refl) (ap term_of c.in-Dx.is ∙ r.term_of-Dx _ _) c.get-in-Dx.ensures c.in_ok-inner-in-Dx.ensures)
    c.dx.ensures

pub left_side-returns-in-Delta : goal.left_side-returns-in-Delta
left_side-returns-in-Delta t c = l.leaf left_side c.args.e.now _ _ (ap term_of c.in-Delta.is ∙ r.term_of-Delta _ _) c.zero-in-Delta.ensures

pub left_side-returns-in_ok-all-in-Pick : goal.left_side-returns-in_ok-all-in-Pick
left_side-returns-in_ok-all-in-Pick t c =
    c.pick.ensures
    ∙ l.over_all left_side c.args.e.now c.in-Pick.at c.in-Pick.items c.as_slice-in-Pick.result.now _ (ap (pick c.in-Pick.at) (each_left c.in-Pick.items))
    (ap term_of c.in-Pick.is ∙ r.term_of-Pick _ _) c.as_slice-in-Pick.ensures c.in_ok-all-in-Pick.ensures

pub left_side-returns-in-Raise : goal.left_side-returns-in-Raise
left_side-returns-in-Raise t c = l.leaf left_side c.args.e.now _ _ (ap term_of c.in-Raise.is ∙ r.term_of-Raise _ _ _) c.zero-in-Raise.ensures

pub left_side-returns-in-Turn : goal.left_side-returns-in-Turn
left_side-returns-in-Turn t c = l.leaf left_side c.args.e.now _ _ (ap term_of c.in-Turn.is ∙ r.term_of-Turn _ _ _) c.zero-in-Turn.ensures
