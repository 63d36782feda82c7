use Rattle.std.proofs.Common.{◌∙◌}
use Rattle.ufl_tree.specs.Reading.{term_of}
use Rattle.passes.proofs.ResultLaws.{ok_as}
use Rattle.derivatives.proofs.DerivativeNodes as l
use Rattle.derivatives.proofs.derivation.+differentiating.Goals as goal

pub derivative-returns-in-Num : goal.derivative-returns-in-Num
derivative-returns-in-Num t c = c.zero.ensures ∙ l.in_num c.args.by.now c.args.e.now _ c.in-Num.is

pub derivative-returns-in-Fun : goal.derivative-returns-in-Fun
derivative-returns-in-Fun t c = ok_as term_of c.of_function.result _ _ (l.in_fun c.args.by.now c.args.e.now c.in-Fun.f c.in-Fun.at _ c.in-Fun.is c.as_slice.ensures) c.of_function.ensures

pub derivative-returns-in_ok-slope-in-Mark : goal.derivative-returns-in_ok-slope-in-Mark
derivative-returns-in_ok-slope-in-Mark t c =
    ok_as term_of c.of_mark.result _ _
    (l.in_mark c.args.by.now c.args.e.now c.in-Mark.label c.in-Mark.at _ c.in-Mark.body c.get.result.now c.in-Mark.is c.as_slice-in-Mark.ensures c.get.ensures)
    (c.of_mark.ensures (term_of c.get.result.now) c.in_ok-slope-in-Mark.ensures)

pub derivative-returns-in_ok-slope-in-Neg : goal.derivative-returns-in_ok-slope-in-Neg
derivative-returns-in_ok-slope-in-Neg t c =
    ok_as term_of c.neg.result _ _ (l.in_neg c.args.by.now c.args.e.now c.in-Neg.a c.get-in-Neg.result.now _ c.in-Neg.is c.get-in-Neg.ensures c.in_ok-slope-in-Neg.ensures) c.neg.ensures

pub derivative-returns-in_ok-other-in-Sum : goal.derivative-returns-in_ok-other-in-Sum
derivative-returns-in_ok-other-in-Sum t c =
    ok_as term_of c.sum.result _ _
    (l.in_sum c.args.by.now c.args.e.now c.in-Sum.a c.in-Sum.b c.get-in-Sum.result.now c.get-in-Sum-2.result.now _ _ c.in-Sum.is c.get-in-Sum.ensures c.get-in-Sum-2.ensures
    c.in_ok-slope-in-Sum.ensures c.in_ok-other-in-Sum.ensures)
    c.sum.ensures

pub derivative-returns-in_ok-other-in-Prod : goal.derivative-returns-in_ok-other-in-Prod
derivative-returns-in_ok-other-in-Prod t c =
    ok_as term_of c.of_product.result _ _
    (l.in_prod c.args.by.now c.args.e.now c.in-Prod.a c.in-Prod.b c.get-in-Prod.result.now c.get-in-Prod-2.result.now c.get-in-Prod-3.result.now c.get-in-Prod-4.result.now _ _
    c.in-Prod.is c.get-in-Prod.ensures c.get-in-Prod-2.ensures c.get-in-Prod-3.ensures c.get-in-Prod-4.ensures c.in_ok-slope-in-Prod.ensures c.in_ok-other-in-Prod.ensures)
    c.of_product.ensures

pub derivative-returns-in_ok-slope-in-Over : goal.derivative-returns-in_ok-slope-in-Over
derivative-returns-in_ok-slope-in-Over t c =
    ok_as term_of c.over.result _ _
    (l.in_over c.args.by.now c.args.e.now c.in-Over.index c.in-Over.dim c.in-Over.body c.get-in-Over.result.now _ c.in-Over.is c.get-in-Over.ensures c.in_ok-slope-in-Over.ensures) c.over.ensures

pub derivative-returns-in_ok-slope-in-Dx : goal.derivative-returns-in_ok-slope-in-Dx
derivative-returns-in_ok-slope-in-Dx t c =
    ok_as term_of c.dx.result _ _
    (l.in_dx c.args.by.now c.args.e.now c.in-Dx.at c.in-Dx.body c.get-in-Dx.result.now _ c.in-Dx.is c.get-in-Dx.ensures c.in_ok-slope-in-Dx.ensures) c.dx.ensures

pub derivative-returns-in-Delta : goal.derivative-returns-in-Delta
derivative-returns-in-Delta t c = c.zero-in-Delta.ensures ∙ l.in_delta c.args.by.now c.args.e.now _ _ c.in-Delta.is

pub derivative-returns-in_ok-slopes-in-Pick : goal.derivative-returns-in_ok-slopes-in-Pick
derivative-returns-in_ok-slopes-in-Pick t c =
    c.pick.ensures
    ∙ l.in_pick c.args.by.now c.args.e.now c.in-Pick.at c.in-Pick.items c.as_slice-in-Pick.result.now _ c.in-Pick.is c.as_slice-in-Pick.ensures c.in_ok-slopes-in-Pick.ensures

pub derivative-returns-in-Raise : goal.derivative-returns-in-Raise
derivative-returns-in-Raise t c = c.zero-in-Raise.ensures ∙ l.in_raise c.args.by.now c.args.e.now _ _ _ c.in-Raise.is

pub derivative-returns-in-Turn : goal.derivative-returns-in-Turn
derivative-returns-in-Turn t c = c.zero-in-Turn.ensures ∙ l.in_turn c.args.by.now c.args.e.now _ _ _ c.in-Turn.is
