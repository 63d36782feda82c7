use Rattle.std.proofs.Common.{◌∙◌, ap, arith}
use Rattle.ufl_tree.specs.Reading.{term_of}
use Rattle.ufl_tree.proofs.ReadingLaws as r
use Rattle.passes.specs.Names.{renaming_of}
use Rattle.passes.proofs.ResultLaws.{ok_as}
use Rattle.derivatives.proofs.ExpandedNodes as l
use Rattle.derivatives.proofs.expanding.+expanding.Goals as goal

pub expanded-returns-in-Num : goal.expanded-returns-in-Num
expanded-returns-in-Num t c = r.term_of-Num _ ∙ l.in_num (renaming_of c.args.names.now) c.args.next c.args.e.now _ c.in-Num.is

pub expanded-returns-in-Fun : goal.expanded-returns-in-Fun
expanded-returns-in-Fun t c =
    ok_as term_of c.function.result _ _ (l.in_fun (renaming_of c.args.names.now) c.args.next c.args.e.now c.in-Fun.f c.in-Fun.at _ c.in-Fun.is c.as_slice.ensures) c.function.ensures

pub expanded-returns-in_ok-inner-in-Mark : goal.expanded-returns-in_ok-inner-in-Mark
expanded-returns-in_ok-inner-in-Mark t c =
    ok_as term_of c.mark.result _ _
    (l.in_mark (renaming_of c.args.names.now) c.args.next c.args.e.now c.in-Mark.label c.in-Mark.at _ c.in-Mark.body c.get.result.now _ c.in-Mark.is c.as_slice-in-Mark.ensures c.get.ensures c.in_ok-inner-in-Mark.ensures)
    c.mark.ensures

pub expanded-returns-in_ok-inner-in-Neg : goal.expanded-returns-in_ok-inner-in-Neg
expanded-returns-in_ok-inner-in-Neg t c =
    ok_as term_of c.neg.result _ _
    (l.in_neg (renaming_of c.args.names.now) c.args.next c.args.e.now c.in-Neg.a c.get-in-Neg.result.now _ c.in-Neg.is c.get-in-Neg.ensures c.in_ok-inner-in-Neg.ensures) c.neg.ensures

pub expanded-returns-in_ok-right-in-Sum : goal.expanded-returns-in_ok-right-in-Sum
expanded-returns-in_ok-right-in-Sum t c =
    ok_as term_of c.sum.result _ _
    (l.in_sum (renaming_of c.args.names.now) c.args.next c.args.e.now c.in-Sum.a c.in-Sum.b c.get-in-Sum.result.now c.get-in-Sum-2.result.now _ _ c.in-Sum.is
    c.get-in-Sum.ensures c.get-in-Sum-2.ensures c.in_ok-left-in-Sum.ensures c.in_ok-right-in-Sum.ensures)
    c.sum.ensures

pub expanded-returns-in_ok-right-in-Prod : goal.expanded-returns-in_ok-right-in-Prod
expanded-returns-in_ok-right-in-Prod t c =
    ok_as term_of c.prod.result _ _
    (l.in_prod (renaming_of c.args.names.now) c.args.next c.args.e.now c.in-Prod.a c.in-Prod.b c.get-in-Prod.result.now c.get-in-Prod-2.result.now _ _ c.in-Prod.is
    c.get-in-Prod.ensures c.get-in-Prod-2.ensures c.in_ok-left-in-Prod.ensures c.in_ok-right-in-Prod.ensures)
    c.prod.ensures

pub expanded-returns-in-Over : goal.expanded-returns-in-Over
expanded-returns-in-Over t c =
    ok_as term_of c.summed.result _ _
    (l.in_over (renaming_of c.args.names.now) c.args.next c.args.e.now c.in-Over.index c.in-Over.dim c.in-Over.body c.get-in-Over.result.now c.in-Over.is c.get-in-Over.ensures) c.summed.ensures

pub expanded-returns-in_ok-inner-in-Dx : goal.expanded-returns-in_ok-inner-in-Dx
expanded-returns-in_ok-inner-in-Dx t c =
    ok_as term_of c.dx.result _ _
    (l.in_dx (renaming_of c.args.names.now) c.args.next c.args.e.now c.in-Dx.at _ c.in-Dx.body c.get-in-Dx.result.now _ c.in-Dx.is c.renamed.ensures c.get-in-Dx.ensures c.in_ok-inner-in-Dx.ensures)
    c.dx.ensures

pub expanded-returns-in-Delta : goal.expanded-returns-in-Delta
expanded-returns-in-Delta t c =
    c.delta.ensures ∙ l.in_delta (renaming_of c.args.names.now) c.args.next c.args.e.now c.in-Delta.i c.in-Delta.j _ _ c.in-Delta.is c.renamed-in-Delta.ensures c.renamed-in-Delta-2.ensures

pub expanded-returns-in_ok-all-in-Pick : goal.expanded-returns-in_ok-all-in-Pick
expanded-returns-in_ok-all-in-Pick t c =
    c.pick.ensures
    ∙ l.in_pick (renaming_of c.args.names.now) c.args.next c.args.e.now c.in-Pick.at _ c.in-Pick.items c.as_slice-in-Pick.result.now _ c.in-Pick.is c.renamed-in-Pick.ensures
    c.as_slice-in-Pick.ensures c.in_ok-all-in-Pick.ensures

pub expanded-returns-in_ok-inner-in-Raise : goal.expanded-returns-in_ok-inner-in-Raise
expanded-returns-in_ok-inner-in-Raise t c =
    ok_as term_of c.raised.result _ _
    (l.in_raise (renaming_of c.args.names.now) c.args.next c.args.e.now c.in-Raise.label c.in-Raise.at _ c.in-Raise.body c.get-in-Raise.result.now _ c.in-Raise.is
    c.as_slice-in-Raise.ensures c.get-in-Raise.ensures c.in_ok-inner-in-Raise.ensures)
    c.raised.ensures

pub expanded-returns-in_ok-inner-in-Turn : goal.expanded-returns-in_ok-inner-in-Turn
expanded-returns-in_ok-inner-in-Turn t c =
    ok_as term_of c.turned.result _ _
    (l.in_turn (renaming_of c.args.names.now) c.args.next c.args.e.now c.in-Turn.coef c.in-Turn.dir c.in-Turn.body c.get-in-Turn.result.now _ c.in-Turn.is c.get-in-Turn.ensures c.in_ok-inner-in-Turn.ensures)
    c.turned.ensures

pub summed-returns : goal.summed-returns
summed-returns t c =
    ok_as term_of c.over.result _ _
    (l.in_summed c.args.index c.args.dim c.args.next c.in_ok-own.own _ _ (renaming_of c.args.names.now) (term_of c.args.body.now) _ c.in_ok-own.ensures.is (omega arith)
    (ap renaming_of c.as_slice.ensures ∙ c.in_ok-inside.ensures) c.in_ok-inner.ensures)
    c.over.ensures
