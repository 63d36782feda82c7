use Rattle.std.proofs.Common.{refl, ◌∙◌, ap}
use Rattle.ufl_tree.specs.Reading.{term_of}
use Rattle.ufl_tree.specs.Term.{num, fun, mark, neg, sum, prod, over, dx, delta, pick}
use Rattle.ufl_tree.proofs.ReadingLaws as r
use Rattle.passes.proofs.ResultLaws.{ok_as}
use Rattle.integrands.specs.Substitution.{put, substituted}
use Rattle.integrands.proofs.SubstitutionLaws.{each_substituted}
use Rattle.integrands.proofs.NodeLaws as l
use Rattle.integrands.proofs.substitution.+substituting.Goals as goal

pub substituted-returns-in-Num : goal.substituted-returns-in-Num
substituted-returns-in-Num t c =
    l.leaf (substituted c.args.by) c.args.e.now (num c.in-Num.c) _ (ap term_of c.in-Num.is ∙ r.term_of-Num _) (r.term_of-Num _)

pub substituted-returns-in-Fun : goal.substituted-returns-in-Fun
substituted-returns-in-Fun t c =
    ok_as term_of c.put.result _ _
    (l.leaf (substituted c.args.by) c.args.e.now (fun c.in-Fun.f c.in-Fun.at) _ (ap term_of c.in-Fun.is ∙ r.term_of-Fun _ _) (ap (put c.args.by c.in-Fun.f) c.as_slice.ensures))
    c.put.ensures

pub substituted-returns-in_ok-inner-in-Mark : goal.substituted-returns-in_ok-inner-in-Mark
substituted-returns-in_ok-inner-in-Mark t c =
    ok_as term_of c.mark.result _ _
    (ap (λ at. mark c.in-Mark.label at (term_of c.in_ok-inner-in-Mark.inner)) c.as_slice-in-Mark.ensures
    ∙ l.over_one (substituted c.args.by) c.args.e.now (mark c.in-Mark.label c.in-Mark.at) (mark c.in-Mark.label c.in-Mark.at) c.in-Mark.body c.get.result.now _
    (λ x. refl) (ap term_of c.in-Mark.is ∙ r.term_of-Mark _ _ _) c.get.ensures c.in_ok-inner-in-Mark.ensures)
    c.mark.ensures

pub substituted-returns-in_ok-inner-in-Neg : goal.substituted-returns-in_ok-inner-in-Neg
substituted-returns-in_ok-inner-in-Neg t c =
    ok_as term_of c.neg.result _ _
    (l.over_one (substituted c.args.by) c.args.e.now neg neg c.in-Neg.a c.get-in-Neg.result.now _
    (λ x. refl) (ap term_of c.in-Neg.is ∙ r.term_of-Neg _) c.get-in-Neg.ensures c.in_ok-inner-in-Neg.ensures)
    c.neg.ensures

pub substituted-returns-in_ok-right-in-Sum : goal.substituted-returns-in_ok-right-in-Sum
substituted-returns-in_ok-right-in-Sum t c =
    ok_as term_of c.sum.result _ _
    (l.over_two (substituted c.args.by) c.args.e.now sum sum c.in-Sum.a c.in-Sum.b c.get-in-Sum.result.now c.get-in-Sum-2.result.now _ _
    (λ x y. refl) (ap term_of c.in-Sum.is ∙ r.term_of-Sum _ _) c.get-in-Sum.ensures c.get-in-Sum-2.ensures c.in_ok-left-in-Sum.ensures c.in_ok-right-in-Sum.ensures)
    c.sum.ensures

pub substituted-returns-in_ok-right-in-Prod : goal.substituted-returns-in_ok-right-in-Prod
substituted-returns-in_ok-right-in-Prod t c =
    ok_as term_of c.prod.result _ _
    (l.over_two (substituted c.args.by) c.args.e.now prod prod c.in-Prod.a c.in-Prod.b c.get-in-Prod.result.now c.get-in-Prod-2.result.now _ _
    (λ x y. refl) (ap term_of c.in-Prod.is ∙ r.term_of-Prod _ _) c.get-in-Prod.ensures c.get-in-Prod-2.ensures c.in_ok-left-in-Prod.ensures c.in_ok-right-in-Prod.ensures)
    c.prod.ensures

pub substituted-returns-in_ok-inner-in-Over : goal.substituted-returns-in_ok-inner-in-Over
substituted-returns-in_ok-inner-in-Over t c =
    ok_as term_of c.over.result _ _
    (l.over_one (substituted c.args.by) c.args.e.now (over c.in-Over.index c.in-Over.dim) (over c.in-Over.index c.in-Over.dim) c.in-Over.body c.get-in-Over.result.now _
    (λ x. refl) (ap term_of c.in-Over.is ∙ r.term_of-Over _ _ _) c.get-in-Over.ensures c.in_ok-inner-in-Over.ensures)
    c.over.ensures

pub substituted-returns-in_ok-inner-in-Dx : goal.substituted-returns-in_ok-inner-in-Dx
substituted-returns-in_ok-inner-in-Dx t c =
    ok_as term_of c.dx.result _ _
    (l.over_one (substituted c.args.by) c.args.e.now (dx c.in-Dx.at) (dx c.in-Dx.at) c.in-Dx.body c.get-in-Dx.result.now _
    (λ x. refl) (ap term_of c.in-Dx.is ∙ r.term_of-Dx _ _) c.get-in-Dx.ensures c.in_ok-inner-in-Dx.ensures)
    c.dx.ensures

pub substituted-returns-in-Delta : goal.substituted-returns-in-Delta
substituted-returns-in-Delta t c =
    l.leaf (substituted c.args.by) c.args.e.now (delta c.in-Delta.i c.in-Delta.j) _ (ap term_of c.in-Delta.is ∙ r.term_of-Delta _ _) c.delta.ensures

pub substituted-returns-in_ok-all-in-Pick : goal.substituted-returns-in_ok-all-in-Pick
substituted-returns-in_ok-all-in-Pick t c =
    c.pick.ensures
    ∙ l.over_all (substituted c.args.by) c.args.e.now c.in-Pick.at c.in-Pick.items c.as_slice-in-Pick.result.now _ (ap (pick c.in-Pick.at) (each_substituted c.args.by c.in-Pick.items))
    (ap term_of c.in-Pick.is ∙ r.term_of-Pick _ _) c.as_slice-in-Pick.ensures c.in_ok-all-in-Pick.ensures

pub substituted-returns-in-Raise : goal.substituted-returns-in-Raise
substituted-returns-in-Raise t c =
    l.leaf (substituted c.args.by) c.args.e.now _ _ (ap term_of c.in-Raise.is ∙ r.term_of-Raise _ _ _) c.zero.ensures

pub substituted-returns-in-Turn : goal.substituted-returns-in-Turn
substituted-returns-in-Turn t c =
    l.leaf (substituted c.args.by) c.args.e.now _ _ (ap term_of c.in-Turn.is ∙ r.term_of-Turn _ _ _) c.zero-in-Turn.ensures
