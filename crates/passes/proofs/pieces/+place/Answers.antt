use Rattle.std.proofs.Common.{arith}
use Rattle.ufl_tree.proofs.ReadingLaws.{term_of-Pick}
use Rattle.lower.specs.Lowering.{place_term}
use Rattle.passes.proofs.PieceLaws.{placed_next, placed_all}
use Rattle.passes.proofs.pieces.+place.Goals as goal

pub loop-j-preserved : goal.loop-j-preserved
loop-j-preserved t c =
    placed_next c.loop-j.items c.push.new.self c.in_ok-place.field-0 c.loop-j.j c.in_ok-there.there c.in_ok-start.start
    (λ k. place_term c.args.f c.args.first c.in-Some.inner.now k c.in-Some-split_first.rest.now c.args.next) c.loop-j.invariant c.in_ok-push.ensures.ok c.in_ok-there.ensures c.in_ok-place.ensures

pub returns : goal.returns
returns t c =
    placed_all c.args.f c.args.first c.args.number c.args.next c.in_ok-start.start c.loop-j.j c.in-Some.size.now c.args.shape.now c.in-Some.inner.now c.args.at.now c.in-Some-split_first.rest.now c.in-Some-split_first.i.now
    c.loop-j.items _ c.in-Some.ensures.cases.0 c.in-Some-split_first.ensures.cases.0 c.in_ok-start.ensures (omega arith) c.loop-j.invariant (term_of-Pick _ _)
