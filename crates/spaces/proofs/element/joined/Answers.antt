use Rattle.spaces.proofs.PartsLaws.{appended-step}
use Rattle.spaces.proofs.SpaceLaws.{left_scalars, room_for_all, described_at}
use Rattle.spaces.proofs.element.joined.Goals as goal

pub push_all-requires : goal.push_all-requires
push_all-requires c =
    let d = described_at _ c.part-item.result _ _ _ c.part.view_is c.part.invariant in
    room_for_all c.loop-part.all _ _ _ _
    (left_scalars c.args.parts.now c.loop-part.part-index c.part-item.result _ _ c.loop-part-test.true c.part-item.is c.items.ensures d.parts_are)
    c.loop-part.invariant c.requires

pub loop-part-preserved : goal.loop-part-preserved
loop-part-preserved c =
    let d = described_at _ c.part-item.result _ _ _ c.part.view_is c.part.invariant in
    appended-step c.loop-part.all _ _ _ _ _
    (left_scalars c.args.parts.now c.loop-part.part-index c.part-item.result c.items.result.now _ c.loop-part-test.true c.part-item.is c.items.ensures d.parts_are)
    c.in_ok-push_all.ensures c.loop-part.invariant
