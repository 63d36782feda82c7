use Rattle.std.proofs.Common.{◌+◌, max, ap, ◌∙◌}
use Rattle.spaces.specs.Reading.{space_of}
use Rattle.spaces.proofs.SpaceLaws.{surveyed_step, drop_spaces, described_at}
use Rattle.spaces.proofs.element.depth_of_all.Goals as goal

pub loop-part-preserved : goal.loop-part-preserved
loop-part-preserved c =
    let d = described_at _ _ _ _ _ c.part.view_is c.part.invariant in
    surveyed_step c.loop-part.depth c.loop-part.count _ _ _ _ _ (space_of c.part-item.result)
    (drop_spaces c.args.parts.now c.loop-part.part-index c.part-item.result c.loop-part-test.true c.part-item.is) d.lawful
    (c.max-depth.ensures ∙ ap (max c.loop-part.depth) d.depth_is)
    (ap (λ k. c.loop-part.count + k) c.value_size-count.ensures.size) c.if-count-gt-MOST_PARTS.false c.loop-part.invariant
