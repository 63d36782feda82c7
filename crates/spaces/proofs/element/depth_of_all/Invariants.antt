use Rattle.std.proofs.Common.{drop}
use Rattle.spaces.specs.Reading.{spaces_in}
use Rattle.spaces.proofs.SpaceLaws.{Surveyed}
use Rattle.spaces.proofs.element.depth_of_all.Given as goal

abbrev pub invariant-loop-part : goal.invariant-loop-part
invariant-loop-part l = Surveyed l.depth l.count (spaces_in l.parts) (spaces_in (drop l.part-index l.parts))
