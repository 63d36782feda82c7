use Rattle.std.proofs.Common.{◌≡◌, length, take}
use Rattle.spaces.specs.Space.{scalars_of}
use Rattle.spaces.specs.Reading.{spaces_in}
use Rattle.passes.proofs.pieces.+counts.Given as goal

abbrev pub invariant-count_all-loop-part : goal.invariant-count_all-loop-part
invariant-count_all-loop-part l = l.total ≡ length (scalars_of (spaces_in (take l.part-index l.parts)))
