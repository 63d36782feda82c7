use Rattle.std.proofs.Common.{◌≡◌, drop}
use Rattle.spaces.specs.Scalar.{appended, laid_out}
use Rattle.spaces.specs.Space.{scalars_of}
use Rattle.spaces.specs.Reading.{spaces_in}
use Rattle.spaces.proofs.element.joined.Given as goal

-- what is left, behind what is there, makes the whole
abbrev pub invariant-loop-part : goal.invariant-loop-part
invariant-loop-part l = appended l.all (scalars_of (spaces_in (drop l.part-index l.parts))) ≡ laid_out (scalars_of (spaces_in l.parts))
