use Rattle.std.proofs.Common.{◌≡◌, map, drop}
use Rattle.spaces.specs.Scalar.{scalar_of, appended}
use Rattle.spaces.proofs.parts.Parts.push_all.Given as goal

-- what is left, behind what is there, makes the whole
abbrev pub invariant-loop-part : goal.invariant-loop-part
invariant-loop-part l = appended l.self (map scalar_of (drop l.part-index l.parts)) ≡ appended l.initial.self (map scalar_of l.parts)
