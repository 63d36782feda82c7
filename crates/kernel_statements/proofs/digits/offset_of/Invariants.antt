use Rattle.std.proofs.Common.{◌≡◌, drop}
use Rattle.monos.specs.Layout.{place_of as place_in}
use Rattle.kernel_statements.proofs.digits.offset_of.Given as goal

abbrev pub invariant-loop-place : goal.invariant-loop-place
invariant-loop-place l = place_in (drop l.place-index l.places) l.number ≡ place_in l.places l.number
