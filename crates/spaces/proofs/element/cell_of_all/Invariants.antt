use Rattle.std.proofs.Common.{◌≡◌, drop}
use Rattle.spaces.specs.Space.{same_cells}
use Rattle.spaces.specs.Reading.{spaces_in}
use Rattle.spaces.proofs.element.cell_of_all.Given as goal

abbrev pub invariant-loop-part : goal.invariant-loop-part
invariant-loop-part l = same_cells l.cell (spaces_in l.rest) ≡ same_cells l.cell (spaces_in (drop l.part-index l.rest))
