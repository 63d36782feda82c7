use Rattle.std.proofs.Common.{◌≡◌, ◌-◌}
use Rattle.mesh_in.specs.Line.{words}
use Rattle.mesh_in.specs.Number.{number_of}
use Rattle.mesh_in.specs.MeshText.{row}
use Rattle.mesh_in.specs.Reader.{appended}
use Rattle.mesh_in.proofs.rows.push_numbers.Given as goal

abbrev pub invariant-words : goal.invariant-words
invariant-words l = appended l.numbers.items (row number_of (l.count - l.counter) (words l.rest)) ≡ appended l.fn.numbers.items (row number_of l.count (words l.line.text.now))
