use Rattle.std.proofs.Common.{◌≡◌, ◌≤◌, ◌-◌, length, drop}
use Rattle.slices.specs.FormTable.{string_length}
use Rattle.slices.proofs.Form.{behind}
use Rattle.slices.proofs.form_table.string_length.Given as goal

-- the bytes so far count, and those from here on are to be looked at
abbrev pub invariant-all : goal.invariant-all
invariant-all l = (l.at ≤ length l.text) × (string_length l.quote l.text ≡ behind l.at (string_length l.quote (drop l.at l.text)))

abbrev pub decreases-all : goal.decreases-all
decreases-all l = length l.text - l.at
