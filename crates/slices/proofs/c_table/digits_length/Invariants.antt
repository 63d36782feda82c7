use Rattle.std.proofs.Common.{◌≡◌, ◌≤◌, ◌+◌, ◌-◌, length, drop}
use Rattle.slices.specs.CTable.{span, is_digit}
use Rattle.slices.proofs.c_table.digits_length.Given as goal

-- the bytes so far count, and those from here on are to be counted
abbrev pub invariant-loop-at : goal.invariant-loop-at
invariant-loop-at l = (l.from ≤ l.at) × (l.at ≤ length l.text) × (span is_digit (drop l.from l.text) ≡ (l.at - l.from) + span is_digit (drop l.at l.text))

abbrev pub decreases-loop-at : goal.decreases-loop-at
decreases-loop-at l = length l.text - l.at
