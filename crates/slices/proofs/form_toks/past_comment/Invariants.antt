use Rattle.std.proofs.Common.{◌≡◌, ◌≤◌, ◌-◌, ℕ, Bool, length, drop}
use Rattle.slices.specs.FormGap.{after_gap, comment}
use Rattle.slices.proofs.form_toks.past_comment.Given as goal

abbrev pub invariant-loop-at : goal.invariant-loop-at
invariant-loop-at l =
    (l.from ≤ l.at) × (l.at ≤ length l.text)
    × ((quiet : Bool) (line : ℕ) → after_gap comment quiet (drop l.from l.text) l.from line ≡ after_gap comment quiet (drop l.at l.text) l.at line)

abbrev pub decreases-loop-at : goal.decreases-loop-at
decreases-loop-at l = length l.text - l.at
