use Rattle.std.proofs.Common.{◌≡◌, ◌≤◌, ◌+◌, ◌-◌, length, drop}
use Rattle.slices.specs.FormGap.{after_gap, blanks}
use Rattle.slices.proofs.form_toks.past_gap.Given as goal

-- where the gap ends stays the same
abbrev pub invariant-all : goal.invariant-all
invariant-all l =
    record {
      lower : l.from ≤ l.at;
      upper : l.at ≤ length l.text;
      lines : l.lines + l.from ≤ l.line + l.at;
      same : after_gap blanks l.quiet (drop l.from l.text) l.from l.line ≡ after_gap blanks l.quiet (drop l.at l.text) l.at l.lines;
    }

abbrev pub decreases-all : goal.decreases-all
decreases-all l = length l.text - l.at
