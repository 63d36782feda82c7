use Rattle.std.proofs.Common.{◌≡◌, ◌≤◌, ◌+◌, ◌-◌, length, drop}
use Rattle.slices.specs.White.{after_white}
use Rattle.slices.proofs.toks.past_white.Given as goal

-- what is left without white space stays the same
abbrev pub invariant-loop-at : goal.invariant-loop-at
invariant-loop-at l =
    record {
      lower : l.from ≤ l.at;
      upper : l.at ≤ length l.text;
      lines : l.lines ≤ l.at + 1;
      same : after_white (drop l.from l.text) l.from l.line ≡ after_white (drop l.at l.text) l.at l.lines;
    }

abbrev pub decreases-loop-at : goal.decreases-loop-at
decreases-loop-at l = length l.text - l.at
