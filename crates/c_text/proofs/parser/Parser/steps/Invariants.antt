use Rattle.std.proofs.Common.{◌≡◌, ◌≤◌, ℕ}
use Rattle.c_text.specs.Stream.{repeat_while}
use Rattle.c_text.specs.Places.{steps_at, add_step, goes_on}
use Rattle.c_text.specs.Parser.{stream, left}
use Rattle.c_text.proofs.parser.Parser.steps.Given as goal

abbrev pub invariant-all : goal.invariant-all
invariant-all l = record {
  shorter : left l.self ≤ left l.fn.self;
  read : (m : ℕ) × (left l.self ≤ m)
      × (steps_at l.depth l.line (stream l.fn.self) ≡ repeat_while (goes_on l.depth) (add_step l.depth) m (record { steps = l.steps; from = l.from; line = l.last }) (stream l.self));
}

abbrev pub decreases-all : goal.decreases-all
decreases-all l = left l.self
