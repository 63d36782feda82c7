use Rattle.std.proofs.Common.{◌≡◌, ◌≤◌, length}
use Rattle.data_in.specs.DataReading.{Place}
use Rattle.data_in.specs.Reader.{left_of, remaining}
use Rattle.data_in.proofs.lines.Lines.next.Given as goal

abbrev pub invariant-lines : goal.invariant-lines
invariant-lines l = record {
  says : (p : Place) → remaining l.fn.self p ≡ remaining l.self p;
  shorter : left_of l.self ≤ left_of l.fn.self;
}

abbrev pub decreases-lines : goal.decreases-lines
decreases-lines l = length l.self.rest.now
