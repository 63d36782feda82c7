use Rattle.std.proofs.Common.{◌≡◌, ◌≤◌, ◌-◌, ℕ, map}
use Rattle.ratio.specs.Value.{fraction_of}
use Rattle.data_in.specs.DataReading.{within}
use Rattle.data_in.specs.Reader.{left_of, remaining, behind_values}
use Rattle.data_in.proofs.read.read_values.Given as goal

abbrev pub invariant-values : goal.invariant-values
invariant-values l = record {
  says : (low : ℕ) → remaining l.fn.lines (within low l.count) ≡ behind_values (map fraction_of l.values.items) (remaining l.lines (within low (l.count - l.counter)));
  left : left_of l.lines ≤ left_of l.fn.lines;
}
