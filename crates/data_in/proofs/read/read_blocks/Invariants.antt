use Rattle.std.proofs.Common.{◌≡◌, map}
use Rattle.data_in.specs.CoefficientValues.{fractions, values_in}
use Rattle.data_in.specs.DataReading.{within}
use Rattle.data_in.specs.Reader.{left_of, remaining, behind_blocks, RiseTo}
use Rattle.data_in.proofs.read.read_blocks.Given as goal

abbrev pub invariant-all : goal.invariant-all
invariant-all l = record {
  says : remaining l.fn.lines (within 0 0) ≡ behind_blocks (fractions (map values_in l.blocks.items)) (remaining l.lines (within l.low 0));
  rise : RiseTo 0 (map values_in l.blocks.items) l.low;
}

abbrev pub decreases-all : goal.decreases-all
decreases-all l = left_of l.lines
