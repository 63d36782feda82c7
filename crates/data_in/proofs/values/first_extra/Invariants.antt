use Rattle.std.proofs.Common.{◌≡◌}
use Rattle.data_in.proofs.BlockLaws.{extra_from}
use Rattle.data_in.proofs.values.first_extra.Given as goal

abbrev pub invariant-loop-block : goal.invariant-loop-block
invariant-loop-block l = extra_from l.known l.blocks 0 ≡ extra_from l.known l.blocks l.block-index
