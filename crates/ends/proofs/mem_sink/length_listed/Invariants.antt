use Rattle.std.proofs.Common.{◌≡◌, drop}
use Rattle.ends.specs.SinkInMemory.{listed}
use Rattle.ends.proofs.mem_sink.length_listed.Given as goal

-- no pair so far has the number
abbrev pub invariant-loop-pair : goal.invariant-loop-pair
invariant-loop-pair l = listed (drop l.pair-index l.pairs) l.number ≡ listed l.pairs l.number
