use Rattle.std.proofs.Common.{◌≡◌, take}
use Rattle.c_unit.specs.Meaning.{written_list}
use Rattle.c_run.specs.Answer.{number}
use Rattle.c_run.proofs.block.+written.Given as goal

abbrev pub invariant-loop-s : goal.invariant-loop-s
invariant-loop-s l = l.count ≡ number (written_list (take l.s-index l.body))
