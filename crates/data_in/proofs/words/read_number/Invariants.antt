use Rattle.mesh_in.proofs.NumberLemmas.{IsReading}
use Rattle.data_in.proofs.words.read_number.Given as goal

abbrev pub invariant-loop-digit : goal.invariant-loop-digit
invariant-loop-digit l = IsReading l.number l.digit-index l.word
