use Rattle.std.proofs.Common.{◌≡◌, ℕ, ◌<◌, get_or, true}
use Rattle.mesh_in.specs.Line.{is_blank}
use Rattle.data_in.proofs.words.word_start.Given as goal

abbrev pub invariant-loop-at : goal.invariant-loop-at
invariant-loop-at l = (k : ℕ) → k < l.at → is_blank (get_or l.line k 0) ≡ true
