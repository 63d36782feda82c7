use Rattle.std.proofs.Common.{[], ◌∷◌, ◌≡◌, length, ◌-◌}
use Rattle.ufl_syntax.specs.Machine.{run, statements}
use Rattle.ufl_read.proofs.Lines.{Whole}
use Rattle.ufl_read.proofs.statements.read_statements.Given as goal
use Rattle.std.proofs.Common.{drop}

abbrev pub invariant-all : goal.invariant-all
invariant-all l = Whole 64 l.tokens l.at l.all × (run (statements 64 ∷ []) l.tokens ≡ run (statements 64 ∷ []) (drop l.at l.tokens))

abbrev pub decreases-all : goal.decreases-all
decreases-all l = length l.tokens - l.at
