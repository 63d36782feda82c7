use Rattle.std.proofs.Common.{◌≡◌, ◌≤◌, length, drop, List, ◌-◌, ◌∷◌}
use Rattle.ufl_syntax.specs.Machine.{Part, run, later_names}
use Rattle.ufl_read.proofs.Lines.{NamesGrow}
use Rattle.ufl_read.proofs.statements.later_targets.Given as goal

abbrev pub invariant-all : goal.invariant-all
invariant-all l =
    (l.from ≤ l.at)
    × NamesGrow (drop l.from l.tokens) (drop l.at l.tokens) l.names l.fn.before
    × ((stack : List Part) → run (later_names ∷ stack) (drop l.from l.tokens) ≡ run (later_names ∷ stack) (drop l.at l.tokens))

abbrev pub decreases-all : goal.decreases-all
decreases-all l = length l.tokens - l.at
