use Rattle.std.proofs.Common.{◌≡◌, ◌≤◌, ◌+◌, ◌++◌, ℕ, List, length}
use Rattle.ends.proofs.real.append_file.Given as goal

-- what was read so far, and what is left to read
abbrev pub invariant-loop-left : goal.invariant-loop-left
invariant-loop-left g l = (bytes : List ℕ) × (length bytes + l.left ≤ l.most) × (l.into.items ≡ l.initial.into.items ++ bytes)

abbrev pub decreases-loop-left : goal.decreases-loop-left
decreases-loop-left g l = l.left
