use Rattle.std.proofs.Common.{◌≡◌, ◌≤◌, ◌-◌, length, drop, None}
use Rattle.ufl_read.specs.Refusals.{started}
use Rattle.ufl_read.proofs.refusal.statement_line.Given as goal

abbrev pub invariant-all : goal.invariant-all
invariant-all l = (l.at ≤ length l.tokens) × (started None l.tokens ≡ started l.line (drop l.at l.tokens))

abbrev pub decreases-all : goal.decreases-all
decreases-all l = length l.tokens - l.at
