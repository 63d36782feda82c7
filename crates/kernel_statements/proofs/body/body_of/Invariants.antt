use Rattle.std.proofs.Common.{◌≡◌, ◌++◌, drop}
use Rattle.kernel_runs.specs.Preamble.{preamble}
use Rattle.kernel_statements.specs.Statements.{all_statements}
use Rattle.kernel_statements.proofs.body.body_of.Given as goal

-- the statements so far and those of the contractions that are left are all
abbrev pub invariant-loop-table : goal.invariant-loop-table
invariant-loop-table l =
    l.body ++ all_statements l.d l.buffers l.entries l.table (drop l.table l.contractions)
    ≡ preamble l.d ++ all_statements l.d l.buffers l.entries 0 l.contractions
