use Rattle.std.proofs.Common.{◌≡◌, ◌++◌, drop}
use Rattle.kernel_statements.specs.Placed.{placed_code}
use Rattle.kernel_statements.proofs.entries.emit_entries.Given as goal

-- the statements so far and those of the entries that are left are all
abbrev pub invariant-loop-entry : goal.invariant-loop-entry
invariant-loop-entry l = l.body ++ placed_code 32 l.values (drop l.entry-index l.entries) ≡ l.fn.body ++ placed_code 32 l.values l.entries
