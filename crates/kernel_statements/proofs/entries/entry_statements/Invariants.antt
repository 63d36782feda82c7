use Rattle.std.proofs.Common.{◌≡◌, ℕ, ◌+◌, ◌*◌, ◌≤◌, drop}
use Rattle.c_unit.specs.Meaning.{written_list}
use Rattle.kernel_statements.specs.Placed.{placed_code}
use Rattle.kernel_statements.proofs.entries.entry_statements.Given as goal

-- those so far and those of the entries that are left are all
abbrev pub invariant-loop-entry : goal.invariant-loop-entry
invariant-loop-entry l = record {
  written : (values : ℕ) → l.count + written_list (placed_code 32 values (drop l.entry-index l.entries)) ≡ written_list (placed_code 32 values l.entries);
  few : l.count ≤ 3 * l.entry-index;
}
