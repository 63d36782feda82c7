use Rattle.std.proofs.Common.{◌≡◌, ◌-◌, ◌*◌, ◌++◌, drop}
use Rattle.c_unit.specs.Meaning.{fractions_of}
use Rattle.kernel_runs.specs.Planned.{straight_rows}
use Rattle.kernel_statements.specs.Emitted.{cut}
use Rattle.kernel_statements.proofs.rows.Products.emit_straight.Given as goal

-- the statements so far and those of the rows that are left are all
abbrev pub invariant-loop-k : goal.invariant-loop-k
invariant-loop-k l =
    l.body ++ straight_rows 32 l.self.values l.self.at l.self.table l.self.columns l.k (cut l.self.columns (l.self.rows - l.k) (fractions_of (drop (l.k * l.self.columns) l.items)))
    ≡ l.fn.body ++ straight_rows 32 l.self.values l.self.at l.self.table l.self.columns 0 (cut l.self.columns l.self.rows (fractions_of l.items))
