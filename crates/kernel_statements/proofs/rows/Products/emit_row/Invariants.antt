use Rattle.std.proofs.Common.{◌≡◌, ◌+◌, ◌*◌, ◌++◌, drop}
use Rattle.c_unit.specs.Meaning.{fractions_of}
use Rattle.kernel_runs.specs.Planned.{straight_row}
use Rattle.kernel_statements.proofs.RowLaws.{row_left}
use Rattle.kernel_statements.proofs.rows.Products.emit_row.Given as goal

-- the statements so far and those of the items that are left are all
abbrev pub invariant-loop-column : goal.invariant-loop-column
invariant-loop-column l =
    l.body ++ row_left l.first 32 (l.self.values + l.k) (l.self.at + l.column) l.self.table (l.self.columns * l.k + l.column) (fractions_of (drop l.column l.row))
    ≡ l.fn.body ++ straight_row 32 (l.self.values + l.k) l.self.at l.self.table (l.self.columns * l.k) (fractions_of l.row)
