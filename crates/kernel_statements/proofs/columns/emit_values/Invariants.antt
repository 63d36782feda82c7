use Rattle.std.proofs.Common.{drop, length, reverse}
use Rattle.kernel_statements.proofs.ColumnLaws.{ValuesLeft}
use Rattle.kernel_statements.proofs.columns.emit_values.Given as goal

-- the coefficients that are left, from the last on
abbrev pub invariant-loop-coefficient : goal.invariant-loop-coefficient
invariant-loop-coefficient l =
    ValuesLeft l.d l.fn.start l.columns (drop (length l.yielded) (reverse l.coefficients)) (reverse l.coefficients) l.fn.body l.body
