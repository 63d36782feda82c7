use Rattle.std.proofs.Common.{◌++◌, ◌-◌}
use Rattle.assembly.specs.LentRows.{lent_count}
use Rattle.answers.specs.ValuesText.{header_line}
use Rattle.answers.proofs.PushLaws.{ArePushed}
use Rattle.answers.proofs.values_text.push_values.Given as goal

-- the lines of the rows so far
abbrev pub invariant-loop-row : goal.invariant-loop-row
invariant-loop-row l = ArePushed l.fn.rows l.rows (l.fn.text.items ++ header_line l.name l.rank (lent_count l.fn.rows) l.cols) l.text.items

abbrev pub decreases-loop-row : goal.decreases-loop-row
decreases-loop-row l = lent_count l.rows - l.rows.next
