use Rattle.kernel_statements.specs.Counted.{counted_rows, is_multiple, is_zero_row}
use Rattle.kernel_statements.proofs.CountedLaws.{all_contained, counted_all, counted_apart, counted_nonzero}
use Rattle.kernel_statements.proofs.laws.counted.Goals as goal

pub returns-clause-nonzero : goal.returns-clause-nonzero
returns-clause-nonzero c rows row h = all_contained _ (counted_rows rows) row (counted_nonzero rows) h

pub returns-clause-apart : goal.returns-clause-apart
returns-clause-apart c rows before behind row other e h = all_contained _ before other (counted_apart rows before behind row e) h

pub returns-clause-all : goal.returns-clause-all
returns-clause-all c rows row h z = counted_all rows row h z
