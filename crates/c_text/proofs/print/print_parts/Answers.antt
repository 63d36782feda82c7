use Rattle.c_text.proofs.Appended.{on_err, extends_behind}
use Rattle.c_text.proofs.print.print_parts.Goals as goal

pub returns-in_err-print_part-clause-kept : goal.returns-in_err-print_part-clause-kept
returns-in_err-print_part-clause-kept c = on_err _ (extends_behind _ _ _ _ c.loop-part.invariant.1 c.in_err-print_part.ensures.kept)
