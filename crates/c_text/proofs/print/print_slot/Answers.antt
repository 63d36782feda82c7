use Rattle.std.proofs.Common.{rules, append_assoc}
use Rattle.std.proofs.lemmas.Result.{IfOk-equal}
use Rattle.c_text.proofs.Texts.{text_slot}
use Rattle.c_text.proofs.print.print_slot.Goals as goal

pub returns-clause-ok : goal.returns-clause-ok
returns-clause-ok c = rw text_slot (search (rules, IfOk-equal, append_assoc))
