use Rattle.std.proofs.Common.{rules, append_assoc}
use Rattle.std.proofs.lemmas.Result.{IfOk-equal}
use Rattle.c_text.proofs.Texts.{text_value}
use Rattle.c_text.proofs.print.print_fraction.Goals as goal

pub returns-clause-ok : goal.returns-clause-ok
returns-clause-ok c = rw text_value (search (rules, IfOk-equal, append_assoc))
