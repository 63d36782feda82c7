use Rattle.std.proofs.Common.{rules, append_assoc}
use Rattle.std.proofs.lemmas.Result.{IfOk-equal}
use Rattle.c_text.proofs.Texts.{text_place}
use Rattle.c_text.proofs.print.print_place.Goals as goal

pub returns-clause-ok : goal.returns-clause-ok
returns-clause-ok c = rw text_place (search (rules, IfOk-equal, append_assoc))
