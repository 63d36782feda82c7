use Rattle.std.proofs.Common.{sym, refl}
use Rattle.c_text.proofs.Appended.{ok_behind}
use Rattle.c_text.proofs.Texts.{text_table}
use Rattle.c_text.proofs.print.print_table.Goals as goal

pub returns-clause-ok : goal.returns-clause-ok
returns-clause-ok c =
    ok_behind _ _ _ _ _ _ _ c.in_ok-print_parts.ensures.ok (sym (text_table c.args.number c.args.items.now))
    (ok_behind _ _ _ _ _ _ _ c.in_ok-print_items.ensures.ok refl c.print_text.ensures.ok)
