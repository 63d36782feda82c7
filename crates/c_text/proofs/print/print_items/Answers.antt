use Rattle.std.proofs.Common.{◌∙◌, sym, ap}
use Rattle.c_text.specs.Pieces.{text_of}
use Rattle.c_text.specs.Layout.{items_pieces}
use Rattle.c_text.proofs.Appended.{ok_behind}
use Rattle.c_text.proofs.Texts.{text_items}
use Rattle.c_text.proofs.print.print_items.Goals as goal

pub returns-clause-ok : goal.returns-clause-ok
returns-clause-ok c =
    ok_behind _ _ _ _ _ _ _ c.in_ok-print_parts.ensures.ok
    (sym (text_items c.in-Some.first.now c.in-Some.others.now) ∙ ap (λ l. text_of (items_pieces l)) (sym c.in-Some.ensures.cases.0))
    c.print_more_items.ensures.ok
