use Rattle.c_text.proofs.Appended.{on_err, extends_behind, goes_on}
use Rattle.c_text.proofs.Texts.{text_more_next}
use Rattle.c_text.proofs.print.print_more_items.Goals as goal

pub loop-item-preserved : goal.loop-item-preserved
loop-item-preserved c =
    goes_on _ _ _ _ _ _ _ _ c.loop-item.invariant.1 c.loop-item.invariant.2
    (text_more_next c.args.items.now c.loop-item.item-index c.item-item.result c.loop-item-test.true c.item-item.is)
    c.in_ok-print_parts.ensures.ok

pub returns-in_err-print_parts-clause-kept : goal.returns-in_err-print_parts-clause-kept
returns-in_err-print_parts-clause-kept c = on_err _ (extends_behind _ _ _ _ c.loop-item.invariant.1 c.in_err-print_parts.ensures.kept)
