use Rattle.std.proofs.Common.{◌∙◌, sym, ap, drop, ◌++◌, ◌+◌}
use Rattle.c_text.specs.Pieces.{text_of}
use Rattle.c_text.specs.Layout.{table_pieces, tables_pieces}
use Rattle.c_text.proofs.Appended.{on_err, extends_behind, goes_on}
use Rattle.c_text.proofs.Texts.{text_tables_next}
use Rattle.c_text.proofs.print.print_tables.Goals as goal

pub loop-number-preserved : goal.loop-number-preserved
loop-number-preserved c =
    let i = c.loop-number.number in
    goes_on _ _ _ _ _ _ _ _ c.loop-number.invariant.1 c.loop-number.invariant.2
    (text_tables_next c.args.tables.now i c.index-tables-number.result c.loop-number-test.true c.index-tables-number.is
    ∙ ap (λ x. text_of (table_pieces i x) ++ text_of (tables_pieces (i + 1) (drop (i + 1) c.args.tables.now))) (sym c.as_slice.ensures))
    c.in_ok-print_table.ensures.ok

pub returns-in_err-print_table-clause-kept : goal.returns-in_err-print_table-clause-kept
returns-in_err-print_table-clause-kept c = on_err _ (extends_behind _ _ _ _ c.loop-number.invariant.1 c.in_err-print_table.ensures.kept)
