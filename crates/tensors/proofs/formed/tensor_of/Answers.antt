use Rattle.std.proofs.Common.{ap, ◌∙◌}
use Rattle.monos.specs.Monomial.{monomial_of}
use Rattle.monomial_weights.specs.Columns.{column_count}
use Rattle.tensors.proofs.BoundLaws.{rows_within}
use Rattle.tensors.proofs.RowLaws.{AreKept, all_stored, all_rows}
use Rattle.tensors.proofs.formed.tensor_of.Goals as goal

pub invariant_of-result : goal.invariant_of-result
invariant_of-result c =
    let k : AreKept c.args.l.now (monomial_of c.args.m.now) c.in_ok-kept.kept.tests c.in_ok-kept.kept.trials c.column_count-columns.result c.in_ok-kept.kept.items.items c.in_ok-zeros.zeros.items = record {
      tests_are = c.in_ok-kept.ensures.tests;
      trials_are = c.in_ok-kept.ensures.trials;
      columns_are = c.column_count-columns.ensures.count ∙ ap (λ xs. column_count c.args.l.now xs) c.as_slice.ensures;
      kept_are = c.in_ok-kept.ensures.items;
      are_zeros = c.in_ok-zeros.ensures.zero;
      count = c.in_ok-zeros.ensures.count;
    } in
    all_stored c.args.l.now (monomial_of c.args.m.now) c.in_ok-kept.kept.tests c.in_ok-kept.kept.trials c.column_count-columns.result c.in_ok-kept.kept.items.items c.in_ok-zeros.zeros.items
    c.requires.layout k c.entry_count.result c.entry_count-2.result c.entry_count.ensures c.entry_count-2.ensures c.column_count-columns.ensures.few

pub returns-clause-rows : goal.returns-clause-rows
returns-clause-rows c =
    let k : AreKept c.args.l.now (monomial_of c.args.m.now) c.in_ok-kept.kept.tests c.in_ok-kept.kept.trials c.column_count-columns.result c.in_ok-kept.kept.items.items c.in_ok-zeros.zeros.items = record {
      tests_are = c.in_ok-kept.ensures.tests;
      trials_are = c.in_ok-kept.ensures.trials;
      columns_are = c.column_count-columns.ensures.count ∙ ap (λ xs. column_count c.args.l.now xs) c.as_slice.ensures;
      kept_are = c.in_ok-kept.ensures.items;
      are_zeros = c.in_ok-zeros.ensures.zero;
      count = c.in_ok-zeros.ensures.count;
    } in
    all_rows c.args.l.now (monomial_of c.args.m.now) c.in_ok-kept.kept.tests c.in_ok-kept.kept.trials c.column_count-columns.result c.in_ok-kept.kept.items.items c.in_ok-zeros.zeros.items
    c.requires.layout k c.entry_count.result c.entry_count-2.result c.entry_count.ensures c.entry_count-2.ensures

pub returns-clause-bounds : goal.returns-clause-bounds
returns-clause-bounds c w a h =
    rows_within c.args.l.now.d w (monomial_of c.args.m.now) a c.in_ok-kept.kept.tests c.in_ok-kept.kept.trials c.entry_count.result c.entry_count-2.result c.column_count-columns.result
    c.in_ok-kept.kept.items.items c.in_ok-zeros.zeros.items (c.in_ok-kept.ensures.bounds w a h) c.in_ok-zeros.ensures.zero
