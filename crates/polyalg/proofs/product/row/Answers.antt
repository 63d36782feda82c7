use Rattle.std.proofs.lemmas.List.{drop_all}
use Rattle.polyalg.proofs.RowLaws.{row_done}
use Rattle.polyalg.proofs.product.row.Goals as goal

pub returns-clause-row : goal.returns-clause-row
returns-clause-row c = row_done c.args.factor.now _ _ c.args.terms.now (drop_all c.loop-term.term-index c.args.terms.now c.loop-term-test.false) c.loop-term.invariant
