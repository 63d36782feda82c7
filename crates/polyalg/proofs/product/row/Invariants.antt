use Rattle.std.proofs.Common.{drop}
use Rattle.polyalg.proofs.RowLaws.{RowSoFar}
use Rattle.polyalg.proofs.product.row.Given as goal

abbrev pub invariant-loop-term : goal.invariant-loop-term
invariant-loop-term l = RowSoFar l.factor l.out.items (drop l.term-index l.terms) l.terms
