use Rattle.std.proofs.Common.{drop}
use Rattle.tensors.proofs.ColumnLaws.{IsCounted}
use Rattle.tensors.proofs.formed.column_count.Given as goal

abbrev pub invariant-loop-atom : goal.invariant-loop-atom
invariant-loop-atom l = IsCounted l.l l.atoms (drop l.atom-index l.atoms) l.count
