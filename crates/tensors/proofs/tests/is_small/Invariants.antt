use Rattle.std.proofs.Common.{drop}
use Rattle.tensors.proofs.SpreadLaws.{IsSpread}
use Rattle.tensors.proofs.tests.is_small.Given as goal

abbrev pub invariant-loop-atom : goal.invariant-loop-atom
invariant-loop-atom l = IsSpread l.l l.atoms (drop l.atom-index l.atoms) l.spread
