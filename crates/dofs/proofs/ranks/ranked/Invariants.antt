use Rattle.dofs.proofs.RankLaws.{AreRanked}
use Rattle.dofs.proofs.ranks.ranked.Given as goal

abbrev pub invariant-loop-i : goal.invariant-loop-i
invariant-loop-i l = AreRanked l.keys l.items.items l.i l.row l.labels.items l.ranks.items
